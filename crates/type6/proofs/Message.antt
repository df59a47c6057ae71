-- What is known of a Type 6 tag that reads: it passes the checks, NLEN says what it holds, and what it holds fits. A tag that agrees
-- with it in bytes 0 to 7 passes the checks again, if its NLEN is in order.
-- Assumes nothing.
use mathlib.Core.Path.{◌≡◌, refl, sym, ap, subst, ◌∙◌}
use mathlib.Core.Bool.{Bool, true}
use mathlib.Core.List.{List}
use Prim.Native.Nat.{ℕ, zero, suc, ◌+◌, ◌*◌, ◌/◌, ◌<◌, ◌≤◌}
use native.Mathlib.Nat.{mul-le-mul_left, mul-div_cancel_left}
use native.Mathlib.Omega.{arith}
use borrow.Author.Tests.{leb-true, le-leb, eqb-true}
use lib.Dec.{leb}
use lib.ListN.{length, take, drop, length-take}
use Rattle.tag.specs.Bytes.{byte}
use Rattle.tag.specs.Checks.{Checked, fine, fault, first_of}
use Rattle.tag.specs.Reading.{Report, unreadable, reads, broken, nothing, holds, held_of}
use Rattle.tag.proofs.Logic.{and_l, and_r, and_both, nope}
use Rattle.tag.proofs.Checks.{AllPass, fine-all, all-fine, OfReading, first-among}
use Rattle.tag.proofs.Runs.{map-run}
use Rattle.tag.proofs.Chunks.{rounded-up}
use Rattle.type6.specs.Container.{size_by, tag_block_size, block_count, container_blocks, file_block, file_at, file_room, capacity, nlen_at, nlen, checks, may_write}
use Rattle.type6.specs.Message.{report_of, reading}
use Rattle.type6.specs.Codec.{size_defined}

-- ---- the checks

abbrev pub Passes : List ℕ → Type 0
Passes i = AllPass (checks i)

pub size-bounds : (x : ℕ) → (0 < size_by x) × (size_by x ≤ 32)
unfolding size_by
size-bounds x = (omega arith, omega arith)

pub size-defined : (x : ℕ) → size_defined (size_by x) ≡ true
size-defined x = and_both (le-leb 1 (size_by x) (size-bounds x).0) (le-leb (size_by x) 32 (size-bounds x).1)

-- the file starts past the container
pub container_blocks-past : (z : ℕ) → 0 < z → 8 ≤ z * container_blocks z
unfolding container_blocks
container_blocks-past z p = (rounded-up z 8 p).0

-- what they say of lengths
pub record Bounds (i : List ℕ) : Type 0 where
  pub least : 8 ≤ length i
  pub short : length i ≤ 8192
  pub some_size : 0 < tag_block_size i
  pub blocks_are : length i / tag_block_size i ≡ block_count i
  pub whole : length i ≡ tag_block_size i * (length i / tag_block_size i)
  pub past : 8 ≤ file_at i
  pub room : 2 ≤ file_room i
  pub inside : file_at i + file_room i ≤ length i
  pub guard-inside : file_block i < block_count i
  pub nlen_fits : nlen i ≤ capacity i

inside-by : (z g x b n : ℕ) → n ≡ z * b → g + x ≤ b → z * g + z * x ≤ n
inside-by z g x b n e l = let h : z * (g + x) ≤ z * b = mul-le-mul_left z l in omega arith

-- a file that has room has a block
file-some : (z x : ℕ) → 2 ≤ z * x → 0 < x
file-some z zero l = omega arith
file-some z (suc x) l = omega arith

blocks-by : (z b n : ℕ) → 0 < z → n ≡ z * b → n / z ≡ b
blocks-by z b n p e = rw e (mul-div_cancel_left b p)

pub bounds : (i : List ℕ) → Passes i → Bounds i
bounds i c =
    let p : 0 < tag_block_size i = (size-bounds (byte i 5)).0 in
    let n : length i ≡ tag_block_size i * block_count i = eqb-true (length i) (tag_block_size i * block_count i) c.1.1.1.1.0 in
    let file : file_block i + byte i 7 ≤ block_count i = leb-true (file_block i + byte i 7) (block_count i) c.1.1.1.1.1.0 in
    let room : 2 ≤ file_room i = leb-true 2 (file_room i) c.1.1.1.1.1.1.0 in
    let are : length i / tag_block_size i ≡ block_count i = blocks-by (tag_block_size i) (block_count i) (length i) p n in
    record {
      least = leb-true 8 (length i) (and_l (leb 8 (length i)) (leb (length i) 8192) c.0);
      short = leb-true (length i) 8192 (and_r (leb 8 (length i)) (leb (length i) 8192) c.0);
      some_size = p;
      blocks_are = are;
      whole = n ∙ ap (λ b. tag_block_size i * b) (sym are);
      past = container_blocks-past (tag_block_size i) p;
      room = room;
      inside = inside-by (tag_block_size i) (file_block i) (byte i 7) (block_count i) (length i) n file;
      guard-inside = omega (arith, file-some (tag_block_size i) (byte i 7) room);
      nlen_fits = leb-true (nlen i) (capacity i) c.1.1.1.1.1.1.1.0;
    }

-- ---- a tag with the same container

abbrev pub Agrees : List ℕ → List ℕ → Type 0
Agrees j i = (k : ℕ) → k < 8 → byte j k ≡ byte i k

pub same_size : (j i : List ℕ) → Agrees j i → tag_block_size j ≡ tag_block_size i
same_size j i h = ap size_by (h 5 (omega arith))

pub same-file : (j i : List ℕ) → Agrees j i → file_at j ≡ file_at i
same-file j i h = ap (λ z. z * container_blocks z) (same_size j i h)

same-letters : (j i : List ℕ) → Agrees j i → 8 ≤ length i → length j ≡ length i → take 3 j ≡ take 3 i
same-letters j i h l e =
    sym (map-run 3 0 j (omega arith)) ∙ cc (h 0 (omega arith), h 1 (omega arith), h 2 (omega arith)) ∙ map-run 3 0 i (omega arith)

pub checks-of : (i j : List ℕ) → length j ≡ length i → Agrees j i → Passes i → nlen_at (file_at i) j ≤ capacity i → Passes j
checks-of i j l h c n =
    let e3 : byte j 3 ≡ byte i 3 = h 3 (omega arith) in
    let e4 : byte j 4 ≡ byte i 4 = h 4 (omega arith) in
    let e5 : byte j 5 ≡ byte i 5 = h 5 (omega arith) in
    let e6 : byte j 6 ≡ byte i 6 = h 6 (omega arith) in
    let e7 : byte j 7 ≡ byte i 7 = h 7 (omega arith) in (
      rw l c.0,
      (
        rw (same-letters j i h (bounds i c).least l) c.1.0,
        (
          rw e3 c.1.1.0,
          (
            rw e6 c.1.1.1.0,
            (
              rw (l, e4, e5) c.1.1.1.1.0,
              (rw (e4, e5, e7) c.1.1.1.1.1.0, (rw (e5, e7) c.1.1.1.1.1.1.0, (rw (e5, e7) (le-leb _ _ n), tt))),
            ),
          ),
        ),
      ),
    )

-- ---- reading by the checks

-- a test that fails gives its refusal
pub unread : (i : List ℕ) (r : ℕ) → first_of (checks i) ≡ fault r → reading i ≡ unreadable r
unfolding reading
unread i r e = rw e

pub passes-reads : (i : List ℕ) → Passes i → reading i ≡ reads (report_of (may_write i) (capacity i) (file_at i) i (nlen i))
unfolding reading
passes-reads i c = rw (all-fine (checks i) c)

-- so its refusal is one of reading's, 1 to 8
pub numbered : (i : List ℕ) (r : ℕ) → reading i ≡ unreadable r → OfReading r
numbered i r e = go (first_of (checks i)) refl
  where
    go : (c : Checked) → first_of (checks i) ≡ c → OfReading r
    go fine q =
        let f : reads (report_of (may_write i) (capacity i) (file_at i) i (nlen i)) ≡ unreadable r = sym (passes-reads i (fine-all (checks i) q)) ∙ e in
        absurd (nope (cc))
    go (fault s) q =
        let f : unreadable s ≡ unreadable r = sym (unread i s q) ∙ e in
        let p : s ≡ r = cc in
        subst OfReading p
        (first-among OfReading (checks i) (
          (omega arith, omega arith),
          (
            (omega arith, omega arith),
            (
              (omega arith, omega arith),
              ((omega arith, omega arith), ((omega arith, omega arith), ((omega arith, omega arith), ((omega arith, omega arith), ((omega arith, omega arith), tt))))),
            ),
          ),
        ) s q)

pub reads-passes : (i : List ℕ) → (held_of (reading i) ≡ broken → ⊥) → Passes i
reads-passes i h = go (first_of (checks i)) refl
  where
    go : (c : Checked) → first_of (checks i) ≡ c → Passes i
    go fine q = fine-all (checks i) q
    go (fault r) q = absurd (h (ap held_of (unread i r q)))

-- the report of a tag that reads
pub report-is : (i : List ℕ) (p : Report) → reading i ≡ reads p → Passes i × (report_of (may_write i) (capacity i) (file_at i) i (nlen i) ≡ p)
report-is i p e = go (first_of (checks i)) refl
  where
    go : (c : Checked) → first_of (checks i) ≡ c → Passes i × (report_of (may_write i) (capacity i) (file_at i) i (nlen i) ≡ p)
    go (fault r) q = let f : unreadable r ≡ reads p = sym (unread i r q) ∙ e in absurd (nope (cc))
    go fine q =
        let c : Passes i = fine-all (checks i) q in
        let f : reads (report_of (may_write i) (capacity i) (file_at i) i (nlen i)) ≡ reads p = sym (passes-reads i c) ∙ e in
        (c, cc)

-- whether it is writable, and its capacity
report-says : (w : Bool) (c f : ℕ) (i : List ℕ) (n : ℕ) → ((report_of w c f i n).writable ≡ w) × ((report_of w c f i n).capacity ≡ c)
report-says w c f i zero = (refl, refl)
report-says w c f i (suc n) = (refl, refl)

pub reads-writable : (i : List ℕ) (p : Report) → reading i ≡ reads p → p.writable ≡ may_write i
reads-writable i p e = ap (λ x. x.writable) (sym (report-is i p e).1) ∙ (report-says (may_write i) (capacity i) (file_at i) i (nlen i)).0

pub reads-capacity : (i : List ℕ) (p : Report) → reading i ≡ reads p → p.capacity ≡ capacity i
reads-capacity i p e = ap (λ x. x.capacity) (sym (report-is i p e).1) ∙ (report-says (may_write i) (capacity i) (file_at i) i (nlen i)).1

-- ---- what a tag that passes them holds

-- NLEN 0: no message
pub held-empty : (j : List ℕ) → Passes j → nlen j ≡ 0 → held_of (reading j) ≡ nothing
held-empty j c e = rw (passes-reads j c) (rw e)

report-some : (w : Bool) (c f : ℕ) (j : List ℕ) (n : ℕ) → (n ≡ 0 → ⊥) → held_of (reads (report_of w c f j n)) ≡ holds (take n (drop (2 + f) j))
report-some w c f j zero z = absurd (z refl)
report-some w c f j (suc n) z = refl

pub held-some : (j : List ℕ) (n : ℕ) → Passes j → nlen j ≡ n → (n ≡ 0 → ⊥) → held_of (reading j) ≡ holds (take n (drop (2 + file_at j) j))
held-some j n c e z =
    ap held_of (passes-reads j c) ∙ ap (λ k. held_of (reads (report_of (may_write j) (capacity j) (file_at j) j k))) e
    ∙ report-some (may_write j) (capacity j) (file_at j) j n z

-- what it holds fits
pub held_fits : (j m : List ℕ) → held_of (reading j) ≡ holds m → length m ≤ capacity j
held_fits j m e =
    let c : Passes j = reads-passes j (λ f. nope (cc)) in
    let f : held_of (reads (report_of (may_write j) (capacity j) (file_at j) j (nlen j))) ≡ holds m = sym (ap held_of (passes-reads j c)) ∙ e in
    omega (arith, by_length (nlen j) f, (bounds j c).nlen_fits)
  where
    by_length : (n : ℕ) → held_of (reads (report_of (may_write j) (capacity j) (file_at j) j n)) ≡ holds m → length m ≤ n
    by_length zero f = absurd (nope (cc))
    by_length (suc n) f =
        let g : take (suc n) (drop (2 + file_at j) j) ≡ m = cc in
        omega (arith, length-take (suc n) (drop (2 + file_at j) j), ap length g)
