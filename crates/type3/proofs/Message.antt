-- What is known of a Type 3 tag that reads: it passes the checks, WriteFlag and Ln say what it holds, and what it holds fits.
-- A tag that agrees with it in bytes 0 to 8 and 10 passes the checks again, if its WriteFlag, Ln and checksum are in order.
-- Assumes nothing.
use mathlib.Core.Path.{◌≡◌, refl, sym, ap, subst, ◌∙◌}
use mathlib.Core.Bool.{Bool, true, false, not, ◌||◌, cond}
use mathlib.Core.List.{List}
use Prim.Native.Nat.{ℕ, zero, suc, ◌+◌, ◌*◌, ◌/◌, ◌≤◌}
use native.Mathlib.Omega.{arith}
use borrow.Author.Tests.{leb-true, le-leb, eqb-true, eq-eqb}
use lib.Dec.{leb, eqb}
use lib.ListN.{length, take, drop, length-take}
use Rattle.tag.specs.Bytes.{byte}
use Rattle.tag.specs.Checks.{Checked, fine, fault, first_of}
use Rattle.tag.specs.Reading.{empty, being-written, Report, unreadable, reads, broken, nothing, holds, held_of}
use Rattle.tag.proofs.Logic.{and-three, and_both, lengths, nope}
use Rattle.tag.proofs.Checks.{AllPass, fine-all, all-fine, OfReading, first-among}
use Rattle.type3.specs.AttributeInformation.{steady_sum, nmaxb_of, capacity, attribute_information, attribute_checks, may_write}
use Rattle.type3.specs.Message.{Announced, refuse, busy, announced, announce_by, announce, without, with_message, reading_of, reading}

-- ---- the checks

abbrev pub Passes : List ℕ → Type 0
Passes i = AllPass (attribute_checks (length i) (attribute_information i))

-- what they say of lengths
pub record Bounds (i : List ℕ) : Type 0 where
  pub whole : length i ≡ 16 * (length i / 16)
  pub short : length i ≤ 4096
  pub reach : 16 * (1 + nmaxb_of i) ≤ length i

pub bounds : (i : List ℕ) → Passes i → Bounds i
bounds i c =
    let (blocks, least, short) = lengths 16 16 4096 (length i) c.0 in
    record { whole = omega arith; short = short; reach = leb-true (16 * (1 + nmaxb_of i)) (length i) c.1.1.1.1.0 }

pub ln_fits : (i : List ℕ) → Passes i → (attribute_information i).ln ≤ 16 * nmaxb_of i
ln_fits i c = leb-true (attribute_information i).ln (16 * nmaxb_of i) c.1.1.1.1.1.0

pub sum-right : (i : List ℕ) → Passes i → (attribute_information i).sum ≡ (attribute_information i).checksum
sum-right i c = eqb-true (attribute_information i).sum (attribute_information i).checksum c.1.0

-- the bytes of block 0 that writing keeps
abbrev pub steady : ℕ → Bool
steady k = leb k 8 || eqb k 10

abbrev pub Agrees : List ℕ → List ℕ → Type 0
Agrees j i = (k : ℕ) → steady k ≡ true → byte j k ≡ byte i k

pub same_sum : (j i : List ℕ) → Agrees j i → steady_sum j ≡ steady_sum i
same_sum j i h = cc (h 0 refl, h 1 refl, h 2 refl, h 3 refl, h 4 refl, h 5 refl, h 6 refl, h 7 refl, h 8 refl, h 10 refl)

pub same-nmaxb : (j i : List ℕ) → Agrees j i → nmaxb_of j ≡ nmaxb_of i
same-nmaxb j i h = cc (h 3 refl, h 4 refl)

pub checks-of : (i j : List ℕ) → length j ≡ length i → Agrees j i → Passes i
    → eqb (byte j 9) 0x00 || eqb (byte j 9) 0x0F ≡ true
    → (attribute_information j).sum ≡ (attribute_information j).checksum
    → (attribute_information j).ln ≤ 16 * nmaxb_of i
    → Passes j
checks-of i j l h c flag sum ln =
    let e0 : byte j 0 ≡ byte i 0 = h 0 refl in
    let e1 : byte j 1 ≡ byte i 1 = h 1 refl in
    let e3 : byte j 3 ≡ byte i 3 = h 3 refl in
    let e4 : byte j 4 ≡ byte i 4 = h 4 refl in
    let e10 : byte j 10 ≡ byte i 10 = h 10 refl in
    let (write_flag, rw_flag, nbr)
    = and-three (eqb (byte i 9) 0x00 || eqb (byte i 9) 0x0F) (eqb (byte i 10) 0x00 || eqb (byte i 10) 0x01) (not (eqb (byte i 1) 0)) c.1.1.1.0 in (
      rw l c.0,
      (
        eq-eqb _ _ sum,
        (
          rw e0 c.1.1.0,
          (
            rw (e10, e1) (and_both (and_both flag rw_flag) nbr),
            (rw (l, e3, e4) c.1.1.1.1.0, (rw (e3, e4) (le-leb _ _ ln), tt)),
          ),
        ),
      ),
    )

-- ---- reading by the checks

-- one that fails gives its refusal
pub unread : (i : List ℕ) (r : ℕ) → first_of (attribute_checks (length i) (attribute_information i)) ≡ fault r → reading i ≡ unreadable r
unfolding reading announce_by
unread i r e = rw e

-- a tag that passes them reads
pub passes-reads : (i : List ℕ) → first_of (attribute_checks (length i) (attribute_information i)) ≡ fine → (p : Report) × (reading i ≡ reads p)
unfolding reading announce_by
passes-reads i e = rw e (go (eqb (byte i 9) 0x0F) (attribute_information i).ln)
  where
    go : (b : Bool) (n : ℕ) → (p : Report) × (reading_of (may_write i) i (cond b busy (announced n)) ≡ reads p)
    go true n = (without being-written i (may_write i), refl)
    go false zero = (without empty i (may_write i), refl)
    go false (suc n) = (with_message (suc n) i (may_write i), refl)

-- a tag that is refused has failed one of them, so its refusal is one of reading's, 1 to 8
pub numbered : (i : List ℕ) (r : ℕ) → reading i ≡ unreadable r → OfReading r
numbered i r e = go (first_of (attribute_checks (length i) (attribute_information i))) refl
  where
    go : (c : Checked) → first_of (attribute_checks (length i) (attribute_information i)) ≡ c → OfReading r
    go fine q =
        let (p, f) = passes-reads i q in
        let e' : reads p ≡ unreadable r = sym f ∙ e in
        absurd (nope (cc))
    go (fault s) q =
        let e' : unreadable s ≡ unreadable r = sym (unread i s q) ∙ e in
        let p : s ≡ r = cc in
        subst OfReading p
        (first-among OfReading (attribute_checks (length i) (attribute_information i)) (
          (omega arith, omega arith),
          ((omega arith, omega arith), ((omega arith, omega arith), ((omega arith, omega arith), ((omega arith, omega arith), ((omega arith, omega arith), tt))))),
        ) s q)

-- ---- what a tag that passes them holds

-- WriteFlag 0Fh: no message
pub held-closed : (j : List ℕ) → Passes j → byte j 9 ≡ 0x0F → held_of (reading j) ≡ nothing
unfolding reading announce_by
held-closed j c e = rw (all-fine (attribute_checks (length j) (attribute_information j)) c) (rw e)

-- WriteFlag 00h: the first Ln bytes from block 1 on
pub held-open : (j : List ℕ) (n : ℕ) → Passes j → byte j 9 ≡ 0x00 → (attribute_information j).ln ≡ n → (n ≡ 0 → ⊥)
    → held_of (reading j) ≡ holds (take n (drop 16 j))
unfolding reading announce_by
held-open j n c e q z = rw (all-fine (attribute_checks (length j) (attribute_information j)) c) (rw (e, q) (some n z))
  where
    some : (k : ℕ) → (k ≡ 0 → ⊥) → held_of (reading_of (may_write j) j (announced k)) ≡ holds (take k (drop 16 j))
    some zero s = absurd (s refl)
    some (suc k) s = refl

-- ---- a tag that reads

-- whether a tag that reads is writable, and its capacity
said-as : (w : Bool) (i : List ℕ) (v : Announced) (p : Report) → reading_of w i v ≡ reads p → (p.writable ≡ w) × (p.capacity ≡ capacity i)
said-as w i (refuse r) p e = absurd (nope (cc))
said-as w i busy p e = let q : without being-written i w ≡ p = cc in (ap (λ x. x.writable) (sym q), ap (λ x. x.capacity) (sym q))
said-as w i (announced zero) p e = let q : without empty i w ≡ p = cc in (ap (λ x. x.writable) (sym q), ap (λ x. x.capacity) (sym q))
said-as w i (announced (suc n)) p e = let q : with_message (suc n) i w ≡ p = cc in (ap (λ x. x.writable) (sym q), ap (λ x. x.capacity) (sym q))

pub reads-writable : (i : List ℕ) (p : Report) → reading i ≡ reads p → p.writable ≡ may_write i
unfolding reading
reads-writable i p e = (said-as (may_write i) i (announce i) p e).0

pub reads-capacity : (i : List ℕ) (p : Report) → reading i ≡ reads p → p.capacity ≡ capacity i
unfolding reading
reads-capacity i p e = (said-as (may_write i) i (announce i) p e).1

pub reads-passes : (i : List ℕ) → (held_of (reading i) ≡ broken → ⊥) → Passes i
reads-passes i h = go (first_of (attribute_checks (length i) (attribute_information i))) refl
  where
    go : (c : Checked) → first_of (attribute_checks (length i) (attribute_information i)) ≡ c → Passes i
    go fine q = fine-all (attribute_checks (length i) (attribute_information i)) q
    go (fault r) q = absurd (h (ap held_of (unread i r q)))

-- what it holds fits
pub held_fits : (j m : List ℕ) → held_of (reading j) ≡ holds m → length m ≤ capacity j
unfolding reading announce_by
held_fits j m e = go (eqb (byte j 9) 0x0F) refl
  where
    c : Passes j
    c = reads-passes j (λ f. nope (cc))

    by-announced : (n : ℕ) → held_of (reading_of (may_write j) j (announced n)) ≡ holds m → length m ≤ n
    by-announced zero f = absurd (nope (cc))
    by-announced (suc n) f =
        let g : take (suc n) (drop 16 j) ≡ m = cc in
        omega (arith, length-take (suc n) (drop 16 j), ap length g)

    go : (b : Bool) → eqb (byte j 9) 0x0F ≡ b → length m ≤ capacity j
    go true q =
        let f : nothing ≡ holds m = rw (all-fine (attribute_checks (length j) (attribute_information j)) c, q) at e in
        absurd (nope (cc))
    go false q =
        let f : held_of (reading_of (may_write j) j (announced (attribute_information j).ln)) ≡ holds m
        = rw (all-fine (attribute_checks (length j) (attribute_information j)) c, q) at e in
        omega (arith, by-announced (attribute_information j).ln f, ln_fits j c)
