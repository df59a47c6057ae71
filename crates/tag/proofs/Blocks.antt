-- Lists of whole blocks, for every block size and any number of blocks in a command. Defines a plan over whole blocks (`Blockwise`)
-- and shows which blocks a guarded list stores.
-- Assumes nothing.
use mathlib.Core.Path.{◌≡◌, refl, sym, ◌∙◌}
use mathlib.Core.Bool.{Bool, true, false, ◌&&◌, true≢false}
use mathlib.Core.Logic.{◌⊎◌, inl, inr, ◌↔◌, ⊎_elim}
use mathlib.Core.List.{List, [], ◌∷◌}
use Prim.Native.Nat.{ℕ, zero, suc, ◌+◌, ◌-◌, ◌*◌, ◌/◌, ◌%◌, ◌<◌, ◌≤◌}
use native.Mathlib.Nat.{div-add-mod, mod-lt, mul-le-mul_left, div-lt_iff_lt-mul}
use native.Mathlib.Omega.{arith}
use native.Mathlib.Decide.{ℕ_discrete, dec_lt}
use borrow.Author.Tests.{leb-true, ltb-true, le-leb, lt-ltb}
use lib.Dec.{leb, ltb}
use lib.ListN.{length, take, drop, length-drop}
use lib.Seq.{get_or-take, get_or-drop, length-take-le}
use Rattle.tag.specs.Bytes.{byte}
use Rattle.tag.specs.Stores.{Store}
use Rattle.tag.specs.Plan.{Plan, block_of, picks, chunk, chunks}
use Rattle.tag.specs.Judge.{Task}
use Rattle.tag.proofs.Logic.{and_l, and_r, and_both}
use Rattle.tag.proofs.Each.{Each, each_take, each-drop}
use Rattle.tag.proofs.Chunks.{rounded-up}
use Rattle.tag.proofs.Guarded.{In, PartOf, Eaches, Some, Somes, Guard, Beside, Shuts, Tail}

-- a plan over whole blocks of the tag, with a guard block among them
pub record Blockwise (p : Plan) (i : List ℕ) : Type 0 where
  pub some_size : 0 < p.block_size
  pub some_width : 0 < p.width
  pub whole : length i ≡ p.block_size * (length i / p.block_size)
  pub inside : p.guard < length i / p.block_size
  pub closed-length : length p.closed ≡ length i

-- ---- stores dealt out to commands

pub chunk-each : (P : Store → Type 0) (w c : ℕ) (ss : List Store) → Each P ss → Eaches P (chunk w c ss)
chunk-each P w zero ss h = tt
chunk-each P w (suc c) ss h = (each_take P w ss h, chunk-each P w c (drop w ss) (each-drop P w ss h))

some-split : (a n : ℕ) (ss : List Store) → Some a ss → Some a (take n ss) ⊎ Some a (drop n ss)
some-split a zero ss h = inr h
some-split a (suc n) [] h = elim h [ ]
some-split a (suc n) (s ∷ ss) (inl h) = inl (inl h)
some-split a (suc n) (s ∷ ss) (inr h) = ⊎_elim (λ x. inl (inr x)) inr (some-split a n ss h)

chunk-some : (a w c : ℕ) (ss : List Store) → length ss ≤ w * c → Some a ss → Somes a (chunk w c ss)
chunk-some a w zero [] l h = elim h [ ]
chunk-some a w zero (s ∷ ss) l h = absurd (omega arith)
chunk-some a w (suc c) ss l h =
    let k : length (drop w ss) ≤ w * c = rw length-drop (omega arith) in
    ⊎_elim inl (λ x. inr (chunk-some a w c (drop w ss) k x)) (some-split a w ss h)

chunks-some : (a w : ℕ) (ss : List Store) → 0 < w → Some a ss → Somes a (chunks w ss)
chunks-some a w ss p h = chunk-some a w ((length ss + (w - 1)) / w) ss (rounded-up w (length ss) p).0 h

-- does the address lie in block b
abbrev pub in_block : ℕ → ℕ → ℕ → Bool
in_block z b a = leb (z * b) a && ltb a (z * b + z)

-- the addresses of a block
pub in-block : (z b a : ℕ) → (in_block z b a ≡ true) ↔ ((z * b ≤ a) × (a < z * b + z))
in-block z b a = (
  (λ e. (leb-true (z * b) a (and_l _ (ltb a (z * b + z)) e), ltb-true a (z * b + z) (and_r (leb (z * b) a) _ e))),
  (λ h. and_both (le-leb (z * b) a h.0) (lt-ltb a (z * b + z) h.1)),
)

module _ (z : ℕ) (n : List ℕ) where
  pub block-length : (b : ℕ) → z * b + z ≤ length n → length (block_of z n b).bytes ≡ z
  block-length b h = length-take-le z (drop (z * b) n) (rw length-drop (omega arith))

  pub block-part : (b : ℕ) → z * b + z ≤ length n → PartOf n (block_of z n b)
  block-part b h k l =
      get_or-take z (drop (z * b) n) k 0 (omega (arith, block-length b h)) ∙ get_or-drop (z * b) n k 0

  pub block_in : (b a : ℕ) → z * b + z ≤ length n → In (block_of z n b) a ↔ (in_block z b a ≡ true)
  block_in b a h = (
    (λ i. (in-block z b a).1 (i.0, omega (arith, i.1, block-length b h))),
    (λ e. let (lo, up) = (in-block z b a).0 e in (lo, omega (arith, block-length b h))),
  )

-- an address lies in one block
pub block-of : (z a : ℕ) → 0 < z → in_block z (a / z) a ≡ true
block-of z a p =
    let e : z * (a / z) + a % z ≡ a = div-add-mod a z in
    let l : a % z < z = mod-lt a p in
    (in-block z (a / z) a).1 (omega arith, omega arith)

block-lt : (z b c a : ℕ) → in_block z b a ≡ true → in_block z c a ≡ true → b < c → ⊥
block-lt z b c a p q l =
    let m : z * suc b ≤ z * c = mul-le-mul_left z l in
    omega (arith, ((in-block z b a).0 p).1, ((in-block z c a).0 q).0)

pub one_block : (z b c a : ℕ) → in_block z b a ≡ true → in_block z c a ≡ true → b ≡ c
one_block z b c a p q = go (dec_lt b c) (dec_lt c b)
  where
    go : Dec (b < c) → Dec (c < b) → b ≡ c
    go (yes l) d = absurd (block-lt z b c a p q l)
    go (no l) (yes m) = absurd (block-lt z c b a q p m)
    go (no l) (no m) = omega arith

-- the blocks that a guarded list stores
module _ (t : Task) (g : Guard t) (z w N A : ℕ) (p : ℕ → Bool)
    (pos : 0 < z)
    (some-w : 0 < w)
    (whole : length t.start ≡ z * N)
    (inside : A < N)
    (is-block : (a : ℕ) → g.block a ≡ in_block z A a)
    (closed-length : length g.closed ≡ length t.start)
    (others : (b : ℕ) → p b ≡ true → b ≡ A → ⊥)
    (complete : (a b : ℕ) → a < length t.start → in_block z b a ≡ true → (p b ≡ true) ⊎ ((b ≡ A) ⊎ (byte t.start a ≡ byte g.new a))) where
  fits : (b : ℕ) → b < N → z * b + z ≤ z * N
  fits b l = let m : z * suc b ≤ z * N = mul-le-mul_left z l in omega arith

  beside : (b : ℕ) → b < N → p b ≡ true → Beside t g (block_of z g.new b)
  beside b l q =
      let h : z * b + z ≤ length g.new = omega (arith, fits b l, whole, g.new-length) in
      record {
        part_of = block-part z g.new b h;
        clear = λ a i. clear a ((block_in z g.new b a h).0 i) (in_block z A a) refl;
      }
    where
      clear : (a : ℕ) → in_block z b a ≡ true → (c : Bool) → in_block z A a ≡ c → g.block a ≡ false
      clear a i true e = absurd (others b q (one_block z b A a i e))
      clear a i false e = is-block a ∙ e

  picks-beside : (k b : ℕ) → b + k ≤ N → Each (Beside t g) (picks p z g.new b k)
  unfolding picks
  picks-beside zero b l = tt
  picks-beside (suc k) b l = go (p b) refl (picks-beside k (suc b) (omega arith))
    where
      go : (c : Bool) → p b ≡ c → Each (Beside t g) (picks p z g.new (suc b) k) → Each (Beside t g) (picks p z g.new b (suc k))
      go true q ih = rw (q, picks) (beside b (omega arith) q, ih)
      go false q ih = rw (q, picks) ih

  picks-some : (k b c a : ℕ) → b + k ≤ N → b ≤ c → c < b + k → p c ≡ true → in_block z c a ≡ true → Some a (picks p z g.new b k)
  unfolding picks
  picks-some zero b c a l lo up q i = absurd (omega arith)
  picks-some (suc k) b c a l lo up q i = go (p b) refl (ℕ_discrete b c) (λ m. picks-some k (suc b) c a (omega arith) m (omega arith) q i)
    where
      go : (d : Bool) → p b ≡ d → Dec (b ≡ c) → (suc b ≤ c → Some a (picks p z g.new (suc b) k)) → Some a (picks p z g.new b (suc k))
      go true r (yes e) ih =
          rw (r, picks) (inl ((block_in z g.new b a (omega (arith, fits b (omega arith), whole, g.new-length))).1 (rw e i)))
      go true r (no e) ih = rw (r, picks) (inr (ih (omega arith)))
      go false r (yes e) ih = absurd (true≢false (sym q ∙ rw e at r))
      go false r (no e) ih = rw (r, picks) (ih (omega arith))

  room-A : z * A + z ≤ z * N
  room-A = fits A inside

  block-shuts : Shuts t g (block_of z g.closed A)
  block-shuts =
      record {
        first_part = block-part z g.closed A (omega (arith, whole, closed-length, room-A));
        first-in = λ a l. rw is-block (block_in z g.closed A a (omega (arith, whole, closed-length, room-A)));
      }

  block-tail : Tail t g (block_of z g.new A) (chunks w (picks p z g.new 0 N))
  block-tail =
      record {
        last-part = block-part z g.new A (omega (arith, whole, g.new-length, room-A));
        last-in = λ a l q. (block_in z g.new A a (omega (arith, whole, g.new-length, room-A))).1 (sym (is-block a) ∙ q);
        mids-beside = chunk-each (Beside t g) w ((length (picks p z g.new 0 N) + (w - 1)) / w) (picks p z g.new 0 N) (picks-beside N 0 (omega arith));
        covered = λ a l q. cover a l q (complete a (a / z) l (block-of z a pos));
      }
    where
      below : (a : ℕ) → a < length t.start → a / z < N
      below a l = (div-lt_iff_lt-mul pos).1 (omega (arith, whole))

      cover : (a : ℕ) → a < length t.start → g.block a ≡ false → (p (a / z) ≡ true) ⊎ ((a / z ≡ A) ⊎ (byte t.start a ≡ byte g.new a))
          → (Somes a (chunks w (picks p z g.new 0 N))) ⊎ (byte t.start a ≡ byte g.new a)
      cover a l q (inl r) =
          inl (chunks-some a w (picks p z g.new 0 N) some-w
          (picks-some N 0 (a / z) a (omega arith) (omega arith) (omega (arith, below a l)) r (block-of z a pos)))
      cover a l q (inr (inl e)) = absurd (true≢false (sym (rw e at (block-of z a pos)) ∙ (sym (is-block a) ∙ q)))
      cover a l q (inr (inr e)) = inr e

  pub block-parts : Shuts t g (block_of z g.closed A) × Tail t g (block_of z g.new A) (chunks w (picks p z g.new 0 N))
  block-parts = (block-shuts, block-tail)
