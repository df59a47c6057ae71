-- The commands of a list can be sent. Each stores whole blocks with numbers that a command of its type may list, in rising order,
-- and no more of them than a command may store. From this a type shows that its commands are well formed.
-- Assumes nothing.
use mathlib.Core.Path.{◌≡◌, refl}
use mathlib.Core.Bool.{Bool, true, false, not, cond, false≢true}
use mathlib.Core.Logic.{⊎_elim}
use mathlib.Core.List.{List, [], ◌∷◌, ◌++◌, map}
use Prim.Native.Nat.{ℕ, zero, suc, ◌+◌, ◌-◌, ◌*◌, ◌/◌, ◌<◌, ◌≤◌}
use native.Mathlib.Nat.{mul-le-mul_left, mul-div_cancel_left}
use native.Mathlib.Omega.{arith}
use borrow.Author.Tests.{eqb-false, not-true}
use lib.Dec.{eqb}
use lib.ListN.{length, take, drop, length-take, length-drop}
use Rattle.tag.specs.Stores.{Store}
use Rattle.tag.specs.Plan.{Plan, new_image, block_of, is_there, between, picks, chunk, chunks, first_store, last_store, first, middle, list}
use Rattle.tag.proofs.Logic.{and_l, and_r, or_cases}
use Rattle.tag.proofs.Each.{Each, each_append, each_both}
use Rattle.tag.proofs.Images.{length-overlay}
use Rattle.tag.proofs.Addresses.{Above, Rising, above-less, above-hi, above-rising, above-take, rising-drop}
use Rattle.tag.proofs.Runs.{map-take, map-drop}
use Rattle.tag.proofs.Chunks.{rounded-up}
use Rattle.tag.proofs.Blocks.{in_block, Blockwise, chunk-each, block-length}
use Rattle.tag.proofs.There.{touches, touched-new}

-- ---- whole blocks

-- the number of the block that a store of one block stores, with blocks of z bytes
abbrev pub block_number : ℕ → Store → ℕ
block_number z s = s.at / z

-- a store of a whole block
pub record Whole (z : ℕ) (s : Store) : Type 0 where
  pub block : ℕ
  pub at_block : s.at ≡ z * block
  pub full : length s.bytes ≡ z

-- and Q holds of the block's number
pub record Named (z : ℕ) (Q : ℕ → Type 0) (s : Store) : Type 0 where
  pub whole : Whole z s
  pub good : Q whole.block

module _ (z : ℕ) (n : List ℕ) (Q : ℕ → Type 0) where
  block-named : (b : ℕ) → z * b + z ≤ length n → Q b → Named z Q (block_of z n b)
  block-named b h q = record {
    whole = record { block = b; at_block = refl; full = block-length z n b h };
    good = q;
  }

  pub picks-named : (t : ℕ → Bool) (N b k : ℕ) → b + k ≤ N → z * N ≤ length n → ((c : ℕ) → c < N → t c ≡ true → Q c) → Each (Named z Q) (picks t z n b k)
  unfolding picks
  picks-named t N b zero l h q = tt
  picks-named t N b (suc k) l h q = go (t b) refl (picks-named t N (suc b) k (omega arith) h q)
    where
      go : (c : Bool) → t b ≡ c → Each (Named z Q) (picks t z n (suc b) k) → Each (Named z Q) (picks t z n b (suc k))
      go true e ih =
          let m : z * suc b ≤ z * N = mul-le-mul_left z (omega arith) in
          rw (e, picks) (block-named b (omega arith) (q b (omega arith) e), ih)
      go false e ih = rw (e, picks) ih

-- ---- rising numbers

module _ (z : ℕ) (pos : 0 < z) (n : List ℕ) (t : ℕ → Bool) (hi : ℕ) where
  picks-above : (k b x : ℕ) → x < b → b + k ≤ hi → Above hi x (map (block_number z) (picks t z n b k))
  unfolding picks
  picks-above zero b x l h = omega arith
  picks-above (suc k) b x l h = go (t b) refl (λ y m. picks-above k (suc b) y m (omega arith))
    where
      go : (c : Bool) → t b ≡ c → ((y : ℕ) → y < suc b → Above hi y (map (block_number z) (picks t z n (suc b) k))) → Above hi x (map (block_number z) (picks t z n b (suc k)))
      go true e ih =
          let d : z * b / z ≡ b = mul-div_cancel_left b pos in
          rw (e, picks) (rw d (l, ih b (omega arith)))
      go false e ih = rw (e, picks) (ih x (omega arith))

  pub picks-rising : (k : ℕ) → k ≤ hi → Rising hi (map (block_number z) (picks t z n 0 k))
  unfolding picks
  picks-rising zero h = tt
  picks-rising (suc k) h = go (t 0) refl
    where
      go : (c : Bool) → t 0 ≡ c → Rising hi (map (block_number z) (picks t z n 0 (suc k)))
      go true e =
          let d : z * 0 / z ≡ 0 = mul-div_cancel_left 0 pos in
          rw (e, picks) (rw d (picks-above k 1 0 (omega arith) (omega arith)))
      go false e = rw (e, picks) (above-rising hi 0 (map (block_number z) (picks t z n 1 k)) (picks-above k 1 0 (omega arith) (omega arith)))

rising-take : (hi k : ℕ) (us : List ℕ) → Rising hi us → Rising hi (take k us)
rising-take hi zero us h = tt
rising-take hi (suc k) [] h = tt
rising-take hi (suc k) (x ∷ us) h = above-take hi k x us h

-- ---- commands

-- a command that stores one to w blocks, rising below hi
abbrev pub Sized : ℕ → ℕ → ℕ → List Store → Type 0
Sized z w hi ss = (0 < length ss) × (length ss ≤ w) × Rising hi (map (block_number z) ss)

chunk-sized : (z w hi c : ℕ) (ss : List Store) → 0 < w → w * c < length ss + w → Rising hi (map (block_number z) ss) → Each (Sized z w hi) (chunk w c ss)
chunk-sized z w hi zero ss p l r = tt
chunk-sized z w hi (suc c) ss p l r = (
  (
    rw length-take (omega arith),
    rw length-take (omega arith),
    rw (← map-take (block_number z) w ss) (rising-take hi w (map (block_number z) ss) r),
  ),
  chunk-sized z w hi c (drop w ss) p (rw length-drop (omega arith)) (rw (← map-drop (block_number z) w ss) (rising-drop hi w (map (block_number z) ss) r)),
)

pub chunks-sized : (z w hi : ℕ) (ss : List Store) → 0 < w → Rising hi (map (block_number z) ss) → Each (Sized z w hi) (chunks w ss)
chunks-sized z w hi ss p r = chunk-sized z w hi ((length ss + (w - 1)) / w) ss p (rounded-up w (length ss) p).1 r

-- ---- the blocks that a plan touches

-- a block that is touched holds an address to set
pub touch-bounds : (z hi x : ℕ) (us vs : List ℕ) (b : ℕ) → Above hi x us → touches z us vs b ≡ true → (y : ℕ) × (x < y) × (y < hi) × (in_block z b y ≡ true)
touch-bounds z hi x [] vs b h e = absurd (false≢true e)
touch-bounds z hi x (y ∷ us) [] b h e = absurd (false≢true e)
touch-bounds z hi x (y ∷ us) (v ∷ vs) b h e =
    ⊎_elim (λ q. (y, h.0, above-hi hi y us h.1, q)) (λ q. touch-bounds z hi x us vs b (above-less hi x y us (omega (arith, h.0)) h.1) q)
    (or_cases (in_block z b y) (touches z us vs b) e)

-- what a type shows of its plan so that its commands can be sent; Q is what must hold of a block's number for a command to list it
pub record Nameable (p : Plan) (i : List ℕ) (Q : ℕ → Type 0) : Type 0 where
  pub guard_good : Q p.guard
  pub touched-good : (b : ℕ) → b < length i / p.block_size → (b ≡ p.guard → ⊥) → touches p.block_size p.addresses p.values b ≡ true → Q b

module _ (p : Plan) (i : List ℕ) (w : Blockwise p i) (Q : ℕ → Type 0) (n : Nameable p i Q) where
  abbrev Good : List Store → Type 0
  Good ss = Each (Named p.block_size Q) ss × Sized p.block_size p.width (length i / p.block_size) ss

  guard-command : (j : List ℕ) → length j ≡ length i → Good (block_of p.block_size j p.guard ∷ [])
  guard-command j l =
      let m : p.block_size * suc p.guard ≤ p.block_size * (length i / p.block_size) = mul-le-mul_left p.block_size w.inside in
      let d : p.block_size * p.guard / p.block_size ≡ p.guard = mul-div_cancel_left p.guard w.some_size in (
        (block-named p.block_size j Q p.guard (omega (arith, w.whole)) n.guard_good, tt),
        (omega arith, omega (arith, w.some_width), rw d w.inside),
      )

  first-command : Each Good (first p)
  first-command = go p.is_shut
    where
      go : (c : Bool) → Each Good (cond c [] ((first_store p ∷ []) ∷ []))
      go true = tt
      go false = (guard-command p.closed w.closed-length, tt)

  -- a block between the guard block's two commands is none that is there, so it holds a byte to set
  between-good : (b : ℕ) → b < length i / p.block_size → between p i b ≡ true → Q b
  between-good b l e =
      let changes = not (is_there p.block_size i (new_image p i) b) in
      n.touched-good b l (eqb-false b p.guard (not-true (eqb b p.guard) (and_l (not (eqb b p.guard)) changes e)))
      (touched-new p.block_size p.addresses p.values i b (and_r (not (eqb b p.guard)) changes e))

  -- each command of the list stores whole blocks that may be listed, rising, and from one up to as many as a command may store
  pub list-good : Each Good (list p i)
  list-good =
      each_append Good (first p) (middle p i ++ (last_store p i ∷ []) ∷ []) first-command
      (each_append Good (middle p i) ((last_store p i ∷ []) ∷ [])
      (each_both (Each (Named p.block_size Q)) (Sized p.block_size p.width (length i / p.block_size)) (middle p i) named-blocks
      (chunks-sized p.block_size p.width (length i / p.block_size) chosen w.some_width
      (picks-rising p.block_size w.some_size (new_image p i) (between p i) (length i / p.block_size) (length i / p.block_size) (omega arith))))
      (guard-command (new_image p i) (length-overlay p.addresses p.values i), tt))
    where
      chosen : List Store
      chosen = picks (between p i) p.block_size (new_image p i) 0 (length i / p.block_size)

      named-blocks : Each (Each (Named p.block_size Q)) (middle p i)
      named-blocks =
          chunk-each (Named p.block_size Q) p.width ((length chosen + (p.width - 1)) / p.width) chosen
          (picks-named p.block_size (new_image p i) Q (between p i) (length i / p.block_size) 0 (length i / p.block_size) (omega arith)
          (omega (arith, w.whole, length-overlay p.addresses p.values i)) between-good)
