-- What a Type 6 tag holds while it is written and after, and why refusal 11 is exact. With NLEN zero in the file's first block the tag
-- holds no message, whatever its other blocks hold; the new image reads as the message. A message that does not fit is held by no
-- image with the same container.
-- Assumes nothing.
use mathlib.Core.Path.{◌≡◌, refl, sym, ap, ◌∙◌}
use mathlib.Core.Bool.{Bool, true, false, not, ◌&&◌, ◌||◌, and-false}
use mathlib.Core.Logic.{◌⊎◌, inl, inr}
use mathlib.Core.List.{List, [], ◌∷◌, ◌++◌, map, append-nil}
use Prim.Native.Nat.{ℕ, suc, ◌+◌, ◌/◌, ◌%◌, ◌<◌, ◌≤◌}
use native.Mathlib.Omega.{arith}
use borrow.Author.Tests.{eqb-true, ne_eqb, lt-leb, le-ltb}
use lib.Dec.{leb, ltb, eqb}
use lib.ListN.{length, take, drop}
use Rattle.tag.specs.Bytes.{byte, run, overlay, is_set}
use Rattle.tag.specs.Reading.{nothing, holds, held_of}
use Rattle.tag.specs.Plan.{new_image, protected}
use Rattle.tag.proofs.Logic.{true-false}
use Rattle.tag.proofs.Images.{length-overlay, overlay-out}
use Rattle.tag.proofs.Addresses.{overlay-reads, above-run}
use Rattle.tag.proofs.Runs.{length_run, take-run, map-run, run-set}
use Rattle.tag.proofs.Blocks.{in_block, in-block}
use Rattle.tag.proofs.Guarded.{Cell, shut, old, fresh, Between}
use Rattle.tag.proofs.Writes.{shut_image, shut-either}
use Rattle.type6.specs.Container.{tag_block_size, file_block, file_at, file_room, capacity, nlen_at, nlen}
use Rattle.type6.specs.Message.{reading}
use Rattle.type6.specs.Update.{addresses, values, closed_at, plan}
use Rattle.type6.proofs.Message.{Passes, bounds, Agrees, same-file, checks-of, held-empty, held-some, held_fits}

-- ---- the closed image

module _ (f : ℕ) (i : List ℕ) where
  pub closed-length : length (closed_at f i) ≡ length i
  closed-length = length-overlay (f ∷ suc f ∷ []) (0x00 ∷ 0x00 ∷ []) i

  pub closed-reads : 8 ≤ f → 2 + f ≤ length i → (byte (closed_at f i) f ≡ 0) × (byte (closed_at f i) (suc f) ≡ 0)
  closed-reads p l =
      let e : map (byte (closed_at f i)) (f ∷ suc f ∷ []) ≡ 0 ∷ 0 ∷ []
      = overlay-reads (length i) (0x00 ∷ 0x00 ∷ []) [] (f ∷ suc f ∷ []) i 7 (omega arith, (omega arith, omega arith)) (omega arith) (omega arith) in
      (cc e, cc e)

  pub closed-else : (a : ℕ) → not (is_set (f ∷ suc f ∷ []) (0x00 ∷ 0x00 ∷ []) a) ≡ true → byte (closed_at f i) a ≡ byte i a
  closed-else a e = overlay-out (f ∷ suc f ∷ []) (0x00 ∷ 0x00 ∷ []) i a e

  pub closed-before : (a : ℕ) → a < f → byte (closed_at f i) a ≡ byte i a
  closed-before a l = closed-else a (rw (ne_eqb f a (omega arith), ne_eqb (suc f) a (omega arith)))

-- of two tests and a rest that all fail, the two that closing sets
closing : (b c d : Bool) → not (b || (c || d)) ≡ true → not (b || (c || false)) ≡ true
closing true c d e = e
closing false true d e = e
closing false false d e = refl

-- ---- what writing sets

-- NLEN and the message, which follow each other
pub set_is : (f : ℕ) (m : List ℕ) (a : ℕ) → is_set (addresses f m) (values m) a ≡ leb f a && ltb a (f + (2 + length m))
set_is f m a =
    let e : f + suc (suc (length m)) ≡ f + (2 + length m) = omega arith in
    run-set f (suc (suc (length m))) (values m) a (omega arith) ∙ rw e

module _ (i m : List ℕ) where
  -- closing sets no byte that writing keeps
  pub closed-kept : (a : ℕ) → protected (plan i m) a ≡ true → byte (closed_at (file_at i) i) a ≡ byte i a
  closed-kept a e =
      closed-else (file_at i) i a (closing (eqb (file_at i) a) (eqb (suc (file_at i)) a) (is_set (run (suc (suc (file_at i))) (length m)) m a) e)

  -- what lies before the file is protected
  pub before-kept : (k : ℕ) → k < file_at i → protected (plan i m) k ≡ true
  before-kept k l =
      let e : is_set (addresses (file_at i) m) (values m) k ≡ false = set_is (file_at i) m k ∙ rw (lt-leb (file_at i) k l) in
      ap not e

  -- so a tag that keeps what is protected agrees
  pub kept-agrees : (j : List ℕ) → Passes i → ((a : ℕ) → a < length i → protected (plan i m) a ≡ true → byte j a ≡ byte i a) → Agrees j i
  kept-agrees j c h k l = let b = bounds i c in h k (omega (arith, b.least)) (before-kept k (omega (arith, b.past)))

  pub new-agrees : Passes i → Agrees (new_image (plan i m) i) i
  new-agrees c k l = overlay-out (addresses (file_at i) m) (values m) i k (before-kept k (omega (arith, (bounds i c).past)))

  pub new-length : length (new_image (plan i m) i) ≡ length i
  new-length = length-overlay (addresses (file_at i) m) (values m) i

-- the tag with the guard block shut: NLEN is zero, and what lies before the file is as it was
shut-before : (i m : List ℕ) (a : ℕ) → a < file_at i → byte (shut_image (plan i m) i) a ≡ byte i a
shut-before i m a l = shut-either (plan i m) i (λ j. byte j a ≡ byte i a) (λ q. refl) (closed-before (file_at i) i a l)

shut-nlen : (i m : List ℕ) → Passes i → (byte (shut_image (plan i m) i) (file_at i) ≡ 0) × (byte (shut_image (plan i m) i) (suc (file_at i)) ≡ 0)
shut-nlen i m c =
    let k = bounds i c in
    shut-either (plan i m) i (λ j. (byte j (file_at i) ≡ 0) × (byte j (suc (file_at i)) ≡ 0))
    (λ q. let e : nlen i ≡ 0 = eqb-true (nlen i) 0 q in (omega arith, omega arith))
    (closed-reads (file_at i) i k.past (omega (arith, k.inside, k.room)))

-- a tag with the file's first block shut is empty
pub quiet : (i m j : List ℕ) → Passes i → 2 ≤ tag_block_size i
    → Between (in_block (tag_block_size i) (file_block i)) i (shut_image (plan i m) i) (new_image (plan i m) i) j → held_of (reading j) ≡ nothing
quiet i m j c s b = held-empty j (checks-of i j b.0 agrees c (omega (arith, at-0, at_1))) (ap (λ f. nlen_at f j) (same-file j i agrees) ∙ rw (at-0, at_1) refl)
  where
    far : 2 + file_at i ≤ length i
    far = let k = bounds i c in omega (arith, k.inside, k.room)

    agrees : Agrees j i
    agrees k l = go (b.1 k (omega (arith, far, (bounds i c).past)))
      where
        go : Cell (in_block (tag_block_size i) (file_block i)) i (shut_image (plan i m) i) (new_image (plan i m) i) j k → byte j k ≡ byte i k
        go (shut p q) = q ∙ shut-before i m k (omega (arith, (bounds i c).past))
        go (old p q) = q
        go (fresh p q) = q ∙ new-agrees i m c k l

    at : (k : ℕ) → in_block (tag_block_size i) (file_block i) k ≡ true → k < length i → byte (shut_image (plan i m) i) k ≡ 0 → byte j k ≡ 0
    at k e l z = go (b.1 k l)
      where
        go : Cell (in_block (tag_block_size i) (file_block i)) i (shut_image (plan i m) i) (new_image (plan i m) i) j k → byte j k ≡ 0
        go (shut p q) = q ∙ z
        go (old p q) = absurd (true-false e p)
        go (fresh p q) = absurd (true-false e p)

    zeros : (byte (shut_image (plan i m) i) (file_at i) ≡ 0) × (byte (shut_image (plan i m) i) (suc (file_at i)) ≡ 0)
    zeros = shut-nlen i m c

    at-0 : byte j (file_at i) ≡ 0
    at-0 = at (file_at i) ((in-block (tag_block_size i) (file_block i) (file_at i)).1 (omega arith, omega arith)) (omega (arith, far)) zeros.0

    at_1 : byte j (suc (file_at i)) ≡ 0
    at_1 = at (suc (file_at i)) ((in-block (tag_block_size i) (file_block i) (suc (file_at i))).1 (omega arith, omega arith)) (omega (arith, far)) zeros.1

-- ---- the new image

-- a tag that passes the checks, with room for a message that is not empty
pub record HasRoom (i m : List ℕ) : Type 0 where
  pub passes : Passes i
  pub some_bytes : length m ≡ 0 → ⊥
  pub room : length m ≤ capacity i

split : (N : List ℕ) (f n a b : ℕ) (m : List ℕ) → map (byte N) (run f (suc (suc n))) ≡ a ∷ b ∷ m
    → (byte N f ≡ a) × (byte N (suc f) ≡ b) × (map (byte N) (run (suc (suc f)) n) ≡ m)
split N f n a b m e = (cc e, cc e, cc e)

-- an image with these bytes set from f on reads them back
set_reads : (f : ℕ) (i m : List ℕ) → 8 ≤ f → 2 + f + length m ≤ length i
    → map (byte (overlay (addresses f m) (values m) i)) (addresses f m) ≡ values m
set_reads f i m p l =
    let e : map (byte (overlay (addresses f m) (values m ++ []) i)) (take (length (values m)) (addresses f m)) ≡ values m
    = overlay-reads (length i) (values m) [] (addresses f m) i 7 (omega arith, (omega arith, above-run (length m) (suc f) (length i) (omega arith))) (omega arith)
    (omega (arith, length_run (length m) (suc (suc f)))) in
    let g : map (byte (overlay (addresses f m) (values m) i)) (take (length (values m)) (addresses f m)) ≡ values m
    = ap (λ vs. map (byte (overlay (addresses f m) (length m % 256 ∷ length m / 256 ∷ vs) i)) (take (length (values m)) (addresses f m))) (sym (append-nil m)) ∙ e in
    ap (λ us. map (byte (overlay (addresses f m) (values m) i)) (f ∷ suc f ∷ us)) (sym (take-run (length m) (length m) (suc (suc f)) (omega arith))) ∙ g

module _ (i m : List ℕ) (r : HasRoom i m) where
  -- all that is written lies inside the image
  pub inside : 2 + file_at i + length m ≤ length i
  inside = let b = bounds i r.passes in omega (arith, b.inside, b.room, r.room)

  pub reads-new : held_of (reading (new_image (plan i m) i)) ≡ holds m
  reads-new =
      let two : 2 + file_at i ≡ suc (suc (file_at i)) = omega arith in
      let a : Agrees (new_image (plan i m) i) i = new-agrees i m r.passes in
      let (low, high, body) = split (new_image (plan i m) i) (file_at i) (length m) (length m % 256) (length m / 256) m
      (set_reads (file_at i) i m (bounds i r.passes).past inside) in
      let n : nlen_at (file_at i) (new_image (plan i m) i) ≡ length m = rw (low, high) (omega arith) in
      let c : Passes (new_image (plan i m) i)
      = checks-of i (new_image (plan i m) i) (new-length i m) a r.passes (omega (arith, n, r.room)) in
      held-some (new_image (plan i m) i) (length m) c (ap (λ f. nlen_at f (new_image (plan i m) i)) (same-file (new_image (plan i m) i) i a) ∙ n) r.some_bytes
      ∙ ap (λ f. holds (take (length m) (drop (2 + f) (new_image (plan i m) i)))) (same-file (new_image (plan i m) i) i a)
      ∙ ap (λ a. holds (take (length m) (drop a (new_image (plan i m) i)))) two
      ∙ ap holds (sym (map-run (length m) (suc (suc (file_at i))) (new_image (plan i m) i) (omega (arith, new-length i m, inside))) ∙ body)

  -- and outside the file nothing is set
  pub new-outside : (a : ℕ) → (a < file_at i) ⊎ (file_at i + file_room i ≤ a) → byte (new_image (plan i m) i) a ≡ byte i a
  new-outside a (inl l) = overlay-out (addresses (file_at i) m) (values m) i a (before-kept i m a l)
  new-outside a (inr l) =
      let past : 2 + file_at i + length m ≤ a = omega (arith, l, (bounds i r.passes).room, r.room) in
      let e : is_set (addresses (file_at i) m) (values m) a ≡ false
      = set_is (file_at i) m a ∙ rw (le-ltb a (file_at i + (2 + length m)) (omega arith), and-false (leb (file_at i) a)) in
      overlay-out (addresses (file_at i) m) (values m) i a (ap not e)

-- ---- refusal 11 is exact

-- a message that does not fit is held by no image with the same container, of whatever length
pub too_long : (i m j : List ℕ) → capacity i < length m → Agrees j i → held_of (reading j) ≡ holds m → ⊥
too_long i m j l h e =
    let e5 : byte j 5 ≡ byte i 5 = h 5 (omega arith) in
    let e7 : byte j 7 ≡ byte i 7 = h 7 (omega arith) in
    let q : length m ≤ capacity i = rw (e5, e7) at (held_fits j m e) in
    omega arith
