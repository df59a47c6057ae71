-- Bytes stored one after the other: one more byte, bytes stored at a buffer's front, and bytes set at addresses that follow each other.
-- Assumes nothing.
use mathlib.Core.Path.{◌≡◌, refl, sym, ap, ◌∙◌}
use mathlib.Core.List.{List, [], ◌∷◌, ◌++◌, append-nil, append_assoc}
use Prim.Native.Nat.{ℕ, suc, ◌+◌, ◌<◌, ◌≤◌}
use native.Mathlib.Numerals.{add-one}
use native.Mathlib.Nat.{add-zero}
use native.Mathlib.Omega.{arith}
use lib.ListN.{length, take, drop, set, drop_of_length-le, length-append}
use lib.Seq.{sets, sets-eq, take-suc, length-take-le, drop-drop}
use borrow.Rule.Slice.PartMut.{put_mid}
use Rattle.tag.specs.Bytes.{byte, run, overlay, overwrite}
use Rattle.tag.proofs.Addresses.{above-run, overlay-set}

pub sets-append : {A : Type 0} (xs ys l : List A) (i : ℕ) → sets l i (xs ++ ys) ≡ sets (sets l i xs) (i + length xs) ys
sets-append [] ys l i = rw add-zero
sets-append (x ∷ xs) ys l i =
    let e : i + length (x ∷ xs) ≡ suc i + length xs = omega arith in
    rw e (sets-append xs ys (set l i x) (suc i))

-- one turn of storing
pub sets_more : (l from : List ℕ) (at i : ℕ) → i < length from
    → set (sets l at (take i from)) (at + i) (byte from i) ≡ sets l at (take (i + 1) from)
sets_more l from at i h =
    let e : length (take i from) ≡ i = length-take-le i from (omega arith) in
    sym (rw (add-one, take-suc from i 0 h) (sets-append (take i from) (byte from i ∷ []) l at ∙ rw e))

-- what a copy into a part of a buffer leaves
pub put_sets : (at k : ℕ) (from new to : List ℕ) → new ≡ from → k ≡ length from → at + length from ≤ length to → put_mid at k to new ≡ sets to at from
put_sets at k from new to e l h =
    rw (e, l) (ap (λ r. take at to ++ (from ++ r)) (drop-drop (length from) at to) ∙ sym (append_assoc (take at to) from (drop (at + length from) to)) ∙ sym (sets-eq from to at h))

-- the first bytes of a buffer
pub sets-front : (y t : List ℕ) → length y ≤ length t → sets t 0 y ≡ overwrite y t
sets-front y t h = sets-eq y t 0 (omega arith) ∙ rw zero-add
  where
    zero-add : 0 + length y ≡ length y
    zero-add = omega arith

-- two parts stored one behind the other
pub both_stored : (x y t : List ℕ) → length x + length y ≤ length t → sets (sets t 0 x) (length x) y ≡ overwrite (x ++ y) t
both_stored x y t h = sym (rw (zero-add x) at (sets-append x y t 0)) ∙ sets-front (x ++ y) t (omega (arith, length-append x y))
  where
    zero-add : (x : List ℕ) → 0 + length x ≡ length x
    zero-add x = omega arith

-- and nothing of the buffer is left
pub both_laid : (x y t : List ℕ) → length x + length y ≡ length t → sets (sets t 0 x) (length x) y ≡ x ++ y
both_laid x y t e =
    both_stored x y t (omega arith)
    ∙ ap (λ r. x ++ y ++ r) (drop_of_length-le t {i = length (x ++ y)} (omega (arith, length-append x y)))
    ∙ append-nil (x ++ y)

-- a whole buffer stored over: a copy
pub copied : (image work : List ℕ) → length work ≡ length image → sets work 0 image ≡ image
copied image work l =
    sets-front image work (omega arith)
    ∙ ap (λ r. image ++ r) (drop_of_length-le work {i = length image} (omega arith))
    ∙ append-nil image

-- an overlay at addresses that follow each other
pub overlay-run : (vs i : List ℕ) (f : ℕ) → overlay (run f (length vs)) vs i ≡ sets i f vs
overlay-run [] i f = refl
overlay-run (v ∷ vs) i f =
    overlay-set (f + suc (length vs)) (run (suc f) (length vs)) vs i f v (above-run (length vs) f (f + suc (length vs)) (omega arith))
    ∙ overlay-run vs (set i f v) (suc f)
