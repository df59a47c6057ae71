-- What the writer's steps lay: the new image, and the bytes that shut the guard block.
-- Assumes nothing.
use mathlib.Core.Path.{◌≡◌, refl, sym, ap, ◌∙◌}
use mathlib.Core.List.{List, [], ◌∷◌, ◌++◌}
use Prim.Native.Nat.{ℕ, suc, ◌+◌, ◌/◌, ◌%◌, ◌≤◌}
use native.Mathlib.Numerals.{add-one}
use native.Mathlib.Omega.{arith}
use lib.ListN.{length, replicate, set, take, drop}
use lib.Seq.{sets, set_comm, take-set-lt, drop-set-add}
use Rattle.tag.specs.Bytes.{overlay}
use Rattle.tag.proofs.Storing.{sets-append, overlay-run}
use Rattle.type6.specs.Update.{addresses, values, closed_at}
use Rattle.type6_write.specs.Views.Listing.{shut_bytes}

-- NLEN, then the message
pub laid : (i m : List ℕ) (f : ℕ) → sets (sets i f (length m % 256 ∷ length m / 256 ∷ [])) (f + 2) m ≡ overlay (addresses f m) (values m) i
laid i m f = sym (sets-append (length m % 256 ∷ length m / 256 ∷ []) m i f) ∙ sym (overlay-run (values m) i f)

-- two bytes filled with 00h are two bytes set to it
pub zeroed : (xs : List ℕ) → 2 ≤ length xs → replicate (length (take 2 xs)) 0 ++ drop 2 xs ≡ set (set xs 0 0) 1 0
zeroed [] h = absurd (omega (arith, h))
zeroed (x ∷ []) h = absurd (omega (arith, h))
zeroed (x ∷ y ∷ xs) h = refl

-- the guard block's bytes, with 00h for both bytes of NLEN
pub shut-made : (i : List ℕ) (f z : ℕ) → 2 ≤ z → set (set (take z (drop f i)) 0 0) 1 0 ≡ shut_bytes z f i
shut-made i f z s =
    let first : f + 0 ≡ f = omega arith in
    let inner : drop f (set i (suc f) 0) ≡ set (drop f i) 1 0 = ap (λ a. drop f (set i a 0)) (sym (add-one f)) ∙ drop-set-add f i 1 0 in
    let outer : drop f (closed_at f i) ≡ set (set (drop f i) 1 0) 0 0
    = ap (λ a. drop f (set (set i (suc f) 0) a 0)) (sym first) ∙ drop-set-add f (set i (suc f) 0) 0 0 ∙ ap (λ x. set x 0 0) inner in
    set_comm (take z (drop f i)) 0 1 0 0 (λ e. omega arith)
    ∙ sym (ap (take z) outer ∙ take-set-lt z (set (drop f i) 1 0) 0 0 (omega arith) ∙ ap (λ x. set x 0 0) (take-set-lt z (drop f i) 1 0 (omega arith)))
