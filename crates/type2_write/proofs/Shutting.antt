-- The bytes that the guard block is shut with, as the code makes them.
-- Assumes nothing.
use mathlib.Core.Path.{◌≡◌, sym, ap, ◌∙◌}
use mathlib.Core.List.{List}
use Prim.Native.Nat.{ℕ, ◌+◌, ◌*◌, ◌/◌, ◌%◌, ◌≤◌}
use native.Mathlib.Omega.{arith}
use lib.ListN.{length, set, take, drop, length-drop, length-set}
use lib.Seq.{take-set-lt, drop-set-add, length-take-le}
use Rattle.type2_write.specs.Views.Listing.{shut_bytes}

-- k is how far into the block the byte is
pub shut-made : (i : List ℕ) (first : ℕ) → set (take 4 (drop (4 * (first / 4)) i)) (first % 4) 0 ≡ shut_bytes i first
shut-made i first =
    let b = 4 * (first / 4) in
    let k = first % 4 in
    let place : first ≡ b + k = omega arith in
    sym (ap (λ x. take 4 (drop b (set i x 0))) place ∙ ap (take 4) (drop-set-add b i k 0) ∙ take-set-lt 4 (drop b i) k 0 (omega arith))

pub length-shut : (i : List ℕ) (first : ℕ) → 4 * (first / 4) + 4 ≤ length i → length (shut_bytes i first) ≡ 4
length-shut i first h = length-take-le 4 (drop (4 * (first / 4)) (set i first 0)) (rw (length-drop, length-set) (omega arith))
