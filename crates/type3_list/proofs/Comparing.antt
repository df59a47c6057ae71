-- The message's blocks compared with those that the image holds, one after the other.
-- Assumes nothing.
use mathlib.Core.Path.{◌≡◌, refl, sym, ap, ◌∙◌}
use mathlib.Core.Bool.{Bool, not, cond, ◌&&◌}
use mathlib.Core.List.{List, [], ◌∷◌, ◌++◌}
use Prim.Native.Nat.{ℕ, zero, suc, ◌+◌, ◌-◌, ◌*◌, ◌<◌, ◌≤◌, min}
use native.Mathlib.Omega.{arith}
use lib.Pointwise.{pointwise}
use lib.ListN.{length, take, drop, get_or, length-drop}
use lib.Seq.{drop-drop}
use Rattle.std.specs.Prelude.{nat_eq}
use Rattle.std.specs.Simd.{first_chunks}
use Rattle.tag.specs.Bytes.{same}
use Rattle.tag.specs.Views.Picked.{picked}
use Rattle.tag.proofs.Counts.{counted-most}
use Rattle.tag.proofs.Picks.{length-picked, picked_next}
use Rattle.type3.specs.Update.{blocks_for}
use Rattle.type3_list.specs.Views.Blocks.{filled, message_block, is_changed, changed_blocks}
use Rattle.type3_list.proofs.Cutting.{next-chunk}
use Rattle.type3_list.proofs.MessageBlocks.{part_filled}

-- one of the arrays that a slice is cut into
pub chunk-at : (n k : ℕ) (xs : List ℕ) (j : ℕ) → j < k → get_or (first_chunks n k xs) j [] ≡ take n (drop (n * j) xs)
chunk-at n zero xs j l = absurd (omega arith)
chunk-at n (suc k) xs zero l = let e : n * 0 ≡ 0 = omega arith in rw e
chunk-at n (suc k) xs (suc j) l =
    let e : n * suc j ≡ n + n * j = omega arith in
    chunk-at n k (drop n xs) j (omega arith) ∙ rw e (ap (take n) (drop-drop (n * j) n xs))

-- arrays that are equal have the same bytes
same-pointwise : (a b : List ℕ) → pointwise nat_eq a b ≡ same a b
same-pointwise [] [] = refl
same-pointwise [] (y ∷ b) = refl
same-pointwise (x ∷ a) [] = refl
same-pointwise (x ∷ a) (y ∷ b) = ap (λ r. nat_eq x y && r) (same-pointwise a b)

-- the next part of the message is its block after n others, and what is left starts behind it
pub next-part : (m part rest rest' : List ℕ) (n size : ℕ) → size ≡ 16 → rest ≡ drop (16 * n) m → rest ≡ part ++ rest' → length part ≡ min size (length rest) → 0 < length rest
    → (rest' ≡ drop (16 * (n + 1)) m) × (filled part ≡ message_block m (1 + n)) × (n < blocks_for (length m))
next-part m part rest rest' n size sixteen left cut long some =
    let (is, behind, _) = next-chunk m part rest rest' 16 n size sixteen left cut long in
    let place : 16 * n ≡ 16 * (1 + n - 1) = omega arith in
    (behind, ap filled is ∙ part_filled (drop (16 * n) m) ∙ ap (λ s. filled (drop s m)) place, omega (arith, ap length left, length-drop (16 * n) m))

-- whether it is changed, as the code compares it
pub changed-is : (i m part : List ℕ) (held : List (List ℕ)) (block : List ℕ) (n k j : ℕ) (r : Bool) → filled part ≡ message_block m (1 + n) → n + 1 < k
    → held ≡ first_chunks 16 k i → block ≡ filled part → j ≡ n → r ≡ not (pointwise nat_eq (get_or held (j + 1) []) block) → r ≡ is_changed i m (1 + n)
changed-is i m part held block n k j r is l h b e answer =
    let next : n + 1 ≡ 1 + n = omega arith in
    answer
    ∙ rw (h, b, e) (ap not (same-pointwise (get_or (first_chunks 16 k i) (n + 1) []) (filled part)))
    ∙ ap (λ x. not (same x (filled part))) (chunk-at 16 k i (n + 1) l ∙ ap (λ b. take 16 (drop (16 * b) i)) next)
    ∙ ap (λ x. not (same (take 16 (drop (16 * (1 + n)) i)) x)) is

-- so one block more is picked, or none
pub picked-more : (t : ℕ → Bool) (n : ℕ) (r : Bool) (ps : List ℕ) → r ≡ t (1 + n) → ps ≡ picked t 1 n → ps ++ cond r ((n + 1) ∷ []) [] ≡ picked t 1 (n + 1)
picked-more t n r ps e q =
    let next : n + 1 ≡ 1 + n = omega arith in
    ap (λ x. x ++ cond r ((n + 1) ∷ []) []) q
    ∙ ap (λ b. picked t 1 n ++ cond r (b ∷ []) []) next
    ∙ ap (λ c. picked t 1 n ++ cond c ((1 + n) ∷ []) []) e
    ∙ sym (picked_next t n 1)

-- at most as many as are compared
pub picked-most : (t : ℕ → Bool) (n : ℕ) (ps : List ℕ) → ps ≡ picked t 1 n → length ps ≤ n
picked-most t n ps q = omega (arith, ap length q, length-picked t 1 n, counted-most t n 1)

pub few_changed : (i m : List ℕ) → length (changed_blocks i m) ≤ blocks_for (length m)
few_changed i m = picked-most (is_changed i m) (blocks_for (length m)) (changed_blocks i m) refl
