-- How many commands a list has, as 02's formula says: 1 if the first stays, as many as the blocks between fill, and 1 for the last.
-- Also how many blocks a test can pick.
-- Assumes nothing.
use mathlib.Core.Path.{◌≡◌, refl, ap, ◌∙◌}
use mathlib.Core.Bool.{Bool, true, false, cond}
use mathlib.Core.List.{List, [], ◌∷◌, ◌++◌}
use Prim.Native.Nat.{ℕ, zero, suc, ◌+◌, ◌-◌, ◌/◌, ◌<◌, ◌≤◌}
use native.Mathlib.Omega.{arith}
use native.Mathlib.Decide.{dec_lt}
use lib.ListN.{length, length-append}
use Rattle.tag.specs.Stores.{Store}
use Rattle.tag.specs.Plan.{Plan, new_image, between, picks, first_store, last_store, first, middle, list, counted, differing, command_count}
use Rattle.tag.proofs.Picks.{length-picks}
use Rattle.tag.proofs.Chunks.{length-chunk}

module _ (t : ℕ → Bool) where
  pub counted-most : (k b : ℕ) → counted t b k ≤ k
  counted-most zero b = omega arith
  counted-most (suc k) b = go (t b) (counted-most k (suc b))
    where
      go : (c : Bool) → counted t (suc b) k ≤ k → cond c 1 0 + counted t (suc b) k ≤ suc k
      go true h = omega arith
      go false h = omega arith

  -- a test that is false below a
  pub counted-above : (k b a : ℕ) → ((c : ℕ) → c < a → t c ≡ false) → counted t b k ≤ b + k - a
  counted-above zero b a h = omega arith
  counted-above (suc k) b a h = go (dec_lt b a) (counted-above k (suc b) a h)
    where
      go : Dec (b < a) → counted t (suc b) k ≤ suc b + k - a → counted t b (suc k) ≤ b + suc k - a
      go (yes l) ih = rw (h b l) (omega arith)
      go (no n) ih = omega (arith, counted-most (suc k) b)

pub length-list : (p : Plan) (i : List ℕ) → length (list p i) ≡ command_count p i
length-list p i =
    let chosen = picks (between p i) p.block_size (new_image p i) 0 (length i / p.block_size) in
    let e : length chosen ≡ differing p i = length-picks (between p i) p.block_size (new_image p i) 0 (length i / p.block_size) in
    let f : length (middle p i) ≡ (differing p i + (p.width - 1)) / p.width
    = length-chunk p.width ((length chosen + (p.width - 1)) / p.width) chosen ∙ ap (λ k. (k + (p.width - 1)) / p.width) e in
    omega (arith, f, go p.is_shut, length-append (first p) (middle p i ++ (last_store p i ∷ []) ∷ []), length-append (middle p i) ((last_store p i ∷ []) ∷ []))
  where
    go : (c : Bool) → length {A = List Store} (cond c [] ((first_store p ∷ []) ∷ [])) ≡ cond c 0 1
    go true = refl
    go false = refl
