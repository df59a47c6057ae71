-- The blocks that a list writes, collected one by one.
-- Assumes nothing.
use mathlib.Core.Path.{◌≡◌, sym, ap, ◌∙◌}
use mathlib.Core.Bool.{Bool, true, false, cond}
use mathlib.Core.List.{List, [], ◌∷◌, ◌++◌, append-nil}
use Prim.Native.Nat.{ℕ, ◌+◌}
use native.Mathlib.Omega.{arith}
use Rattle.tag.specs.Views.Picked.{picked}
use Rattle.tag.proofs.Picks.{picked_next}

module _ (t : ℕ → Bool) (b : ℕ) (before : List ℕ) (e : before ≡ picked t 0 b) where
  next : picked t 0 (b + 1) ≡ before ++ cond (t b) (b ∷ []) []
  next =
      let zero-add : 0 + b ≡ b = omega arith in
      rw zero-add at (picked_next t b 0) ∙ ap (λ bs. bs ++ cond (t b) (b ∷ []) []) (sym e)

  pub picked-taken : true ≡ t b → before ++ b ∷ [] ≡ picked t 0 (b + 1)
  picked-taken q = sym (next ∙ ap (λ c. before ++ cond c (b ∷ []) []) (sym q))

  pub picked-left : false ≡ t b → before ≡ picked t 0 (b + 1)
  picked-left q = sym (next ∙ ap (λ c. before ++ cond c (b ∷ []) []) (sym q) ∙ append-nil before)
