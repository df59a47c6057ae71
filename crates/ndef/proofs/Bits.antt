-- A flag of a byte, as its mask tells it.
-- Assumes nothing.
use mathlib.Core.Path.{◌≡◌, refl, ap, ◌∙◌}
use mathlib.Core.Bool.{Bool, true, false, not}
use Prim.Native.Nat.{ℕ, ◌*◌, ◌/◌, ◌%◌, ◌^◌, ◌<◌}
use native.Mathlib.Omega.{arith}
use lib.Bits.{bit_and}
use lib.Dec.{eqb}
use borrow.Author.Tests.{eq-eqb, ne_eqb, eqb-true, eqb-false}
use Rattle.std.proofs.lemmas.Nat.Bits.{and_pow}

-- the mask p is a power of two
module _ (n k p : ℕ) (e : 2 ^ k ≡ p) (some : 0 < p) where
  masked : bit_and n p ≡ n / p % 2 * p
  masked = rw e at (and_pow n k)

  pub no-flag : eqb (bit_and n p) 0 ≡ eqb (n / p % 2) 0
  no-flag = go (eqb (n / p % 2) 0) refl
    where
      go : (b : Bool) → eqb (n / p % 2) 0 ≡ b → eqb (bit_and n p) 0 ≡ b
      go true q = eq-eqb (bit_and n p) 0 (masked ∙ ap (λ x. x * p) (eqb-true (n / p % 2) 0 q) ∙ omega arith)
      go false q =
          let f : n / p % 2 ≡ 0 → ⊥ = eqb-false (n / p % 2) 0 q in
          let one : n / p % 2 ≡ 1 = omega arith in
          let all : bit_and n p ≡ 1 * p = masked ∙ ap (λ x. x * p) one in
          ne_eqb (bit_and n p) 0 (omega arith)

  pub flag : not (eqb (bit_and n p) 0) ≡ eqb (n / p % 2) 1
  flag = ap not no-flag ∙ go (eqb (n / p % 2) 1) refl
    where
      go : (b : Bool) → eqb (n / p % 2) 1 ≡ b → not (eqb (n / p % 2) 0) ≡ b
      go true q = let one : n / p % 2 ≡ 1 = eqb-true (n / p % 2) 1 q in rw (ne_eqb (n / p % 2) 0 (omega arith))
      go false q = let f : n / p % 2 ≡ 1 → ⊥ = eqb-false (n / p % 2) 1 q in rw (eq-eqb (n / p % 2) 0 (omega arith))
