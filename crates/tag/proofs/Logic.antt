-- What a test's result says: for conjunctions, disjunctions, equal lists, and lengths in whole blocks.
-- Assumes nothing.
use mathlib.Core.Path.{◌≡◌, refl, sym, ◌∙◌}
use mathlib.Core.Bool.{Bool, true, false, ◌&&◌, ◌||◌, cond, true≢false, false≢true}
use mathlib.Core.Logic.{◌⊎◌, inl, inr}
use mathlib.Core.List.{List, [], ◌∷◌}
use Prim.Native.Nat.{ℕ, ◌%◌, ◌≤◌}
use native.Mathlib.Omega.{arith}
use borrow.Author.Tests.{leb-true, eqb-true, eq-eqb}
use lib.Dec.{leb, eqb}
use Rattle.tag.specs.Bytes.{same}

pub and_l : (a b : Bool) → a && b ≡ true → a ≡ true
and_l true b e = refl
and_l false b e = e

pub and_r : (a b : Bool) → a && b ≡ true → b ≡ true
and_r true b e = e
and_r false b e = absurd (false≢true e)

pub and-three : (a b c : Bool) → a && b && c ≡ true → (a ≡ true) × (b ≡ true) × (c ≡ true)
and-three a b c e = (and_l a b (and_l (a && b) c e), and_r a b (and_l (a && b) c e), and_r (a && b) c e)

pub and_both : {a b : Bool} → a ≡ true → b ≡ true → a && b ≡ true
and_both {a} {b} p q = rw (p, q)

pub or_cases : (a b : Bool) → a || b ≡ true → (a ≡ true) ⊎ (b ≡ true)
or_cases true b e = inl refl
or_cases false b e = inr e

pub or_l : (a b : Bool) → a ≡ true → a || b ≡ true
or_l a b p = rw p

pub or_r : (a b : Bool) → b ≡ true → a || b ≡ true
or_r true b p = refl
or_r false b p = p

pub same-eq : (x y : List ℕ) → same x y ≡ true → x ≡ y
same-eq [] [] e = refl
same-eq [] (y ∷ ys) e = absurd (false≢true e)
same-eq (x ∷ xs) [] e = absurd (false≢true e)
same-eq (x ∷ xs) (y ∷ ys) e = cc (eqb-true x y (and_l (eqb x y) (same xs ys) e), same-eq xs ys (and_r (eqb x y) (same xs ys) e))

pub same_refl : (x : List ℕ) → same x x ≡ true
same_refl [] = refl
same_refl (x ∷ xs) = and_both (eq-eqb x x refl) (same_refl xs)

-- a test counts for at most one
pub one_at_most : (c : Bool) → (cond c 1 0 ≤ 1) × (cond c 0 1 ≤ 1)
one_at_most true = (omega arith, omega arith)
one_at_most false = (omega arith, omega arith)

-- a length in whole blocks of z, from the least to the most
pub lengths : (z least most n : ℕ) → eqb (n % z) 0 && leb least n && leb n most ≡ true → (n % z ≡ 0) × (least ≤ n) × (n ≤ most)
lengths z least most n e =
    let (whole, low, high) = and-three (eqb (n % z) 0) (leb least n) (leb n most) e in
    (eqb-true (n % z) 0 whole, leb-true least n low, leb-true n most high)

pub true-false : {b : Bool} → b ≡ true → b ≡ false → ⊥
true-false p q = true≢false (sym p ∙ q)

-- `absurd (nope (cc))` closes an impossible case, where `cc` finds two different constructors equal
pub nope : ◌≡◌ {A = ℕ} 0 1 → ⊥
nope e = omega arith
