-- The sum that the checksum of a Type 3 tag is compared with.
-- Assumes nothing.
use Rattle.std.proofs.Common.{◌≡◌, refl, List, ℕ, ◌+◌, sum, take, arith, [], ◌∷◌, zero, suc}
use Rattle.std.proofs.lemmas.List.Sums.{sum_by-cons}
use Rattle.tag.specs.Bytes.{byte}
use Rattle.type3.specs.AttributeInformation.{attribute_information}

-- one byte more; past the end it is 0
pub sum-more : (i : List ℕ) (n : ℕ) → sum (take (suc n) i) ≡ sum (take n i) + byte i n
sum-more [] zero = refl
sum-more [] (suc n) = refl
sum-more (a ∷ i) zero = omega arith
sum-more (a ∷ i) (suc n) =
    let first : (l : List ℕ) → sum (a ∷ l) ≡ a + sum l = sum_by-cons (λ x. x) a in
    omega (arith, first (take (suc n) i), first (take n i), sum-more i n)

pub sum_is : (i : List ℕ) → sum (take 14 i) ≡ (attribute_information i).sum
sum_is i =
    omega (
      arith,
      sum-more i 0,
      sum-more i 1,
      sum-more i 2,
      sum-more i 3,
      sum-more i 4,
      sum-more i 5,
      sum-more i 6,
      sum-more i 7,
      sum-more i 8,
      sum-more i 9,
      sum-more i 10,
      sum-more i 11,
      sum-more i 12,
      sum-more i 13,
    )
