-- Slices compared as arrays: two arrays, and two lists by their first elements and their last.
-- Assumes nothing.
use Rattle.std.proofs.Common.{rules, arith, ◌≡◌, ◌≤◌, ◌++◌, refl, sym, ap, ◌∙◌, length, take, drop, ℕ, Bool, true, false, nat_eq, List, Bor, Option, Some, None, MatchOption}
use mathlib.Core.Bool.{◌&&◌}
use lib.Pointwise.{pointwise}
use lib.Seq.{length-take-le}
use Rattle.std.specs.Option.{option_eq}
use Rattle.std.proofs.lemmas.List.{take-append-drop, drop-append-le}
use Rattle.tag.specs.Bytes.{same}
use Rattle.tag.proofs.Logic.{same-eq, same_refl}
use Rattle.tag.proofs.Same.{same-append}

-- a part of a slice as an array, if it is there
abbrev pub Part : Type 0
Part = Option (Bor (List ℕ))

abbrev pub equal : Part → Part → Bool
equal = option_eq (λ (x : Bor (List ℕ)) (y : Bor (List ℕ)). pointwise nat_eq x.now y.now)

pointwise-same : (a b : List ℕ) → pointwise nat_eq a b ≡ same a b
pointwise-same a b = search rules

-- two arrays that are there, and are u and v
pub compared : (u v : List ℕ) {P Q : Type 0} {F G : Bor (List ℕ) → Type 0} (p : P → ⊥) (q : Q → ⊥)
    (f : (x : Bor (List ℕ)) → F x → x.now ≡ u) (g : (x : Bor (List ℕ)) → G x → x.now ≡ v)
    → (r s : Part) → MatchOption r P F → MatchOption s Q G → equal r s ≡ same u v
compared u v p q f g None s i j = absurd (p i)
compared u v p q f g (Some x) None i j = absurd (q j)
compared u v p q f g (Some x) (Some y) i j = pointwise-same x.now y.now ∙ rw (f x i, g y j)

-- the first n elements, and those from k on
module _ (n k : ℕ) (a b : List ℕ) (meets : k ≤ n) (inside : n ≤ length a) (one : length b ≡ length a) where
  abbrev x : List ℕ
  x = take n a

  abbrev y : List ℕ
  y = take n b

  as-long : length x ≡ length y
  as-long = length-take-le n a inside ∙ sym (length-take-le n b (omega (arith, one)))

  tail : (l : List ℕ) → n ≤ length l → drop k l ≡ drop k (take n l) ++ drop n l
  tail l h = ap (drop k) (sym (take-append-drop n l)) ∙ drop-append-le k (take n l) (drop n l) (omega (arith, length-take-le n l h))

  tails : x ≡ y → same (drop k a) (drop k b) ≡ same (drop n a) (drop n b)
  tails e =
      rw (tail a inside, tail b (omega (arith, one)))
      (same-append (drop k x) (drop n a) (drop k y) (drop n b) (ap (λ l. length (drop k l)) e)
      ∙ rw (e, same_refl (drop k y)))

  by-first : (c : Bool) → same x y ≡ c → c && same (drop k a) (drop k b) ≡ c && same (drop n a) (drop n b)
  by-first false e = refl
  by-first true e = tails (same-eq x y e)

  pub same_ends : same (take n a) (take n b) && same (drop k a) (drop k b) ≡ same a b
  same_ends =
      by-first (same x y) refl
      ∙ sym (same-append x (drop n a) y (drop n b) as-long)
      ∙ rw (take-append-drop n a, take-append-drop n b)
