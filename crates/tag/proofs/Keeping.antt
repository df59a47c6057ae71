-- Whether a tag keeps the bytes of another, range by range. Only the tested addresses count, a range may be split, and a range that
-- is tested whole is a comparison of two parts.
-- Assumes nothing.
use mathlib.Core.Path.{◌≡◌, refl, sym, ap, ◌∙◌}
use mathlib.Core.Bool.{Bool, true, false, not, ◌&&◌, ◌||◌, and-true, and-false, and_assoc}
use mathlib.Core.List.{List}
use Prim.Native.Nat.{ℕ, zero, suc, ◌+◌, ◌-◌, ◌<◌, ◌≤◌}
use native.Mathlib.Omega.{arith}
use lib.Dec.{eqb}
use lib.ListN.{length, take, drop, length-drop}
use lib.Seq.{drop-cons, take_all}
use Rattle.tag.specs.Bytes.{byte, run, same}
use Rattle.tag.specs.Judge.{equal_at}
use Rattle.tag.proofs.Logic.{true-false}

pub equal-same : (p q : ℕ → Bool) (i j : List ℕ) (s n : ℕ) → ((a : ℕ) → s ≤ a → a < s + n → p a ≡ q a) → equal_at p i j (run s n) ≡ equal_at q i j (run s n)
equal-same p q i j s zero h = refl
equal-same p q i j s (suc n) h = rw (h s (omega arith) (omega arith), equal-same p q i j (suc s) n (λ a l u. h a (omega arith) (omega arith)))

module _ (p : ℕ → Bool) (i j : List ℕ) where
  pub equal-split : (m s n : ℕ) → equal_at p i j (run s (m + n)) ≡ equal_at p i j (run s m) && equal_at p i j (run (s + m) n)
  equal-split zero s n =
      let e : 0 + n ≡ n = omega arith in
      let f : s + 0 ≡ s = omega arith in
      rw (e, f)
  equal-split (suc m) s n =
      let e : suc m + n ≡ suc (m + n) = omega arith in
      let f : s + suc m ≡ suc s + m = omega arith in
      rw (e, f, equal-split m (suc s) n) (sym (and_assoc (not (p s) || eqb (byte j s) (byte i s)) (equal_at p i j (run (suc s) m)) (equal_at p i j (run (suc s + m) n))))

  -- none of them tested
  pub equal-none : (n s : ℕ) → ((a : ℕ) → s ≤ a → a < s + n → p a ≡ false) → equal_at p i j (run s n) ≡ true
  equal-none zero s h = refl
  equal-none (suc n) s h = rw (h s (omega arith) (omega arith), equal-none n (suc s) (λ a l u. h a (omega arith) (omega arith)))

  -- all of them tested
  pub equal-all : (n s : ℕ) → ((a : ℕ) → s ≤ a → a < s + n → p a ≡ true) → s + n ≤ length i → s + n ≤ length j
      → equal_at p i j (run s n) ≡ same (take n (drop s j)) (take n (drop s i))
  equal-all zero s h l u = refl
  equal-all (suc n) s h l u =
      rw (h s (omega arith) (omega arith), drop-cons j s 0 (omega arith), drop-cons i s 0 (omega arith), equal-all n (suc s) (λ a l u. h a (omega arith) (omega arith)) (omega arith) (omega arith))

-- ---- every address outside the range from first up to stop is tested

module _ (p : ℕ → Bool) (i j : List ℕ) (first stop : ℕ) (size : length j ≡ length i) (low : first ≤ stop) (high : stop ≤ length i)
    (below : (a : ℕ) → a < first → p a ≡ true) (above : (a : ℕ) → stop ≤ a → p a ≡ true) where
  around : equal_at p i j (run 0 (length i)) ≡ same (take first j) (take first i) && (equal_at p i j (run first (stop - first)) && same (drop stop j) (drop stop i))
  around =
      let k = stop - first in
      let n = length i - stop in
      let e : length i ≡ first + (k + n) = omega arith in
      let f : first + k ≡ stop = omega arith in
      let z : 0 + first ≡ first = omega arith in
      let front : equal_at p i j (run 0 first) ≡ same (take first j) (take first i) = equal-all p i j first 0 (λ a l u. below a (omega arith)) (omega arith) (omega arith) in
      let back : equal_at p i j (run stop n) ≡ same (take n (drop stop j)) (take n (drop stop i)) = equal-all p i j n stop (λ a l u. above a l) (omega arith) (omega arith) in
      let x : take n (drop stop j) ≡ drop stop j = take_all n (drop stop j) (omega (arith, length-drop stop j)) in
      let y : take n (drop stop i) ≡ drop stop i = take_all n (drop stop i) (omega (arith, length-drop stop i)) in
      ap (λ l. equal_at p i j (run 0 l)) e
      ∙ equal-split p i j first 0 (k + n)
      ∙ ap (λ s. equal_at p i j (run 0 first) && equal_at p i j (run s (k + n))) z
      ∙ ap (λ b. equal_at p i j (run 0 first) && b) (equal-split p i j k first n)
      ∙ rw (f, front, back, x, y)

  pub outside-differs : same (take first j) (take first i) && same (drop stop j) (drop stop i) ≡ false → equal_at p i j (run 0 (length i)) ≡ false
  outside-differs e = around ∙ go (same (take first j) (take first i)) (equal_at p i j (run first (stop - first))) (same (drop stop j) (drop stop i)) e
    where
      go : (x y z : Bool) → x && z ≡ false → x && (y && z) ≡ false
      go false y z q = refl
      go true y z q = rw q (and-false y)

  pub outside-same : same (take first j) (take first i) && same (drop stop j) (drop stop i) ≡ true
      → equal_at p i j (run 0 (length i)) ≡ equal_at p i j (run first (stop - first))
  outside-same e = around ∙ go (same (take first j) (take first i)) (equal_at p i j (run first (stop - first))) (same (drop stop j) (drop stop i)) e
    where
      go : (x y z : Bool) → x && z ≡ true → x && (y && z) ≡ y
      go true y z q = rw q (and-true y)
      go false y z q = absurd (true-false q refl)
