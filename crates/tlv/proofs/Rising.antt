-- Addresses that rise are consecutive exactly if the n-th of them is the first plus n - 1.
-- Assumes nothing.
use mathlib.Core.Path.{◌≡◌}
use mathlib.Core.Bool.{not, ◌&&◌}
use mathlib.Core.List.{List, [], ◌∷◌}
use Prim.Native.Nat.{ℕ, zero, suc, ◌+◌, ◌-◌, ◌<◌, ◌≤◌}
use native.Mathlib.Nat.{not-suc-le-zero}
use native.Mathlib.Omega.{arith}
use native.Mathlib.Decide.{ℕ_discrete, dec_lt}
use borrow.Author.Tests.{lt-ltb, le-ltb, eq-eqb, ne_eqb}
use lib.Dec.{eqb, ltb}
use lib.ListN.{length, get_or, take, get_or-eq_default}
use Rattle.tag.specs.Bytes.{consecutive}
use Rattle.tag.proofs.Addresses.{Above, Rising, above-hi}

-- the n-th address is looked up with hi for one that is not there
module _ (hi : ℕ) where
  above-below : (k a : ℕ) (us : List ℕ) → Above hi a us → k ≤ length us → get_or (a ∷ us) k hi < hi
  above-below zero a us h l = above-hi hi a us h
  above-below (suc k) a [] h l = absurd (not-suc-le-zero l)
  above-below (suc k) a (b ∷ us) h l = above-below k b us h.1 (omega arith)

  above-spread : (k a : ℕ) (us : List ℕ) → Above hi a us → k ≤ length us → a + k ≤ get_or (a ∷ us) k hi
  above-spread zero a us h l = omega arith
  above-spread (suc k) a [] h l = absurd (not-suc-le-zero l)
  above-spread (suc k) a (b ∷ us) h l = omega (arith, h.0, above-spread k b us h.1 (omega arith))

  above-consecutive : (k a : ℕ) (us : List ℕ) → Above hi a us → k ≤ length us
      → ltb (a + k) (get_or (a ∷ us) k hi) ≡ not (consecutive (a ∷ take k us))
  above-consecutive zero a us h l = le-ltb (a + 0) a (omega arith)
  above-consecutive (suc k) a [] h l = absurd (not-suc-le-zero l)
  above-consecutive (suc k) a (b ∷ us) h l = go (ℕ_discrete (suc a) b) (above-consecutive k b us h.1 (omega arith))
    where
      go : Dec (suc a ≡ b) → ltb (b + k) (get_or (b ∷ us) k hi) ≡ not (consecutive (b ∷ take k us))
          → ltb (a + suc k) (get_or (b ∷ us) k hi) ≡ not (eqb (suc a) b && consecutive (b ∷ take k us))
      go (yes e) ih = let f : a + suc k ≡ b + k = omega arith in rw (eq-eqb (suc a) b e, f) ih
      go (no n) ih =
          let s : b + k ≤ get_or (b ∷ us) k hi = above-spread k b us h.1 (omega arith) in
          rw (ne_eqb (suc a) b n) (lt-ltb (a + suc k) (get_or (b ∷ us) k hi) (omega (arith, h.0)))

  pub nth_inside : (n : ℕ) (us : List ℕ) → (get_or us (n - 1) hi ≡ hi → ⊥) → n ≤ length us
  nth_inside n us q = go (dec_lt (n - 1) (length us))
    where
      none : length us ≤ n - 1 → get_or us (n - 1) hi ≡ hi
      none l = get_or-eq_default us hi l

      go : Dec (n - 1 < length us) → n ≤ length us
      go (yes l) = omega arith
      go (no m) = absurd (q (none (omega arith)))

  pub nth-outside : (n : ℕ) (us : List ℕ) → Rising hi us → 1 ≤ n → get_or us (n - 1) hi ≡ hi → length us < n
  nth-outside n [] h p q = omega arith
  nth-outside zero (a ∷ us) h p q = absurd (omega arith)
  nth-outside (suc k) (a ∷ us) h p q = go (dec_lt (length us) k)
    where
      go : Dec (length us < k) → length (a ∷ us) < suc k
      go (yes l) = omega arith
      go (no m) =
          let e : suc k - 1 ≡ k = omega arith in
          absurd (omega (arith, above-below k a us h (omega arith), rw e at q))

  pub nth-spread : (n : ℕ) (us : List ℕ) → Rising hi us → 1 ≤ n → n ≤ length us → get_or us 0 0 + (n - 1) ≤ get_or us (n - 1) hi
  nth-spread zero us h p l = absurd (omega arith)
  nth-spread (suc k) [] h p l = absurd (not-suc-le-zero l)
  nth-spread (suc k) (a ∷ us) h p l = let e : suc k - 1 ≡ k = omega arith in rw e (above-spread k a us h (omega arith))

  pub nth-consecutive : (n : ℕ) (us : List ℕ) → Rising hi us → 1 ≤ n → n ≤ length us
      → ltb (get_or us 0 0 + (n - 1)) (get_or us (n - 1) hi) ≡ not (consecutive (take n us))
  nth-consecutive zero us h p l = absurd (omega arith)
  nth-consecutive (suc k) [] h p l = absurd (not-suc-le-zero l)
  nth-consecutive (suc k) (a ∷ us) h p l = let e : suc k - 1 ≡ k = omega arith in rw e (above-consecutive k a us h (omega arith))
