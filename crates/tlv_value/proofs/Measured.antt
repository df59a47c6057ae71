-- A value measured by its first and its n-th address. The first is f; the n-th is z, which is the walk's end if there are fewer.
-- Assumes nothing.
use mathlib.Core.Path.{◌≡◌, ap, ◌∙◌}
use mathlib.Core.List.{List}
use Prim.Native.Nat.{ℕ, ◌+◌, ◌-◌, ◌≤◌}
use native.Mathlib.Omega.{arith}
use borrow.Author.Tests.{le-leb, lt-leb}
use lib.Dec.{ltb}
use lib.ListN.{length, get_or}
use Rattle.tlv.specs.declared.walk.Walk.{Walk}
use Rattle.tlv.specs.Views.Walks.{ahead}
use Rattle.tlv_value.specs.Views.Values.{short, at, measured}
use Rattle.tlv.proofs.Usable.{from, At, from_first, ahead-rising}
use Rattle.tlv.proofs.Rising.{nth-spread, nth-consecutive}
use Rattle.tlv.proofs.PassedValues.{fewer-ahead, enough-ahead}

module _ (t : List ℕ) (w : Walk) (n z : ℕ) (ordered : w.at.0 ≤ w.end.0) (some : 1 ≤ n) (nth : z ≡ get_or (ahead t w) (n - 1) w.end.0) where
  pub measured-short : z ≡ w.end.0 → short ≡ measured n (ahead t w)
  unfolding measured
  measured-short q = rw (lt-leb n (length (ahead t w)) (fewer-ahead t w n z ordered some nth q))

  module _ (f : ℕ) (there : z ≡ w.end.0 → ⊥) (first : At t f w.end.0) (same : ahead t w ≡ from t f w.end.0) where
    measured-first : get_or (ahead t w) 0 0 ≡ f
    measured-first =
        ap (λ us. get_or us 0 0) same ∙ from_first t f w.end.0 0 first (omega (arith, ap length same, enough-ahead t w n z nth there))

    pub measured-spread : f + (n - 1) ≤ z
    measured-spread =
        omega (arith, nth, measured-first, nth-spread w.end.0 n (ahead t w) (ahead-rising t w ordered) some (enough-ahead t w n z nth there))

    pub measured-at : at f (ltb (f + (n - 1)) z) ≡ measured n (ahead t w)
    unfolding measured
    measured-at =
        rw (← measured-first, nth, le-leb n (length (ahead t w)) (enough-ahead t w n z nth there))
        (ap (at (get_or (ahead t w) 0 0)) (nth-consecutive w.end.0 n (ahead t w) (ahead-rising t w ordered) some (enough-ahead t w n z nth there)))
