-- The address that is prepared for a list is that of the first length byte.
-- Assumes nothing.
use mathlib.Core.Path.{◌≡◌, sym, ap, ◌∙◌}
use mathlib.Core.List.{List}
use Prim.Native.Nat.{ℕ, ◌<◌}
use native.Mathlib.Omega.{arith}
use native.Mathlib.Decide.{dec_lt}
use lib.ListN.{length}
use Rattle.tlv.specs.declared.walk.Walk.{Walk}
use Rattle.tlv.specs.Views.Walks.{ahead}
use Rattle.tlv.proofs.Usable.{from, At, from_first, from_end}
use Rattle.tlv_tag.specs.Update.{length_at}

-- f is the first usable address
pub first_usable : (t : List ℕ) (w : Walk) (f : ℕ) → At t f w.end.0 → ahead t w ≡ from t f w.end.0 → 0 < length (ahead t w)
    → (f ≡ length_at (ahead t w)) × (f < w.end.0)
first_usable t w f p e l =
    let some : 0 < length (from t f w.end.0) = omega (arith, ap length e) in
    (sym (ap length_at e ∙ from_first t f w.end.0 0 p some), go (dec_lt f w.end.0) some)
  where
    go : Dec (f < w.end.0) → 0 < length (from t f w.end.0) → f < w.end.0
    go (yes u) s = u
    go (no n) s = absurd (omega (arith, ap length (from_end t f w.end.0 (omega arith))))
