-- What skipping an area in the skip table leaves usable.
-- Assumes nothing.
use mathlib.Core.Path.{◌≡◌, refl, sym, ◌∙◌}
use mathlib.Core.Bool.{Bool, true, false, not, ◌&&◌, and-true, and-false}
use mathlib.Core.List.{List}
use Prim.Native.Nat.{ℕ, ◌+◌, ◌-◌, min, max, ◌<◌, ◌≤◌}
use native.Mathlib.Omega.{arith}
use borrow.Author.Tests.{ltb-true, ltb-false, leb-true, leb-false, ne_eqb}
use lib.Dec.{eqb, ltb, leb}
use Rattle.tag.specs.Bytes.{byte}
use Rattle.tlv.specs.Areas.{Area, covers, without}
use Rattle.tlv.specs.Views.Table.{unskipped}
use Rattle.tlv.specs.Views.Areas.{SkipsSet}
use Rattle.tlv.proofs.Skipping.{skipped-more}

-- an area skipped from `at` on and up to the end
pub area-skipped : (t u : List ℕ) (r : Area) (at end first stop : ℕ) → SkipsSet t u first stop → first ≡ max r.start at → stop ≡ min (r.start + r.size) end → at ≤ end
    → unskipped u at (end - at) ≡ without r (unskipped t at (end - at))
area-skipped t u r at end first stop m from to l = skipped-more t u r at (end - at) (λ x p q. at_each x p q (leb r.start x) refl (ltb x (r.start + r.size)) refl)
  where
    at_each : (x : ℕ) → at ≤ x → x < at + (end - at) → (b : Bool) → leb r.start x ≡ b → (d : Bool) → ltb x (r.start + r.size) ≡ d
        → eqb (byte u x) 0 ≡ eqb (byte t x) 0 && not (covers r x)
    at_each x p q true e true f =
        let s : byte u x ≡ stop = m.inside x (omega (arith, leb-true r.start x e)) (omega (arith, ltb-true x (r.start + r.size) f)) in
        let z : eqb (byte u x) 0 ≡ false = ne_eqb (byte u x) 0 (λ y. omega (arith, ltb-true x (r.start + r.size) f)) in
        rw (e, f) (z ∙ sym (and-false (eqb (byte t x) 0)))
    at_each x p q true e false f =
        let s : byte u x ≡ byte t x = m.after x (omega (arith, leb-true r.start x e, ltb-false x (r.start + r.size) f)) in
        rw (e, f, s) (sym (and-true (eqb (byte t x) 0)))
    at_each x p q false e d f =
        let s : byte u x ≡ byte t x = m.before x (omega (arith, leb-false r.start x e)) in
        rw (e, s) (sym (and-true (eqb (byte t x) 0)))
