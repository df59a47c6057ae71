-- Reading a Type 2 tag, by what its capability container says and where its message TLV is.
-- Assumes nothing.
use mathlib.Core.Path.{◌≡◌, refl, sym, ap, ◌∙◌}
use mathlib.Core.Bool.{Bool}
use mathlib.Core.List.{List, [], ◌∷◌}
use Prim.Native.Nat.{ℕ, ◌-◌, ◌*◌}
use native.Mathlib.Omega.{arith}
use lib.ListN.{length}
use Rattle.tag.specs.Bytes.{byte, run}
use Rattle.tag.specs.Checks.{fault, first_of}
use Rattle.tag.specs.Reading.{unreadable, reads}
use Rattle.tag.specs.Views.Held.{with_capacity}
use Rattle.tlv.specs.Areas.{allowed_area}
use Rattle.tlv.specs.Walk.{find}
use Rattle.tlv_tag.specs.Message.{refuse, located, locate_from, locate_after, locate, capacity_in, report_of, reading_of, reading}
use Rattle.tlv_tag.specs.Views.Reading.{area_located}
use Rattle.tlv_tag.proofs.Reading.{value-held}
use Rattle.type2.specs.Memory.{memory}
use Rattle.type2.specs.Type2.{type2}
use Rattle.type2.specs.Views.Container.{Inside}

-- a check fails
pub fault_located : (i : List ℕ) {r : ℕ} → first_of (memory.checks i) ≡ fault r → locate memory i ≡ refuse r
unfolding locate
fault_located i e = rw e

-- the capability container is sound
pub inside_located : (i : List ℕ) {end : ℕ} {w : Bool} → Inside i end w → locate memory i ≡ area_located i 16 end
unfolding locate
inside_located i {end} h =
    let e : 8 * byte i 14 ≡ end - 16 = omega (arith, h.ends) in
    ap (locate_after memory i) h.sound ∙ ap (λ n. locate_from i (find (allowed_area 16 (length i)) n i (run 16 n))) e

pub ruleset by_container = (fault_located, inside_located)

-- ---- the reading by what was located

pub reading_refused : (i : List ℕ) {r : ℕ} → refuse r ≡ locate memory i → type2.reading i ≡ unreadable r
unfolding reading
reading_refused i e = ap (reading_of (memory.writable i) i) (sym e)

pub reading_located : (i : List ℕ) {us ms : List ℕ} → located us ms ≡ locate memory i
    → type2.reading i ≡ reads (report_of (memory.writable i) (capacity_in (length us)) i ms)
unfolding reading
reading_located i e = ap (reading_of (memory.writable i) i) (sym e)

pub ruleset by_location = (reading_refused, reading_located, value-held)

-- with the capacity 0
pub reading_held : (i : List ℕ) {us ms : List ℕ} → located us ms ≡ locate memory i
    → with_capacity 0 (type2.reading i) ≡ reads (report_of (memory.writable i) 0 i ms)
reading_held i {us} {ms} e = ap (with_capacity 0) (reading_located i e) ∙ go ms
  where
    go : (ms : List ℕ) → with_capacity 0 (reads (report_of (memory.writable i) (capacity_in (length us)) i ms)) ≡ reads (report_of (memory.writable i) 0 i ms)
    go [] = refl
    go (a ∷ ms) = refl
