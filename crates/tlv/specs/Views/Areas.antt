-- The code's areas as the definitions have them, and what skipping one does to the skip table.
-- Assumes nothing.
use Rattle.std.specs.Prelude.{◌≡◌, List, ℕ, max, ◌<◌, ◌≤◌, length}
use Rattle.tag.specs.Bytes.{byte}
use Rattle.tlv.specs.declared.area.Area as code-area
use Rattle.tlv.specs.declared.area.Control as code-control
use Rattle.tlv.specs.declared.area.Control.TheVariants as kind
use Rattle.tlv.specs.Areas.{Area, Control, lock, memory}

abbrev pub control_as : code-control.Control → Control
control_as kind.Lock = lock
control_as kind.Memory = memory

abbrev pub area_as : code-area.Area → Area
area_as r = record { start = r.start.0; size = r.size }

-- the entries of the addresses from first up to stop are stop, and all other entries are as they were
pub record SkipsSet (t u : List ℕ) (first stop : ℕ) : Type 0 where
  pub same_length : length u ≡ length t
  pub inside : (x : ℕ) → first ≤ x → x < stop → byte u x ≡ stop
  pub before : (x : ℕ) → x < first → byte u x ≡ byte t x
  pub after : (x : ℕ) → max first stop ≤ x → byte u x ≡ byte t x
