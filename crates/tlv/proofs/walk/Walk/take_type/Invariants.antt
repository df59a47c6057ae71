-- The loop keeps: the place is a usable address or the end, and the walk from there on finds what the walk from the first finds.
use Rattle.std.proofs.Common.{◌≡◌, Bool, ℕ, ◌≤◌, ◌-◌, length}
use Rattle.tlv.specs.Areas.{Area}
use Rattle.tlv.specs.Walk.{find}
use Rattle.tlv.proofs.Usable.{from, At}
use Rattle.tlv.proofs.walk.Walk.take_type.Given as goal

abbrev pub invariant-loop-at : goal.invariant-loop-at
invariant-loop-at l = record {
  here : At l.table l.at.0 l.self.end.0;
  farther : l.self.at.0 ≤ l.at.0;
  fewer : length (from l.table l.at.0 l.self.end.0) ≤ length (from l.table l.initial.at.0 l.self.end.0);
  same : (allowed : Area → Bool) (fuel : ℕ) → length (from l.table l.initial.at.0 l.self.end.0) ≤ fuel → find allowed fuel l.image (from l.table l.initial.at.0 l.self.end.0) ≡ find allowed fuel l.image (from l.table l.at.0 l.self.end.0);
}

abbrev pub decreases-loop-at : goal.decreases-loop-at
decreases-loop-at l = l.self.end.0 - l.at.0
