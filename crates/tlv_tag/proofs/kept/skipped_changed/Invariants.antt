-- The loop keeps: a byte has changed at one of the addresses looked at so far.
use Rattle.std.proofs.Common.{◌≡◌, not, eqb, ◌-◌}
use Rattle.tag.specs.Bytes.{byte, run}
use Rattle.tag.specs.Judge.{equal_at}
use Rattle.tlv_tag.proofs.kept.skipped_changed.Given as goal

abbrev pub invariant-loop-k : goal.invariant-loop-k
invariant-loop-k l = l.changed ≡ not (equal_at (λ a. not (eqb (byte l.table a) 0)) l.image l.work (run l.fn.extent.first.0 (l.k - l.fn.extent.first.0)))
