-- The loop keeps: the entries up to the one reached are set.
use Rattle.std.proofs.Common.{◌≡◌, ◌-◌, length, take, replicate}
use Rattle.tlv.proofs.table.skip.Given as goal

abbrev pub invariant-loop-entry : goal.invariant-loop-entry
invariant-loop-entry l = record {
  long : length l.entry-items ≡ l.fn.stop.0 - l.fn.first.0;
  entered : take l.entry-index l.entry-items ≡ replicate l.entry-index l.fn.stop.0;
}
