-- The loop keeps: what is counted and what is left make up all, and no more are counted than were passed.
use Rattle.std.proofs.Common.{◌≡◌, ◌+◌, ◌-◌, ◌≤◌, length}
use Rattle.tlv.specs.Views.Table.{unskipped}
use Rattle.tlv_value.proofs.value.count_usable.Given as goal

abbrev pub invariant-loop-entry : goal.invariant-loop-entry
invariant-loop-entry l = record {
  few : l.n ≤ l.entry-index;
  counted : l.n + length (unskipped l.entry-items l.entry-index (length l.entry-items - l.entry-index)) ≡ length (unskipped l.entry-items 0 (length l.entry-items));
}
