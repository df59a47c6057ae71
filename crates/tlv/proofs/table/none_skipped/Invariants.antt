-- The loop keeps: nothing from the start on is skipped exactly if `any` is 0 and nothing from the entry reached on is skipped.
use Rattle.std.proofs.Common.{◌-◌, ◌≡◌, ◌&&◌, length, eqb}
use Rattle.tlv.specs.Views.Table.{none_skipped}
use Rattle.tlv.proofs.table.none_skipped.Given as goal

abbrev pub invariant-loop-entry : goal.invariant-loop-entry
invariant-loop-entry l = eqb l.any 0 && none_skipped l.entry-items l.entry-index (length l.entry-items - l.entry-index) ≡ none_skipped l.entry-items 0 (length l.entry-items)
