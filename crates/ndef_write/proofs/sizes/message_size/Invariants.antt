-- The loop keeps: the rows are a list that can be written exactly if those left are, and the lengths so far and those left add up to the
-- message's.
use Rattle.ndef_write.proofs.Measuring.{Measured}
use Rattle.ndef_write.proofs.sizes.message_size.Given as goal

abbrev pub invariant-loop-row : goal.invariant-loop-row
invariant-loop-row l = Measured l.bytes l.rows l.total l.row-index
