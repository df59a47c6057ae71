-- The loop keeps: the headers are those of the records before `rest`.
use Rattle.std.proofs.Common.{length}
use Rattle.ndef.proofs.Reaching.{Reached}
use Rattle.ndef.proofs.read.headers.Given as goal

abbrev pub invariant-loop-rest : goal.invariant-loop-rest
invariant-loop-rest l = Reached l.message l.headers.items l.rest

abbrev pub decreases-loop-rest : goal.decreases-loop-rest
decreases-loop-rest l = length l.rest
