-- The loop keeps: the records of the first `k` rows are laid, up to `at`.
use Rattle.ndef_write.proofs.Behind.{Laid}
use Rattle.ndef_write.proofs.laying.put_records.Given as goal

abbrev pub invariant-loop-k : goal.invariant-loop-k
invariant-loop-k l = Laid l.bytes l.rows l.initial.out l.out l.k l.at
