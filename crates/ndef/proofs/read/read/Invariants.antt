-- The loop keeps: the places of the records before number `k` are at the front of the table, and `at` bytes are theirs.
use Rattle.std.proofs.Common.{◌≡◌, ◌*◌, length, take}
use lib.Seq.{sets}
use Rattle.ndef.proofs.Filling.{Filled}
use Rattle.ndef.proofs.read.read.Given as goal

abbrev pub invariant-loop-k : goal.invariant-loop-k
invariant-loop-k l = Filled l.header-items (length l.message) l.initial.table l.table l.k l.at

-- And the first `i` numbers of the place of record `k` behind them.
abbrev pub invariant-loop-i : goal.invariant-loop-i
invariant-loop-i l = l.table ≡ sets l.initial.table (7 * l.k) (take l.i l.number-items)
