-- The loop keeps: the first `k` bytes are stored.
use Rattle.std.proofs.Common.{◌≡◌, take}
use lib.Seq.{sets}
use Rattle.tag.proofs.slices.store.Given as goal

abbrev pub invariant-loop-k : goal.invariant-loop-k
invariant-loop-k l = l.to ≡ sets l.initial.to l.at (take l.k l.from)
