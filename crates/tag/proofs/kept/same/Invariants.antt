-- The loop keeps: the flag says whether the first k bytes differ.
use Rattle.std.proofs.Common.{◌≡◌, take, not}
use Rattle.tag.specs.Bytes.{same}
use Rattle.tag.proofs.kept.same.Given as goal

abbrev pub invariant-loop-k : goal.invariant-loop-k
invariant-loop-k l = l.differ ≡ not (same (take l.k l.a) (take l.k l.b))
