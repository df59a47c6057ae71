use Rattle.std.proofs.Common.{rules}
use Rattle.tag.proofs.Same.{same_turn}
use Rattle.tag.proofs.kept.same.Goals as goal

pub loop-k-preserved : goal.loop-k-preserved
loop-k-preserved c =
    let l = c.loop-k in
    let a = c.args in
    same_turn a.a.now a.b.now l.k l.differ c.requires (search rules) l.invariant
