use Rattle.tag.proofs.Storing.{sets_more}
use Rattle.tag.proofs.slices.store.Goals as goal

pub loop-k-preserved : goal.loop-k-preserved
loop-k-preserved c = rw c.loop-k.invariant (sets_more c.args.to.now c.args.from.now c.args.at c.loop-k.k c.loop-k-test.true)
