use Rattle.std.proofs.Common.{arith}
use Rattle.tlv_tag.proofs.Keeping.{changed-more}
use Rattle.tlv_tag.proofs.kept.skipped_changed.Goals as goal

pub loop-k-preserved : goal.loop-k-preserved
loop-k-preserved c =
    let a = c.args in
    rw (c.loop-k.invariant) (changed-more a.image.now a.work.now a.table.now a.extent.first.0 c.loop-k.k (omega arith))
