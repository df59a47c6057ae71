use Rattle.std.proofs.Common.{arith, ap, ◌∙◌, length}
use Rattle.tag.specs.Plan.{between_by}
use Rattle.one_block_write.proofs.Picking.{picked-taken, picked-left}
use Rattle.one_block_write.proofs.between.blocks_to_write.Goals.{then-is_between, else-is_between}
use Rattle.one_block_write.proofs.between.blocks_to_write.Goals as goal

pub loop-b-preserved : goal.loop-b-preserved
loop-b-preserved g c =
    let u = g.U.BlockUpdate in
    let x = c.args.update.now in
    let t = between_by (u.size x) (u.guard x) (u.image x) (u.new_image x) in
    let before = c.loop-b.invariant in
    elim c.if-is_between.branch [
      | then-is_between w ↦ (
        ap (λ v. v.items) w.blocks-is ∙ w.push.ensures.items ∙ picked-taken t c.loop-b.b _ before.0 w.if-is_between.ensures,
        omega (arith, ap (λ v. length v.items) w.blocks-is, w.push.ensures.len, before.1),
      )
      | else-is_between w ↦ (
        ap (λ v. v.items) w.blocks-is ∙ picked-left t c.loop-b.b _ before.0 w.if-is_between.ensures,
        omega (arith, ap (λ v. length v.items) w.blocks-is, before.1),
      )
    ]
