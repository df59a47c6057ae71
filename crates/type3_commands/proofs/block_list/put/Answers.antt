use Rattle.std.proofs.Common.{◌∙◌, arith}
use Rattle.type3_commands.proofs.BlockLists.{block-list-put}
use Rattle.type3_commands.proofs.block_list.put.Goals as goal

pub loop-i-preserved : goal.loop-i-preserved
loop-i-preserved c =
    let l = c.loop-i in
    block-list-put l.list c.args.blocks.now _ l.i _ l.invariant c.loop-i-test.true (omega (arith, l.auto.list, c.requires.0))
    (c.copy_from_slice.ensures.after ∙ c.element.ensures)
