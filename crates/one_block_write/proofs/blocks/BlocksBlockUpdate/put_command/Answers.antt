use Rattle.std.proofs.Common.{arith}
use Rattle.one_block_write.proofs.Laying.{command-whole}
use Rattle.one_block_write.proofs.blocks.BlocksBlockUpdate.put_command.Goals as goal

pub returns : goal.returns
returns c =
    let a = c.args in
    cc (
      c.copy_from_slice-2.ensures.after,
      c.copy_from_slice-3.ensures.after,
      command-whole a.self.now.front.now a.command.now a.held.now a.block.0 (omega (arith, c.requires.1, c.requires.2)),
    )
