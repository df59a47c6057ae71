use Rattle.std.proofs.Common.{refl, length, arith}
use Rattle.type3_list.specs.Views.Blocks.{blocks_bytes}
use Rattle.type3_list.proofs.Laying.{lay-command}
use Rattle.type3_list.proofs.WriteList.put_command.Goals as goal

pub returns : goal.returns
returns c =
    let a = c.args in
    let s = a.self.now in
    let bs = a.blocks.now in
    lay-command s.idm bs a.out.now c.put_opening.new.out c.put_block_list.new.out (length bs) s.eight refl (omega arith) c.put_opening.ensures c.put_block_list.ensures
    (blocks_bytes s.message.now bs) c.put_blocks.new.out c.put_blocks.ensures
