use Rattle.std.proofs.Common.{length, arith}
use Rattle.type3_model.proofs.Storing.{listed-inside}
use Rattle.type3_model.proofs.model.take_command.Goals as goal

pub store_blocks-requires : goal.store_blocks-requires
store_blocks-requires c =
    let a = c.args in
    let l = c.in-Some.listed in
    listed-inside a.idm.now a.nbw a.nmaxb a.command.now l.elements.now l.blockdata.now (length a.image.now) c.in-Some.ensures
    (omega (arith, c.block.ensures, c.if-block-nmaxb.false))
