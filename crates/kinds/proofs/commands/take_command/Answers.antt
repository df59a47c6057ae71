use Rattle.type2.proofs.Modelling as two
use Rattle.type6.proofs.Modelling as six
use Rattle.kinds.proofs.commands.take_command.Goals as goal

pub returns-in-Type2 : goal.returns-in-Type2
returns-in-Type2 c =
    let a = c.args in
    let t = c.take_command in
    rw c.in-Type2.is (two.applied a.image.now a.work.now a.command.now c.requires.1 t.result _ t.ensures.is t.ensures.stored)

pub returns-in-Type6 : goal.returns-in-Type6
returns-in-Type6 c =
    let a = c.args in
    let t = c.take_command-in-Type6 in
    let k = rw c.in-Type6.is at c.requires.0 in
    rw c.in-Type6.is (six.applied _ _ a.command.now a.image.now a.work.now k.size_is k.blocks_are t.result _ t.ensures.is t.ensures.stored)
