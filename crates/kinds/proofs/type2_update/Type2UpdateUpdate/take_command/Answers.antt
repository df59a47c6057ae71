use Rattle.type2.proofs.Modelling.{applied}
use Rattle.kinds.proofs.type2_update.Type2UpdateUpdate.take_command.Goals as goal

pub returns : goal.returns
returns c =
    let a = c.args in
    let t = c.take_command in
    applied a.self.now.image.now a.work.now a.command.now c.requires t.result _ t.ensures.is t.ensures.stored
