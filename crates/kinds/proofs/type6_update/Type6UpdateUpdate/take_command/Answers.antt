use Rattle.type6.proofs.Modelling.{applied}
use Rattle.kinds.proofs.type6_update.Type6UpdateUpdate.take_command.Goals as goal

pub returns : goal.returns
returns c =
    let a = c.args in
    let t = c.take_command in
    let s = a.self.now.readable.known.says in
    applied _ _ a.command.now a.self.now.image.now a.work.now s.size_is s.blocks_are t.result _ t.ensures.is t.ensures.stored
