use Rattle.type6.specs.Message.{reading}
use Rattle.type6.proofs.Holding.{plain}
use Rattle.kinds.proofs.Plain.{plain-read}
use Rattle.kinds.proofs.type6_update.Type6UpdateUpdate.read.Goals as goal

pub returns : goal.returns
returns c =
    let i = c.args.work.now in
    let r = c.read in
    plain-read reading i c.args._gathered.now r.result (plain i) r.ensures
