use Rattle.type3.specs.Message.{reading}
use Rattle.type3.proofs.Holding.{plain}
use Rattle.kinds.proofs.Plain.{plain-read}
use Rattle.kinds.proofs.type3_update.Type3UpdateUpdate.read.Goals as goal

pub returns : goal.returns
returns c =
    let i = c.args.work.now in
    let r = c.read in
    plain-read reading i c.args._gathered.now r.result (plain i) r.ensures
