use Rattle.type3.specs.Message as three
use Rattle.type3.proofs.Holding as three-held
use Rattle.type6.specs.Message as six
use Rattle.type6.proofs.Holding as six-held
use Rattle.kinds.proofs.Plain.{plain-read}
use Rattle.kinds.proofs.reading.read.Goals as goal

pub returns-in-Type3 : goal.returns-in-Type3
returns-in-Type3 c =
    let i = c.args.image.now in
    let r = c.read-in-Type3 in
    rw c.in-Type3.is (plain-read three.reading i c.args.gathered.now r.result (three-held.plain i) r.ensures)

pub returns-in-Type6 : goal.returns-in-Type6
returns-in-Type6 c =
    let i = c.args.image.now in
    let r = c.read-in-Type6 in
    rw c.in-Type6.is (plain-read six.reading i c.args.gathered.now r.result (six-held.plain i) r.ensures)
