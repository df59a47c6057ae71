use Rattle.tag.proofs.Showing.{read_held}
use Rattle.type3.specs.Message as three
use Rattle.type3.proofs.Holding as three-held
use Rattle.type6.specs.Message as six
use Rattle.type6.proofs.Holding as six-held
use Rattle.kinds.proofs.Plain.{plain-read}
use Rattle.kinds.proofs.reading.read_again.Goals as goal

pub returns-in-Type3 : goal.returns-in-Type3
returns-in-Type3 c =
    let i = c.args.image.now in
    let g = c.args.gathered.now in
    let r = c.read.result in
    rw c.in-Type3.is (read_held three.reading i g r g (plain-read three.reading i g r (three-held.plain i) c.read.ensures))

pub returns-in-Type6 : goal.returns-in-Type6
returns-in-Type6 c =
    let i = c.args.image.now in
    let g = c.args.gathered.now in
    let r = c.read-in-Type6.result in
    rw c.in-Type6.is (read_held six.reading i g r g (plain-read six.reading i g r (six-held.plain i) c.read-in-Type6.ensures))
