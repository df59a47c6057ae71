use Rattle.tag.proofs.Showing.{read_held}
use Rattle.update.proofs.Update.read_again.Goals as goal

pub returns : goal.returns
returns g c =
    let a = c.args in
    read_held (g.Self.Update.tag_type a.self.now).reading a.work.now a.gathered.now c.read.result c.read.new.gathered c.read.ensures
