use Rattle.type2.proofs.Reading.{reading_held}
use Rattle.type2.proofs.read.read_held.Goals as goal

pub returns : goal.returns
returns c = let h = c.in_ok-located.ensures in rw (reading_held c.args.image.now h.is, ← h.here.1) c.report.ensures
