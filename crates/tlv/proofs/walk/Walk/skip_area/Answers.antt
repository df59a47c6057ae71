use Rattle.std.proofs.Common.{◌≡◌, ◌+◌, max, min, arith, rules}
use Rattle.tlv.specs.Views.Areas.{area_as}
use Rattle.tlv.proofs.SkipTable.{area-skipped}
use Rattle.tlv.proofs.Steps.{declared-one}
use Rattle.tlv.proofs.walk.Walk.skip_area.Goals as goal

pub returns-clause-is : goal.returns-clause-is
returns-clause-is c =
    let a = c.args in
    let later : c.max-from.result.0 ≡ max a.area.start.0 a.self.at.0 = search rules in
    let earlier : c.min-to.result.0 ≡ min (a.area.start.0 + a.area.size) a.self.end.0 = search rules in
    area-skipped a.table.now c.skip.new.table (area_as a.area) a.self.at.0 a.self.end.0 c.max-from.result.0 c.min-to.result.0 c.skip.ensures later earlier c.requires.0.ordered

pub returns-clause-placed : goal.returns-clause-placed
returns-clause-placed c =
    let a = c.args in
    let later : c.max-from.result.0 ≡ max a.area.start.0 a.self.at.0 = search rules in
    let earlier : c.min-to.result.0 ≡ min (a.area.start.0 + a.area.size) a.self.end.0 = search rules in
    declared-one c.requires.0 c.requires.1 (record { from = c.max-from.result.0; to = c.min-to.result.0; late = omega arith; inside = omega arith; skips = c.skip.ensures }) (omega arith) (omega arith) (omega arith)
