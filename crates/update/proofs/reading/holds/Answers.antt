use Rattle.std.proofs.Common.{rules, ap, ◌∙◌}
use Rattle.tag.specs.Judge.{holds_as}
use Rattle.tag.specs.Answers.{read_as}
use Rattle.update.proofs.Held.{held-read}
use Rattle.update.proofs.reading.holds.Goals as goal

pub returns : goal.returns
returns g c =
    let a = c.args in
    let T = g.U.Update.tag_type a.update.now in
    let laws = g.met.U.Update.laws a.update.now in
    let fits = g.met.U.Update.fits a.update.now in
    let r = c.read-answer in
    let shown = c.shown-shown in
    (rw c.message.ensures at c.holds.ensures)
    ∙ ap (λ h. holds_as h (g.U.Update.message a.update.now))
    (held-read T laws fits a.work.now a.gathered.now r.new.gathered (read_as r.result) shown.result.now (search rules)
    r.ensures.0 r.ensures.1 shown.ensures)
