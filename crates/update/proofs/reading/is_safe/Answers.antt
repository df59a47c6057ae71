use Rattle.std.proofs.Common.{rules, ap, ◌∙◌}
use Rattle.std.specs.Prelude.{option_copied}
use Rattle.tag.specs.Judge.{reads_as_one_of}
use Rattle.tag.specs.Views.Held.{held_before}
use Rattle.update.proofs.Held.{held-again}
use Rattle.update.proofs.reading.is_safe.Goals as goal

pub returns : goal.returns
returns g c =
    let a = c.args in
    let T = g.U.Update.tag_type a.update.now in
    let laws = g.met.U.Update.laws a.update.now in
    let fits = g.met.U.Update.fits a.update.now in
    let r = c.read_again-answer in
    let shown = c.shown-shown in
    (rw c.message.ensures at c.is_safe.ensures)
    ∙ ap (reads_as_one_of (g.U.Update.message a.update.now) (held_before (option_copied a.old)))
    (held-again T laws fits a.work.now a.gathered.now r.new.gathered r.result shown.result.now (search rules) r.ensures shown.ensures)
