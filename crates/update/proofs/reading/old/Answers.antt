use Rattle.std.proofs.Common.{rules, ◌≡◌, refl, ap, ◌∙◌}
use Rattle.std.specs.Prelude.{Bool, true, false, cond, option_copied}
use Rattle.std.specs.Bool.{then_some}
use Rattle.tag.specs.Reading.{nothing, holds}
use Rattle.tag.specs.Answers.{read_as}
use Rattle.tag.specs.TagType.{held}
use Rattle.tag.specs.Views.Held.{held_before}
use Rattle.tag.proofs.Laws.{ready-reads}
use Rattle.tag.proofs.Showing.{old_is}
use Rattle.update.proofs.Held.{held-read}
use Rattle.update.proofs.reading.old.Goals as goal

pub returns : goal.returns
returns g c =
    let u = c.args.update.now in
    let T = g.U.Update.tag_type u in
    let i = c.image-image.result.now in
    let r = c.read-answer in
    let shown = c.shown-shown in
    let option : (b : Bool) → held_before (option_copied (then_some b shown.result)) ≡ cond b (holds shown.result.now) nothing = elim [ true ↦ refl | false ↦ refl ] in
    let reads = ready-reads T (g.U.Update.image u) (g.U.Update.message u) (g.met.U.Update.ready u) in
    let h = held-read T (g.met.U.Update.laws u) (g.met.U.Update.fits u) i c.args.gathered.now r.new.gathered (read_as r.result) shown.result.now (search rules) r.ensures.0 r.ensures.1 shown.ensures ∙ ap (held T) c.image-image.ensures in
    ap (λ o. held_before (option_copied o)) c.then_some.ensures
    ∙ option c.is_message.result
    ∙ old_is (read_as r.result) c.is_message.result shown.result.now _ c.is_message.ensures h reads
