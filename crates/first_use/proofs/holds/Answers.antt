-- `holds`: what reading tells of the tag is what the tag holds.
use Rattle.std.proofs.Common.{refl, ap, ◌∙◌}
use Rattle.tag.specs.Judge.{holds_as}
use Rattle.tag.specs.Answers.{read_as}
use Rattle.type2.proofs.Holding.{held-read}
use Rattle.first_use.proofs.holds.Goals as goal

pub returns : goal.returns
returns c =
    let a = c.args in
    let r = c.read-answer in
    c.holds.ensures
    ∙ ap (λ h. holds_as h a.message.now)
    (held-read a.image.now _ r.new.gathered (read_as r.result) c.shown-shown.result.now refl r.ensures.0 r.ensures.1
    c.shown-shown.ensures)
