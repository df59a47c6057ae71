use Rattle.std.proofs.Common.{rules, ap, ◌∙◌}
use Rattle.tag.specs.Judge.{holds_as}
use Rattle.tag.specs.Answers.{read_as}
use Rattle.update.proofs.Held.{held-read}
use Rattle.kinds.specs.Views.Types.{type_of}
use Rattle.kinds.proofs.EachKind.{laws, fits}
use Rattle.kinds.proofs.reading.holds.Goals as goal

pub returns : goal.returns
returns c =
    let a = c.args in
    let idm = a.idm.now in
    let r = c.read-answer in
    let shown = c.shown-shown in
    c.holds.ensures
    ∙ ap (λ h. holds_as h a.message.now)
    (held-read (type_of a.kind idm) (laws a.kind idm (search rules)) (fits a.kind idm) a.image.now a.gathered.now r.new.gathered (read_as r.result) shown.result.now c.requires
    r.ensures.0 r.ensures.1 shown.ensures)
