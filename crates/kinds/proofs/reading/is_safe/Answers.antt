use Rattle.std.proofs.Common.{rules, ap, ◌∙◌}
use Rattle.std.specs.Prelude.{option_copied}
use Rattle.tag.specs.Judge.{reads_as_one_of}
use Rattle.tag.specs.Views.Held.{held_before}
use Rattle.update.proofs.Held.{held-again}
use Rattle.kinds.specs.Views.Types.{type_of}
use Rattle.kinds.proofs.EachKind.{laws, fits}
use Rattle.kinds.proofs.reading.is_safe.Goals as goal

pub returns : goal.returns
returns c =
    let a = c.args in
    let idm = a.idm.now in
    let r = c.read_again-answer in
    let shown = c.shown-shown in
    c.is_safe.ensures
    ∙ ap (reads_as_one_of a.new.now (held_before (option_copied a.old)))
    (held-again (type_of a.kind idm) (laws a.kind idm (search rules)) (fits a.kind idm) a.image.now a.gathered.now r.new.gathered r.result shown.result.now c.requires r.ensures shown.ensures)
