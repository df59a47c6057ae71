use Rattle.std.proofs.Common.{sym, ◌∙◌}
use Rattle.std.proofs.lemmas.Result.{err_from_is_err_and}
use Rattle.tag.proofs.Showing.{gathered_none}
use Rattle.type6.specs.Message.{reading}
use Rattle.type6.proofs.Reading.{answer-refused, answer-known}
use Rattle.type6.proofs.read.read.Goals as goal

pub returns-in_err-container : goal.returns-in_err-container
returns-in_err-container c =
    let i = c.args.image.now in
    let p = err_from_is_err_and c.from_residual.result c.from_residual.ensures.1 in
    rw (p.1, p.2) (sym (answer-refused i _ c.in_err-container.ensures), sym (gathered_none (reading i)))

pub returns : goal.returns
returns c =
    let i = c.args.image.now in
    (c.report.ensures ∙ answer-known i _ c.in_ok-container.ensures, sym (gathered_none (reading i)))
