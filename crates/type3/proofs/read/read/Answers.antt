use Rattle.std.proofs.Common.{sym, ◌∙◌, rules}
use Rattle.tag.proofs.Showing.{gathered_none}
use Rattle.type3.specs.Message.{reading}
use Rattle.type3.proofs.Reading.{answer-refused, answer-known}
use Rattle.type3.proofs.read.read.Goals as goal

pub returns-in_err-information : goal.returns-in_err-information
returns-in_err-information c =
    let i = c.args.image.now in
    (search rules ∙ sym (answer-refused i _ (sym c.in_err-information.ensures.is)), sym (gathered_none (reading i)))

pub returns : goal.returns
returns c =
    let i = c.args.image.now in
    (c.report.ensures ∙ answer-known i c.in_ok-information.information c.in_ok-information.ensures.known, sym (gathered_none (reading i)))
