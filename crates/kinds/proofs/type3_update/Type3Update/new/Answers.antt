use Rattle.std.proofs.Common.{sym}
use Rattle.std.proofs.lemmas.Result.{err_from_is_err_and}
use Rattle.type3.proofs.Deciding.{writing-unread, writing-refused, writing-planned}
use Rattle.kinds.proofs.type3_update.Type3Update.new.Goals as goal

pub returns-in_err-information : goal.returns-in_err-information
returns-in_err-information c =
    let a = c.args in
    let p = err_from_is_err_and c.from_residual.result c.from_residual.ensures.1 in
    rw (p.1, p.2) (writing-unread a.idm.now a.image.now a.message.now _ (sym c.in_err-information.ensures.is))

pub returns-in_err-check : goal.returns-in_err-check
returns-in_err-check c =
    let a = c.args in
    let p = err_from_is_err_and c.from_residual-in_err-check.result c.from_residual-in_err-check.ensures.1 in
    rw (p.1, p.2) (writing-refused a.idm.now a.image.now a.message.now _ c.in_ok-information.ensures.known _ (sym c.in_err-check.ensures))

pub invariant_of-result-clause-planned : goal.invariant_of-result-clause-planned
invariant_of-result-clause-planned c =
    let a = c.args in
    writing-planned a.idm.now a.image.now a.message.now _ c.in_ok-information.ensures.known (sym c.in_ok-check.ensures)
