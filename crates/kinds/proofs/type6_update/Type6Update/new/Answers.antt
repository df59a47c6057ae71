use Rattle.std.proofs.Common.{sym}
use Rattle.std.proofs.lemmas.Result.{err_from_is_err_and}
use Rattle.type6.proofs.Deciding.{writing-unread, writing-refused, writing-planned}
use Rattle.kinds.proofs.type6_update.Type6Update.new.Goals as goal

pub returns-in_err-container : goal.returns-in_err-container
returns-in_err-container c =
    let p = err_from_is_err_and c.from_residual.result c.from_residual.ensures.1 in
    rw (p.1, p.2) (writing-unread c.args.image.now c.args.message.now _ c.in_err-container.ensures)

pub returns-in_err-check : goal.returns-in_err-check
returns-in_err-check c =
    let p = err_from_is_err_and c.from_residual-in_err-check.result c.from_residual-in_err-check.ensures.1 in
    rw (p.1, p.2) (writing-refused c.args.image.now c.args.message.now _ c.in_ok-container.ensures _ (sym c.in_err-check.ensures))

pub invariant_of-result-clause-planned : goal.invariant_of-result-clause-planned
invariant_of-result-clause-planned c =
    writing-planned c.args.image.now c.args.message.now _ c.in_ok-container.ensures (sym c.in_ok-check.ensures)
