use Rattle.std.proofs.Common.{Ok, ap, sym, ◌∙◌}
use Rattle.std.proofs.lemmas.Result.{err_from_is_err_and}
use Rattle.smart_poster.specs.Views.Findings.{found_of}
use Rattle.smart_poster.proofs.Answering.{refused-first, found-first}
use Rattle.smart_poster.proofs.first.first.Goals as goal

pub returns-in_err-expand-in-Some : goal.returns-in_err-expand-in-Some
returns-in_err-expand-in-Some c =
    let p = err_from_is_err_and c.from_residual-in_err-expand-in-Some.result c.from_residual-in_err-expand-in-Some.ensures.1 in
    let here = ap (λ o. found_of (Ok o)) (sym c.in-Some.is) ∙ c.in_ok-payload.ensures.is in
    rw (p.1, p.2) (refused-first c.args.buffer.now c.args.message.now c.in-Some.payload.now here _ _ c.in_err-expand-in-Some.ensures)

pub returns-in_ok-expand-in-Some : goal.returns-in_ok-expand-in-Some
returns-in_ok-expand-in-Some c =
    let here = ap (λ o. found_of (Ok o)) (sym c.in-Some.is) ∙ c.in_ok-payload.ensures.is in
    found-first c.args.buffer.now c.args.message.now c.in-Some.payload.now here _ _ c.in_ok-expand-in-Some.ensures
