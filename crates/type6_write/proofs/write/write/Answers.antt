use Rattle.std.proofs.Common.{sym, ap, ◌∙◌, length}
use Rattle.std.proofs.lemmas.Result.{err_from_is_err_and}
use Rattle.tag.specs.TagType.{output_into}
use Rattle.tag.specs.Answers.{count_of}
use Rattle.type6_write.proofs.Preparing.{unread-output, refused-output, large, inside, listed, output}
use Rattle.type6_write.proofs.write.write.Goals as goal

pub returns-in_err-container : goal.returns-in_err-container
returns-in_err-container c =
    let a = c.args in
    let e = unread-output a.image.now a.message.now _ (length a.list.now) c.in_err-container.ensures in
    let p = err_from_is_err_and c.from_residual.result c.from_residual.ensures.1 in
    rw (p.1, p.2) (sym (ap count_of e), sym (ap (output_into a.list.now) e))

pub returns-in_err-check : goal.returns-in_err-check
returns-in_err-check c =
    let a = c.args in
    let e = refused-output a.image.now a.message.now _ (length a.list.now) _ c.in_ok-container.ensures (sym c.in_err-check.ensures) in
    let p = err_from_is_err_and c.from_residual-in_err-check.result c.from_residual-in_err-check.ensures.1 in
    rw (p.1, p.2) (sym (ap count_of e), sym (ap (output_into a.list.now) e))

pub invariant_of-blocks : goal.invariant_of-blocks
invariant_of-blocks c =
    let i = c.args.image.now in
    let m = c.args.message.now in
    let known = c.in_ok-container.ensures in
    let fits = sym c.in_ok-check.ensures in
    record {
      listed = listed i m _ known fits _ c.lay.ensures;
      large = large i m _ known fits;
      inside = inside i m _ known fits;
    }

pub returns : goal.returns
returns c =
    let a = c.args in
    let l = c.put_update in
    let e = output a.image.now a.message.now _ c.in_ok-container.ensures (sym c.in_ok-check.ensures) _ c.lay.ensures (length a.list.now) in
    (l.ensures.0 ∙ ap count_of e, l.ensures.1 ∙ ap (output_into a.list.now) e)
