use Rattle.std.proofs.Common.{sym, ap, ◌∙◌, length, arith, rules}
use Rattle.std.proofs.lemmas.Result.{err_from_is_err_and}
use Rattle.tag.specs.TagType.{output_into}
use Rattle.tag.specs.Answers.{count_of}
use Rattle.tlv_tag.proofs.Fitting.{blank_area}
use Rattle.type2_write.proofs.Preparing.{unread-output, refused-output, output}
use Rattle.type2_write.proofs.write.write.Goals as goal

pub prepare-requires : goal.prepare-requires
prepare-requires c =
    let p = c.in_ok-area.ensures in
    (blank_area 1024 (search rules) (omega arith) (omega (arith, p.ends)) (omega (arith, p.inside, p.short)) (omega (arith, p.inside)), search rules)

pub returns-in_err-area : goal.returns-in_err-area
returns-in_err-area c =
    let a = c.args in
    let e = unread-output a.image.now a.message.now _ (length a.list.now) c.in_err-area.ensures in
    let p = err_from_is_err_and c.from_residual.result c.from_residual.ensures.1 in
    rw (p.1, p.2) (sym (ap count_of e), sym (ap (output_into a.list.now) e))

pub returns-in_err-first : goal.returns-in_err-first
returns-in_err-first c =
    let a = c.args in
    let e = refused-output a.image.now a.message.now _ _ c.in_ok-area.ensures _ (length a.list.now) c.in_err-first.ensures.prepared in
    let p = err_from_is_err_and c.from_residual-in_err-first.result c.from_residual-in_err-first.ensures.1 in
    rw (p.1, p.2) (sym (ap count_of e), sym (ap (output_into a.list.now) e))

pub returns : goal.returns
returns c =
    let a = c.args in
    let l = c.put_update in
    let (us, there, p) = c.in_ok-first.ensures.prepared in
    let e = output a.image.now a.message.now _ _ c.in_ok-area.ensures _ _ us there p (length a.list.now) in
    (l.ensures.0 ∙ ap count_of e, l.ensures.1 ∙ ap (output_into a.list.now) e)
