-- Each answer binds its own names: its facts `c` are of a type of their own, and a lemma would take each of them as an argument.
use Rattle.std.proofs.Common.{◌≤◌, sym, ap, ◌∙◌, length, arith, rules}
use Rattle.std.specs.Int.{div_ceil}
use Rattle.tag.specs.TagType.{output_into}
use Rattle.tag.specs.Answers.{gives, count_of}
use Rattle.type3.proofs.Deciding.{writing-unread, writing-refused}
use Rattle.type3_list.specs.Views.Listing.{list_length}
use Rattle.type3_write.proofs.Writing.{write-refused, planned, chosen, write-short, write-list, write-laid}
use Rattle.type3_write.proofs.write.write.Goals as goal

pub returns-in_err-information : goal.returns-in_err-information
returns-in_err-information c =
    let a = c.args in
    let e = write-refused a.idm.now a.image.now a.message.now (length a.list.now) _ (writing-unread a.idm.now a.image.now a.message.now _ (sym c.in_err-information.ensures.is)) in
    (search rules ∙ sym (ap count_of e), sym (ap (output_into a.list.now) e))

pub returns-in_err-check : goal.returns-in_err-check
returns-in_err-check c =
    let a = c.args in
    let i = a.image.now in
    let m = a.message.now in
    let information = c.in_ok-information in
    let e = write-refused a.idm.now i m (length a.list.now) _ (writing-refused a.idm.now i m information.information information.ensures.known _ (sym c.in_err-check.ensures)) in
    (search rules ∙ sym (ap count_of e), sym (ap (output_into a.list.now) e))

pub invariant_of-planned : goal.invariant_of-planned
invariant_of-planned c =
    let a = c.args in
    let i = a.image.now in
    let m = a.message.now in
    let information = c.in_ok-information in
    let bs = c.as_slice.result.now in
    let w = c.min-width.result in
    let t = c.div_ceil-turns.result in
    let which = c.as_slice.ensures.value ∙ c.collect.ensures in
    let turns = c.div_ceil-turns.ensures ∙ ap (λ n. div_ceil n w) (c.len.ensures.value ∙ ap length (sym c.as_slice.ensures.value)) in
    let g = planned a.idm.now i m bs information.information w t (search rules) information.ensures.known (sym c.in_ok-check.ensures) which c.min-width.ensures turns
    (omega (arith, c.type_inv.image 12)) (omega (arith, c.type_inv.image 13)) in
    let known = information.ensures.known.known in
    record {
      eight = g.eight;
      block = known.whole.least;
      small = omega (arith, known.ln_fits, known.reach, known.whole.most);
      chosen = chosen a.idm.now i m information.information.ln information.information.busy w t bs g;
      dealt = g.dealt;
    }

pub returns-then-list-length : goal.returns-then-list-length
returns-then-list-length c =
    let a = c.args in
    let i = a.image.now in
    let m = a.message.now in
    let information = c.in_ok-information in
    let bs = c.as_slice.result.now in
    let w = c.min-width.result in
    let t = c.div_ceil-turns.result in
    let which = c.as_slice.ensures.value ∙ c.collect.ensures in
    let turns = c.div_ceil-turns.ensures ∙ ap (λ n. div_ceil n w) (c.len.ensures.value ∙ ap length (sym c.as_slice.ensures.value)) in
    let g = planned a.idm.now i m bs information.information w t (search rules) information.ensures.known (sym c.in_ok-check.ensures) which c.min-width.ensures turns
    (omega (arith, c.type_inv.image 12)) (omega (arith, c.type_inv.image 13)) in
    let e = write-short a.idm.now i m information.information.ln information.information.busy w t bs g (length a.list.now) (omega (arith, c.length.ensures, c.if-list-length.true)) in
    (sym (ap count_of e), sym (ap (output_into a.list.now) e))

pub returns : goal.returns
returns c =
    let a = c.args in
    let i = a.image.now in
    let m = a.message.now in
    let list = a.list.now in
    let information = c.in_ok-information in
    let bs = c.as_slice.result.now in
    let w = c.min-width.result in
    let t = c.div_ceil-turns.result in
    let which = c.as_slice.ensures.value ∙ c.collect.ensures in
    let turns = c.div_ceil-turns.ensures ∙ ap (λ n. div_ceil n w) (c.len.ensures.value ∙ ap length (sym c.as_slice.ensures.value)) in
    let g = planned a.idm.now i m bs information.information w t (search rules) information.ensures.known (sym c.in_ok-check.ensures) which c.min-width.ensures turns
    (omega (arith, c.type_inv.image 12)) (omega (arith, c.type_inv.image 13)) in
    let room : list_length information.information.busy t (length bs) ≤ length list = omega (arith, c.length.ensures, c.if-list-length.false) in (
      ap gives c.count.ensures ∙ sym (ap count_of (write-list a.idm.now i m information.information.ln information.information.busy w t bs g (length list) room)),
      write-laid a.idm.now i m information.information.ln information.information.busy w t bs g list _ room c.put_list.ensures,
    )
