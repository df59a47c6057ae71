use Rattle.std.proofs.Common.{take_all, ◌≡◌, ◌*◌, length, sym, ap, rules, arith}
use Rattle.std.proofs.lemmas.Result.{err_from_is_err_and}
use Rattle.tag.specs.TagType.{output_into}
use Rattle.tag.proofs.Storing.{sets_more}
use Rattle.ndef.specs.Places.{numbers_of}
use Rattle.ndef.proofs.Tables.{reads-refused, answers-refused}
use Rattle.ndef.proofs.Placing.{headed-reads}
use Rattle.ndef.proofs.Filling.{none_filled, fits, one_filled, all_filled}
use Rattle.ndef.proofs.read.read.Goals as goal

pub returns-in_err-headers : goal.returns-in_err-headers
returns-in_err-headers c =
    let m = c.args.message.now in
    let p = err_from_is_err_and c.from_residual.result c.from_residual.ensures.1 in
    rw (p.1, p.2) (answers-refused m _ c.in_err-headers.ensures, sym (ap (output_into c.args.table.now) (reads-refused m _ c.in_err-headers.ensures)))

pub loop-k-init : goal.loop-k-init
loop-k-init c = none_filled _ _ _ (rw c.deref-header-items.ensures.0 c.in_ok-headers.ensures.all_taken)

pub place-requires : goal.place-requires
place-requires c = omega (arith, fits c.deref-header-items.result.now (length c.args.message.now) c.args.table.now c.loop-k.invariant c.loop-k-test.true)

pub overflow_add-at : goal.overflow_add-at
overflow_add-at c = omega (arith, fits c.deref-header-items.result.now (length c.args.message.now) c.args.table.now c.loop-k.invariant c.loop-k-test.true)

pub loop-i-preserved : goal.loop-i-preserved
unfolding numbers_of
loop-i-preserved c =
    let long : length c.into-numbers.result ≡ 7 = ap length c.into-numbers.ensures in
    rw c.loop-i.invariant (sets_more c.loop-k.table c.into-numbers.result (7 * c.loop-k.k) c.loop-i.i (omega arith))

pub loop-k-preserved : goal.loop-k-preserved
unfolding numbers_of
loop-k-preserved c =
    let numbers = c.into-numbers.result in
    let long : length numbers ≡ 7 = ap length c.into-numbers.ensures in
    let written = rw (take_all c.loop-i.i numbers (omega arith)) at c.loop-i.invariant in
    rw (written, c.into-numbers.ensures, c.place.ensures, c.record_len-at.ensures)
    (one_filled c.deref-header-items.result.now (length c.args.message.now) c.args.table.now c.loop-k.invariant c.loop-k-test.true)

pub returns : goal.returns
returns c =
    let reads = rw (← c.deref-header-items.ensures.0) at (headed-reads c.args.message.now c.headers.new.headers.items c.in_ok-headers.ensures) in
    let filled = all_filled c.deref-header-items.result.now (length c.args.message.now) c.args.table.now c.loop-k.invariant c.loop-k-test.false (search rules) in
    rw reads (rw (c.len.ensures.value, c.deref-header-items.ensures.0), filled)
