use Rattle.std.proofs.lemmas.Result.{err_from_is_err_and}
use Rattle.std.proofs.Common.{◌≡◌, ◌%◌, Err, ap, ◌∙◌, length, arith}
use Rattle.ndef_write.proofs.Answering.{answers-ragged, answers-unwritable, answers-short, answers-message}
use Rattle.ndef_write.proofs.write.write.Goals as goal

pub returns-in_default : goal.returns-in_default
returns-in_default c = answers-ragged c.args.table.now c.args.bytes.now c.args.message.now (λ e. omega (arith, c.as_chunks.ensures.back_len))

pub returns-in_err-size : goal.returns-in_err-size
returns-in_err-size c =
    let sevens : length c.args.table.now % 7 ≡ 0 = omega (arith, c.as_chunks.ensures.back_len) in
    let p = err_from_is_err_and c.from_residual.result c.from_residual.ensures.1 in
    let refused = rw c.in_err-size.ensures.ok_part at c.in_err-size.ensures.value in
    rw (p.1 ∙ ap Err p.2 ∙ refused)
    (answers-unwritable c.args.table.now c.args.bytes.now c.args.message.now sevens (rw c.as_chunks.ensures.front at rw c.in_err-size.ensures.ok_part at c.message_size.ensures))

pub returns-then-message-size : goal.returns-then-message-size
returns-then-message-size c =
    let sevens : length c.args.table.now % 7 ≡ 0 = omega (arith, c.as_chunks.ensures.back_len) in
    answers-short c.args.table.now c.args.bytes.now c.args.message.now sevens c.in_ok-size.size (rw c.as_chunks.ensures.front at rw c.in_ok-size.ensures.ok_part at c.message_size.ensures) c.if-message-size.true

pub returns : goal.returns
returns c =
    let sevens : length c.args.table.now % 7 ≡ 0 = omega (arith, c.as_chunks.ensures.back_len) in
    answers-message c.args.table.now c.args.bytes.now c.args.message.now sevens c.in_ok-size.size (rw c.as_chunks.ensures.front at rw c.in_ok-size.ensures.ok_part at c.message_size.ensures) c.if-message-size.false _
    (rw c.as_chunks.ensures.front at c.put_records.ensures)
