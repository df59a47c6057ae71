use Rattle.std.proofs.Common.{◌≡◌, ◌≤◌, ◌-◌, length-drop, take_all, ◌∙◌, rules, arith, length, drop}
use Rattle.std.proofs.lemmas.Result.{err_from_is_err_and}
use Rattle.ndef.specs.Views.Headers.{header_of}
use Rattle.ndef.proofs.Turns.{no-message, some-message}
use Rattle.ndef.proofs.Placing.{length-is}
use Rattle.ndef.proofs.Reaching.{reached-start, ended, overfull, faulty, turned}
use Rattle.ndef.proofs.read.headers.Goals as goal

pub returns-then-is_empty : goal.returns-then-is_empty
returns-then-is_empty c = no-message c.args.message.now (search rules)

pub loop-rest-init : goal.loop-rest-init
loop-rest-init c = rw c.clear.ensures (reached-start c.args.message.now)

pub returns-then-is_full : goal.returns-then-is_full
returns-then-is_full c = some-message c.args.message.now (search rules) ∙ overfull c.args.message.now c.loop-rest.invariant (search rules) (search rules)

pub returns-in_err-header : goal.returns-in_err-header
returns-in_err-header c =
    let m = c.args.message.now in
    let p = err_from_is_err_and c.from_residual.result c.from_residual.ensures.1 in
    let fault = rw c.is_empty-in-loop-rest-2.ensures at c.in_err-header.ensures.is in
    rw (p.1, p.2) (some-message m (search rules) ∙ faulty m c.loop-rest.invariant (search rules) (search rules) _ fault)

pub loop-rest-preserved : goal.loop-rest-preserved
loop-rest-preserved c =
    let s = c.loop-rest.rest.now in
    let is : c.in_ok-header.header ≡ header_of s = c.in_ok-header.ensures.is.0 in
    let fine = rw c.is_empty-in-loop-rest-2.ensures at c.in_ok-header.ensures.is.1 in
    let n = c.record_len.result in
    let tail : length (drop n s) ≤ length s - n = rw length-drop (omega arith) in
    rw (c.push.ensures.items, take_all (length s - n) (drop n s) tail, c.record_len.ensures, is, length-is s)
    (turned c.args.message.now c.loop-rest.invariant (search rules) (search rules) fine)

pub returns : goal.returns
returns c = ended c.args.message.now c.loop-rest.invariant (search rules) (search rules)
