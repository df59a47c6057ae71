use Rattle.std.proofs.Common.{◌≡◌, ◌∙◌, ap, sym, length, arith, rules, Some, None}
use Rattle.ndef_write.specs.Views.Sizes.{size_for}
use Rattle.ndef_write.proofs.Measuring.{place-at, bad-place, good-place, all-measured, no_record, too_many}
use Rattle.ndef_write.proofs.sizes.message_size.Goals as goal
use Rattle.ndef_write.proofs.sizes.message_size.Goals.{then-is_empty-via-then-is_empty, then-is_empty-via-else-is_empty+then-rows-gt-MOST}

pub returns-then-is_empty : goal.returns-then-is_empty
returns-then-is_empty c =
    elim c.then-is_empty.branch [
      | then-is_empty-via-then-is_empty w ↦ no_record c.args.bytes.now c.args.rows.now (search rules)
      | then-is_empty-via-else-is_empty+then-rows-gt-MOST w ↦ too_many c.args.bytes.now c.args.rows.now (omega arith)
    ]

pub returns-in_err-total : goal.returns-in_err-total
returns-in_err-total c =
    let none : size_for (length c.args.bytes.now) (place-at c.args.bytes.now c.args.rows.now c.loop-row.row-index) ≡ None =
    ap (size_for (length c.args.bytes.now)) (sym c.from.ensures) ∙ sym c.record_size.ensures.is ∙ c.in_err-total.was in
    rw c.from_residual.ensures (bad-place c.args.bytes.now c.args.rows.now (search rules) (search rules) c.loop-row.invariant c.loop-row-test.true none)

pub loop-row-preserved : goal.loop-row-preserved
loop-row-preserved c =
    let some : size_for (length c.args.bytes.now) (place-at c.args.bytes.now c.args.rows.now c.loop-row.row-index) ≡ Some c.in_ok-total.field-0 =
    ap (size_for (length c.args.bytes.now)) (sym c.from.ensures) ∙ sym c.record_size.ensures.is ∙ c.in_ok-total.was in
    good-place c.args.bytes.now c.args.rows.now (search rules) (search rules) c.loop-row.invariant c.loop-row-test.true c.in_ok-total.field-0 some c.in_ok-total.ensures.small

pub returns : goal.returns
returns c = all-measured c.args.bytes.now c.args.rows.now (search rules) (search rules) c.loop-row.invariant c.loop-row-test.false
