use Rattle.std.proofs.Common.{◌≡◌, ◌-◌, ◌∙◌, eqb, length, take, drop, rules, arith, ap}
use Rattle.tlv.specs.Views.Table.{none_skipped}
use Rattle.tlv.proofs.Skipping.{none-next, none_end, none-part}
use Rattle.tlv.proofs.table.none_skipped.Goals as goal

pub loop-entry-preserved : goal.loop-entry-preserved
loop-entry-preserved c =
    let l = c.loop-entry in
    let part = take (c.args.end.0 - c.args.at.0) (drop c.args.at.0 c.args.table.now) in
    none-next part l.entry-index (length part) l.any c.loop-entry-test.true ∙ l.invariant

pub returns : goal.returns
returns c =
    let l = c.loop-entry in
    let a = c.args in
    let part = take (a.end.0 - a.at.0) (drop a.at.0 c.args.table.now) in
    let size : length part ≡ a.end.0 - a.at.0 = search rules in
    none_end part l.entry-index (length part - l.entry-index) (eqb l.any 0) (omega arith)
    ∙ l.invariant ∙ ap (none_skipped part 0) size ∙ none-part c.args.table.now a.at.0 a.end.0
