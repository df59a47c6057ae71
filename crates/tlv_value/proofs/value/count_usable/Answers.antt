use Rattle.std.proofs.Common.{◌≡◌, ℕ, List, ◌+◌, ◌-◌, ap, length, take, drop, get_or, eqb, arith, rules}
use Rattle.tlv.specs.Views.Table.{unskipped}
use Rattle.tlv.proofs.Skipping.{one_at_most, unskipped-count, unskipped-end, count-part}
use Rattle.tlv_value.proofs.value.count_usable.Goals as goal

pub overflow_add-n : goal.overflow_add-n
overflow_add-n c =
    let a = c.args in
    let part : List ℕ = take (a.end.0 - a.at.0) (drop a.at.0 c.args.table.now) in
    let size : length part ≡ a.end.0 - a.at.0 = search rules in
    omega (arith, c.loop-entry.invariant.few, one_at_most (eqb (get_or part c.loop-entry.entry-index 0) 0), c.from-n.ensures)

pub loop-entry-preserved : goal.loop-entry-preserved
loop-entry-preserved c =
    let a = c.args in
    let part : List ℕ = take (a.end.0 - a.at.0) (drop a.at.0 c.args.table.now) in
    let l = c.loop-entry in
    let k : length part - l.entry-index - 1 ≡ length part - (l.entry-index + 1) = omega arith in
    record {
      few = omega (arith, l.invariant.few, one_at_most (eqb (get_or part l.entry-index 0) 0), c.from-n.ensures);
      counted = omega (arith, l.invariant.counted, c.from-n.ensures, unskipped-count part l.entry-index (length part - l.entry-index) (omega arith), ap (λ n. length (unskipped part (l.entry-index + 1) n)) k);
    }

pub returns-clause-is : goal.returns-clause-is
returns-clause-is c =
    let a = c.args in
    let part : List ℕ = take (a.end.0 - a.at.0) (drop a.at.0 c.args.table.now) in
    let l = c.loop-entry in
    let size : length part ≡ a.end.0 - a.at.0 = search rules in
    omega (arith, l.invariant.counted, ap length (unskipped-end part l.entry-index (length part - l.entry-index) (omega arith)), ap (λ n. length (unskipped part 0 n)) size, count-part c.args.table.now a.at.0 a.end.0, c.from.ensures)
