use Rattle.std.proofs.Common.{arith, rules}
use Rattle.tlv.proofs.Usable.{At}
use Rattle.tlv.proofs.PassedValues.{fewer-ahead}
use Rattle.tlv_value.proofs.Measured.{measured-short, measured-spread, measured-at}
use Rattle.tlv_value.proofs.value.measure.Goals as goal

pub returns-then-eq-clause-is : goal.returns-then-eq-clause-is
returns-then-eq-clause-is c =
    measured-short c.args.table.now c.args.walk c.args.n c.nth-last.result.0 c.requires.1.ordered c.requires.0 c.nth-last.ensures.is (search rules)

pub returns-then-eq-clause-room : goal.returns-then-eq-clause-room
returns-then-eq-clause-room c =
    fewer-ahead c.args.table.now c.args.walk c.args.n c.nth-last.result.0 c.requires.1.ordered c.requires.0 c.nth-last.ensures.is (search rules)

pub overflow_add-result : goal.overflow_add-result
overflow_add-result c =
    let a = c.args in
    let z = c.nth-last in
    let f = c.next_usable-address in
    let p : At a.table.now f.result.0 a.walk.end.0 = record { within = omega arith; free = f.ensures.free } in
    omega (arith, measured-spread a.table.now a.walk a.n z.result.0 c.requires.1.ordered c.requires.0 z.ensures.is f.result.0 (search rules) p f.ensures.left)

pub returns-clause-is : goal.returns-clause-is
returns-clause-is c =
    let a = c.args in
    let z = c.nth-last in
    let f = c.next_usable-address in
    let p : At a.table.now f.result.0 a.walk.end.0 = record { within = omega arith; free = f.ensures.free } in
    measured-at a.table.now a.walk a.n z.result.0 c.requires.1.ordered c.requires.0 z.ensures.is f.result.0 (search rules) p f.ensures.left
