use Rattle.std.proofs.Common.{◌≡◌, arith, rules}
use Rattle.tlv.proofs.PassedValues.{passed-short, passed-past}
use Rattle.tlv.proofs.Steps.{stay, moved}
use Rattle.tlv.proofs.walk.Walk.pass_value.Goals as goal

pub returns-then-eq-clause-is : goal.returns-then-eq-clause-is
returns-then-eq-clause-is c =
    let at_end : c.nth-last.result.0 ≡ c.args.self.end.0 = search rules in
    passed-short c.args.table.now c.args.self c.args.n c.nth-last.result.0 c.requires.ordered (omega arith) c.nth-last.ensures.is at_end

pub returns-clause-is : goal.returns-clause-is
returns-clause-is c =
    let apart : (c.nth-last.result.0 ≡ c.args.self.end.0 → ⊥) = search rules in
    rw (c.moved_to.ensures.0, c.moved_to.ensures.1)
    (passed-past c.args.table.now c.args.self c.args.n c.nth-last.result.0 c.requires.ordered (omega arith) c.nth-last.ensures.is apart)

pub returns-then-n-eq0-clause-placed : goal.returns-then-n-eq0-clause-placed
returns-then-n-eq0-clause-placed c = stay c.requires

pub returns-clause-placed : goal.returns-clause-placed
returns-clause-placed c =
    let apart : (c.nth-last.result.0 ≡ c.args.self.end.0 → ⊥) = search rules in
    moved c.requires (omega (arith, c.moved_to.ensures.0, c.nth-last.ensures.within)) (omega (arith, c.moved_to.ensures.0, c.moved_to.ensures.1)) c.moved_to.ensures.1 c.moved_to.ensures.2
