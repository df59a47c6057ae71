use Rattle.std.proofs.Common.{◌≡◌, ◌∷◌, ◌+◌, ◌-◌, sym, ap, ◌∙◌, get_or, eq-eqb, arith, rules}
use Rattle.tlv.specs.Walk.{take_byte}
use Rattle.tlv.specs.Views.Table.{unskipped}
use Rattle.tlv.proofs.Skipping.{unskipped-take, unskipped-end}
use Rattle.tlv.proofs.Steps.{moved_on}
use Rattle.tlv.proofs.walk.Walk.take_byte.Goals as goal

pub returns-then-eq-clause-is : goal.returns-then-eq-clause-is
returns-then-eq-clause-is c =
    let n = c.next_usable-place in
    let f = n.result.0 in
    let at_end : f ≡ c.args.self.end.0 = search rules in
    sym (ap (take_byte c.args.image.now) (n.ensures.left ∙ unskipped-end c.args.table.now f (c.args.self.end.0 - f) (omega arith)))

pub returns-clause-is : goal.returns-clause-is
returns-clause-is c =
    let a = c.args in
    let n = c.next_usable-place in
    let f = n.result.0 in
    let t = a.table.now in
    let e = a.self.end.0 in
    let apart : (f ≡ e → ⊥) = search rules in
    let k : e - f - 1 ≡ e - (f + 1) = omega arith in
    let u : unskipped t a.self.at.0 (e - a.self.at.0) ≡ f ∷ unskipped t (f + 1) (e - (f + 1))
    = n.ensures.left ∙ unskipped-take t f (e - f) (eq-eqb (get_or t f 0) 0 (n.ensures.free (omega arith))) (omega arith)
    ∙ ap (λ n. f ∷ unskipped t (f + 1) n) k in
    rw (c.moved_to.ensures.0, c.moved_to.ensures.1) (sym (ap (take_byte a.image.now) u))

pub returns-clause-moved : goal.returns-clause-moved
returns-clause-moved c =
    let f = c.next_usable-place.result.0 in
    let e = c.args.self.end.0 in
    let apart : (f ≡ e → ⊥) = search rules in
    let m = c.moved_to.ensures in
    (record { farther = omega (arith, m.0); ordered = omega (arith, m.0, m.1); same_end = m.1; same_areas = m.2 }, omega arith, omega (arith, m.0))

pub returns-clause-placed : goal.returns-clause-placed
returns-clause-placed c = λ inside. let m = returns-clause-moved c in (moved_on inside m.0, m.1, m.2)
