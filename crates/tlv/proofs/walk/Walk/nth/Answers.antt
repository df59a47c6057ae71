use Rattle.std.proofs.Common.{◌≡◌, true, [], ◌∷◌, suc, ◌+◌, ◌-◌, ◌≤◌, sym, ap, ◌∙◌, length, get_or, arith, rules}
use lib.ListN.{get_or-eq_default}
use Rattle.tlv.specs.Views.Table.{none_skipped}
use Rattle.tlv.specs.Views.Walks.{ahead}
use Rattle.tlv.proofs.Skipping.{unskipped-few, unskipped-nth}
use Rattle.tlv.proofs.Usable.{from, from_next, from_end, from_here}
use Rattle.tlv.proofs.Turns.{get_or-next}
use Rattle.tlv.proofs.walk.Walk.nth.Goals as goal

pub returns-then-self-k-clause-is : goal.returns-then-self-k-clause-is
returns-then-self-k-clause-is c =
    let a = c.args in
    let few : length (ahead a.table.now a.self) ≤ a.self.end.0 - a.self.at.0 = unskipped-few a.table.now a.self.at.0 (a.self.end.0 - a.self.at.0) in
    sym (get_or-eq_default (ahead a.table.now a.self) a.self.end.0 (omega (arith, few)))

-- nothing is skipped on the way
pub returns-then-is_free-clause-is : goal.returns-then-is_free-clause-is
returns-then-is_free-clause-is c =
    let a = c.args in
    let t = a.table.now in
    let w = a.self in
    let s : a.k + 1 ≡ suc a.k = omega arith in
    let free : none_skipped t w.at.0 (suc a.k) ≡ true
    = ap (none_skipped t w.at.0) (sym s) ∙ sym c.is_free.ensures ∙ c.if-is_free.true in
    sym (unskipped-nth t w.at.0 a.k (w.end.0 - w.at.0) w.end.0 (omega arith) free)

pub returns-then-eq-clause-is : goal.returns-then-eq-clause-is
returns-then-eq-clause-is c =
    let a = c.args in
    let t = a.table.now in
    let e = a.self.end.0 in
    let l = c.loop in
    let at_end : l.at.0 ≡ e = search rules in
    let u : from t l.at.0 e ≡ [] = from_end t l.at.0 e (omega arith) in
    at_end ∙ sym (ap (λ us. get_or us (a.k - l.counter) e) u) ∙ l.invariant.same ∙ ap (λ us. get_or us a.k e) (sym c.next_usable-at.ensures.left)

pub overflow_add-at : goal.overflow_add-at
overflow_add-at c = let apart : (c.loop.at.0 ≡ c.args.self.end.0 → ⊥) = search rules in omega (arith, c.loop.invariant.here.within)

pub next_usable-at-requires-in-loop : goal.next_usable-at-requires-in-loop
next_usable-at-requires-in-loop c =
    let apart : (c.loop.at.0 ≡ c.args.self.end.0 → ⊥) = search rules in
    (omega (arith, c.loop.invariant.here.within), c.requires.in_table, (_, (_, c.requires.declared)))

pub loop-preserved : goal.loop-preserved
loop-preserved c =
    let a = c.args in
    let t = a.table.now in
    let e = a.self.end.0 in
    let l = c.loop in
    let n = c.next_usable-at-in-loop in
    let f = n.result.0 in
    let apart : (l.at.0 ≡ e → ⊥) = search rules in
    let u : from t l.at.0 e ≡ l.at.0 ∷ from t f e = from_next t l.at.0 f e l.invariant.here (omega (arith, l.invariant.here.within)) n.ensures.left in
    let k : a.k - l.counter - 1 ≡ a.k - (l.counter + 1) = omega arith in
    record {
      here = record { within = omega arith; free = n.ensures.free };
      farther = omega arith;
      same = ap (λ k. get_or (from t f e) k e) (sym k) ∙ sym (get_or-next (a.k - l.counter) l.at.0 e (from t f e) (omega arith)) ∙ sym (ap (λ us. get_or us (a.k - l.counter) e) u) ∙ l.invariant.same;
    }

pub returns-clause-is : goal.returns-clause-is
returns-clause-is c =
    let a = c.args in
    let t = a.table.now in
    let e = a.self.end.0 in
    let l = c.loop in
    let z : a.k - l.counter ≡ 0 = omega arith in
    sym (from_here t l.at.0 e l.invariant.here) ∙ ap (λ k. get_or (from t l.at.0 e) k e) (sym z) ∙ l.invariant.same
    ∙ ap (λ us. get_or us a.k e) (sym c.next_usable-at.ensures.left)
