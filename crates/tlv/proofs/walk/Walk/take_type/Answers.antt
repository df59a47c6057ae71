use Rattle.std.proofs.Common.{◌≡◌, ◌∷◌, ◌+◌, length, refl, sym, ap, arith, ◌∙◌}
use Rattle.tlv.specs.Walk.{take_byte, find}
use Rattle.tlv.proofs.Usable.{from, from_next, from_end}
use Rattle.tlv.proofs.Fuel.{null-passed}
use Rattle.tlv.proofs.Steps.{moved}
use Rattle.tlv.proofs.walk.Walk.take_type.Goals as goal

pub returns-then-byte-ne0-clause-is : goal.returns-then-byte-ne0-clause-is
returns-then-byte-ne0-clause-is c =
    let a = c.args in
    let t = a.table.now in
    let e = a.self.end.0 in
    let l = c.loop-at in
    let u : from t l.at.0 e ≡ l.at.0 ∷ from t (l.at.0 + 1) e = from_next t l.at.0 (l.at.0 + 1) e l.invariant.here (omega arith) refl in
    let left = c.next_usable-at.ensures.left in
    record {
      us = from t l.at.0 e;
      fewer = omega (arith, l.invariant.fewer, ap length left);
      same = λ allowed fuel h. ap (find allowed fuel a.image.now) left ∙ l.invariant.same allowed fuel (omega (arith, ap length left, h));
      taken = rw (c.moved_to.ensures.0, c.moved_to.ensures.1) (sym (ap (take_byte a.image.now) u));
    }

pub returns-then-byte-ne0-clause-placed : goal.returns-then-byte-ne0-clause-placed
returns-then-byte-ne0-clause-placed c =
    (moved c.requires.1 (omega (arith, c.loop-at.invariant.farther, c.moved_to.ensures.0)) (omega (arith, c.moved_to.ensures.0, c.moved_to.ensures.1)) c.moved_to.ensures.1 c.moved_to.ensures.2, omega (arith, c.loop-at.invariant.farther), omega (arith, c.moved_to.ensures.0))

pub loop-at-preserved : goal.loop-at-preserved
loop-at-preserved c =
    let a = c.args in
    let t = a.table.now in
    let e = a.self.end.0 in
    let l = c.loop-at in
    let n = c.next_usable-at-in-loop-at in
    let f = n.result.0 in
    let u : from t l.at.0 e ≡ l.at.0 ∷ from t f e = from_next t l.at.0 f e l.invariant.here (omega arith) n.ensures.left in
    record {
      here = record { within = omega arith; free = n.ensures.free };
      farther = omega (arith, l.invariant.farther);
      fewer = omega (arith, l.invariant.fewer, ap length u);
      same = λ allowed fuel h. (rw u at (l.invariant.same allowed fuel h)) ∙ null-passed allowed fuel a.image.now l.at.0 (from t f e) (omega arith) (omega (arith, l.invariant.fewer, ap length u, h));
    }

pub returns-clause-is : goal.returns-clause-is
returns-clause-is c =
    let a = c.args in
    let t = a.table.now in
    let e = a.self.end.0 in
    let l = c.loop-at in
    let left = c.next_usable-at.ensures.left in
    record {
      us = from t l.at.0 e;
      fewer = omega (arith, l.invariant.fewer, ap length left);
      same = λ allowed fuel h. ap (find allowed fuel a.image.now) left ∙ l.invariant.same allowed fuel (omega (arith, ap length left, h));
      taken = sym (ap (take_byte a.image.now) (from_end t l.at.0 e (omega arith)));
    }
