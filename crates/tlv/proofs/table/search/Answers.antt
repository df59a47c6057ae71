use Rattle.std.proofs.Common.{suc, ◌≡◌, ◌+◌, ◌-◌, ◌<◌, length, refl, sym, ap, ◌∙◌, arith}
use Rattle.tag.specs.Bytes.{byte}
use Rattle.tlv.specs.Views.Search.{tests}
use Rattle.tlv.proofs.Ends.{past-few, leading, one_fewer}
use Rattle.tlv.proofs.Skipping.{unskipped-end}
use Rattle.tlv.proofs.Tests.{tests-on, tests-found, tests-end, passed_to}
use Rattle.tlv.proofs.table.search.Goals as goal

pub loop-a-init : goal.loop-a-init
loop-a-init c =
    let a = c.args in
    let t = c.args.table.now in
    let e : a.end.0 - a.at.0 - 0 ≡ a.end.0 - a.at.0 = omega arith in
    record {
      farther = omega arith;
      left = refl;
      few = λ n L. omega (arith, past-few L.ends a.at.0, L.as_many);
      tests = omega (arith, ap (λ fuel. length (tests t a.end.0 fuel a.at.0)) e);
    }

pub returns-then-entry-eq0-clause-tests : goal.returns-then-entry-eq0-clause-tests
returns-then-entry-eq0-clause-tests c =
    let a = c.args in
    let t = c.args.table.now in
    let l = c.loop-a in
    let f : a.end.0 - a.at.0 - l.tested ≡ suc (a.end.0 - a.at.0 - l.tested - 1) = omega arith in
    let found = tests-found t a.end.0 (a.end.0 - a.at.0 - l.tested - 1) l.a (omega arith) c.if-entry-eq0.true in
    omega (arith, rw f at l.invariant.tests, ap length found)

pub returns-then-entry-eq0-clause-few : goal.returns-then-entry-eq0-clause-few
returns-then-entry-eq0-clause-few c = λ n made. omega (arith, c.loop-a.invariant.few n (leading c.args.end.0 n c.args.table.now made))

pub loop-a-smaller : goal.loop-a-smaller
loop-a-smaller c =
    let made = c.requires.2 in
    let L = leading made.0 made.1.0 c.args.table.now made.1.1 in
    omega (arith, L.on c.loop-a.a (omega arith), c.from-a.ensures)

pub loop-a-preserved : goal.loop-a-preserved
loop-a-preserved c =
    let a = c.args in
    let t = c.args.table.now in
    let e = a.end.0 in
    let l = c.loop-a in
    let made = c.requires.2 in
    let L = leading made.0 made.1.0 t made.1.1 in
    let skipped : 0 < byte t l.a = omega arith in
    let on : l.a < byte t l.a = L.on l.a skipped in
    let f : e - a.at.0 - l.tested ≡ suc (e - a.at.0 - (l.tested + 1)) = omega arith in
    record {
      farther = omega arith;
      left = l.invariant.left ∙ passed_to t l.a _ e (omega arith) (omega arith) (λ x p q. L.skipped l.a skipped x p (omega arith));
      few = λ n M. one_fewer M l.a _ l.tested skipped (omega arith) (l.invariant.few n M);
      tests = omega (arith, rw f at l.invariant.tests, ap length (tests-on t e (e - a.at.0 - (l.tested + 1)) l.a (omega arith) skipped), ap (λ x. length (tests t e (e - a.at.0 - (l.tested + 1)) x)) c.from-a.ensures);
    }

pub returns-clause-left : goal.returns-clause-left
returns-clause-left c =
    let t = c.args.table.now in
    let e = c.args.end.0 in
    let l = c.loop-a in
    l.invariant.left ∙ unskipped-end t l.a (e - l.a) (omega arith) ∙ sym (unskipped-end t e (e - e) (omega arith))

pub returns-clause-tests : goal.returns-clause-tests
returns-clause-tests c =
    let a = c.args in
    let l = c.loop-a in
    omega (arith, l.invariant.tests, ap length (tests-end c.args.table.now a.end.0 (a.end.0 - a.at.0 - l.tested) l.a (omega arith)))

pub returns-clause-few : goal.returns-clause-few
returns-clause-few c = λ n made. omega (arith, c.loop-a.invariant.few n (leading c.args.end.0 n c.args.table.now made))
