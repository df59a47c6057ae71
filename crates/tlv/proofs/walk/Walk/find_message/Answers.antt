use Rattle.std.proofs.Common.{◌-◌, refl, sym, ◌∙◌, arith}
use Rattle.std.proofs.lemmas.Result.{err_from_is_err_and}
use Rattle.tag.specs.Answers.{number_of}
use Rattle.tag.specs.Refusals.{no_message_tlv}
use Rattle.tlv.specs.Views.Walks.{ahead, rule_of}
use Rattle.tlv.proofs.Fuel.{walk_more, walk-stop, walk-hit}
use Rattle.tlv.proofs.Steps.{stay, onward}
use Rattle.tlv.proofs.Finding.{stepped, no-step, fuel-enough, walked_on}
use Rattle.tlv.proofs.walk.Walk.find_message.Goals as goal

pub loop-byte-init : goal.loop-byte-init
loop-byte-init c = record { finds = refl; walked = (0, stay c.requires.1) }

pub pass_by_type-requires : goal.pass_by_type-requires
pass_by_type-requires c =
    let p = onward c.loop-byte.invariant.walked.1 c.in-Some.ensures.placed.0 in
    (omega (arith, p.same_end, c.requires.0), p.within)

pub returns-in_err-next-clause-is : goal.returns-in_err-next-clause-is
returns-in_err-next-clause-is c =
    let a = c.args in
    let l = c.loop-byte in
    let s = c.in-Some in
    let taken = s.ensures.is in
    let rule = rule_of a.image.now a.first in
    let fuel = a.self.end.0 - a.self.at.0 in
    let enough = fuel-enough l.invariant.walked.1 in
    let finds = l.invariant.finds ∙ taken.same rule fuel enough in
    let e = stepped rule a.image.now taken.us (ahead l.table s.past) s.byte s.place.0 taken.taken ∙ sym c.in_err-next.ensures.is in
    let p = err_from_is_err_and c.from_residual.result c.from_residual.ensures.1 in
    rw (p.1, p.2) (sym (finds ∙ walk-stop rule fuel a.image.now taken.us (number_of c.in_err-next.field-0.0) (omega (arith, taken.fewer, enough)) e))

pub loop-byte-preserved : goal.loop-byte-preserved
loop-byte-preserved c =
    let a = c.args in
    let l = c.loop-byte in
    let s = c.in-Some in
    let taken = s.ensures.is in
    let rule = rule_of a.image.now a.first in
    let fuel = a.self.end.0 - a.self.at.0 in
    let enough = fuel-enough l.invariant.walked.1 in
    let finds = l.invariant.finds ∙ taken.same rule fuel enough in
    let e = stepped rule a.image.now taken.us (ahead l.table s.past) s.byte s.place.0 taken.taken ∙ sym (rw c.in-On.is at c.in_ok-next.ensures.is) in
    record {
      finds = finds ∙ walk_more rule fuel a.image.now taken.us (ahead c.pass_by_type.new.table c.in-On.next) (omega (arith, taken.fewer, enough)) e;
      walked = walked_on (walked_on l.invariant.walked (0, s.ensures.placed.0)) (rw c.in-On.is at c.in_ok-next.ensures.placed);
    }

pub returns-in-Message-clause-is : goal.returns-in-Message-clause-is
returns-in-Message-clause-is c =
    let a = c.args in
    let l = c.loop-byte in
    let s = c.in-Some in
    let taken = s.ensures.is in
    let rule = rule_of a.image.now a.first in
    let fuel = a.self.end.0 - a.self.at.0 in
    let enough = fuel-enough l.invariant.walked.1 in
    let finds = l.invariant.finds ∙ taken.same rule fuel enough in
    let e = stepped rule a.image.now taken.us (ahead l.table s.past) s.byte s.place.0 taken.taken ∙ sym (rw c.in-Message.is at c.in_ok-next.ensures.is) in
    sym (finds ∙ walk-hit rule fuel a.image.now taken.us c.in-Message.place.0 (ahead c.pass_by_type.new.table c.in-Message.next) (omega (arith, taken.fewer, enough)) e)

pub returns-in-Message-clause-placed : goal.returns-in-Message-clause-placed
returns-in-Message-clause-placed c =
    let before = c.loop-byte.invariant.walked in
    let s = c.in-Some.ensures.placed in
    let p = rw c.in-Message.is at c.in_ok-next.ensures.placed in
    (walked_on (walked_on before (0, s.0)) p.0, omega (arith, p.1, s.1, before.1.farther), omega (arith, p.1, s.2, p.0.1.farther))

pub returns-clause-is : goal.returns-clause-is
returns-clause-is c =
    let a = c.args in
    let l = c.loop-byte in
    let taken = c.in_default.ensures.is in
    let rule = rule_of a.image.now a.first in
    let fuel = a.self.end.0 - a.self.at.0 in
    let enough = fuel-enough l.invariant.walked.1 in
    let finds = l.invariant.finds ∙ taken.same rule fuel enough in
    sym (finds ∙ walk-stop rule fuel a.image.now taken.us no_message_tlv (omega (arith, taken.fewer, enough)) (no-step rule a.image.now taken.us taken.taken))
