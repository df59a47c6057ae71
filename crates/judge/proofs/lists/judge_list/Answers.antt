use Rattle.std.proofs.Common.{arith, ◌≡◌, length, rules, Ok, Err, ◌+◌, refl, sym, ap, ◌∙◌}
use Rattle.std.specs.Prelude.{Result}
use Rattle.tag.specs.declared.refusals.Refusal.{Refusal}
use Rattle.tag.specs.TagType.{pieces}
use Rattle.tag.specs.Judge.{judged}
use Rattle.tag.specs.Answers.{verdict_as}
use Rattle.update.proofs.Cutting.{pieces-few}
use Rattle.judge.proofs.Turning.{rest, rest-all, rest-good, rest-bad, rest-stop, rest-next}
use Rattle.judge.proofs.lists.judge_list.Goals as goal

pub loop-command-init : goal.loop-command-init
loop-command-init g c =
    let a = c.args in
    let u = a.update.now in
    let T = g.U.Update.tag_type in
    let i = g.U.Update.image in
    let m = g.U.Update.message in
    let it = c.into_iter-command-iterator.result in
    let made = c.new-command-items in
    let whole : pieces (T it.update.now) (i it.update.now) it.rest.now ≡ pieces (T u) (i u) a.list.now =
    ap (λ (s : _). pieces (T s.update.now) (i s.update.now) s.rest.now) c.into_iter-command-iterator.ensures.into_iter_gives
    ∙ ap (λ k. pieces (T k) (i k) made.result.rest.now) made.ensures.update
    ∙ ap (pieces (T u) (i u)) made.ensures.rest in
    let shorter = ap length whole in (
      tt,
      tt,
      omega (arith, shorter, pieces-few (T u) (i u) a.list.now),
      ap length c.requires.1,
      rest-all (T u) (i u) (m u) (g.met.U.Update.ready u) a.list.now
          ∙ ap (λ j. rest (T u) (i u) (m u) 0 j (pieces (T u) (i u) a.list.now)) (sym c.requires.1)
          ∙ ap (rest (T u) (i u) (m u) 0 a.work.now) (sym whole),
    )

pub loop-command-preserved : goal.loop-command-preserved
loop-command-preserved g c =
    let u = c.args.update.now in
    let l = c.loop-command in
    let s = c.step in
    let next = c.in-Some.ensures.steps in
    let shorter = ap length next in
    let n = c.next.new.self in
    let after = pieces (g.U.Update.tag_type n.update.now) (g.U.Update.image n.update.now) n.rest.now in
    let good : s.result ≡ Ok tt = search rules in (
      tt,
      tt,
      omega (arith, shorter),
      omega (arith, s.auto.work, l.invariant.3),
      l.invariant.4
          ∙ rest-next (g.U.Update.tag_type u) (g.U.Update.image u) (g.U.Update.message u) l.count l.work _ _ _ next (sym s.ensures.is ∙ good)
          ∙ ap (λ j. rest (g.U.Update.tag_type u) (g.U.Update.image u) (g.U.Update.message u) (l.count + 1) j after) (sym s.ensures.stored),
    )

pub returns-in_err-map_err : goal.returns-in_err-map_err
returns-in_err-map_err g c =
    let u = c.args.update.now in
    let l = c.loop-command in
    let s = c.step in
    let bad : (r : Result (Unit {0}) Refusal) → s.result ≡ r → judged (g.U.Update.tag_type u) (g.U.Update.image u) (g.U.Update.message u) c.args.list.now ≡ verdict_as c.from_residual.result =
    elim [
      | Ok done ↦ λ q. absurd (search (rules, q))
      | Err e ↦ λ q.
          let left : c.from_residual.result ≡ Err (record { refusal = e; position = l.count }) = search (rules, q) in
          l.invariant.4
          ∙ rest-stop (g.U.Update.tag_type u) (g.U.Update.image u) (g.U.Update.message u) l.count l.work _ _ _ c.in-Some.ensures.steps e (sym s.ensures.is ∙ q)
          ∙ ap verdict_as (sym left)
    ] in
    sym (bad s.result refl)

pub returns-then-not-holds : goal.returns-then-not-holds
returns-then-not-holds g c =
    let u = c.args.update.now in
    let l = c.loop-command in
    rw (c.at.ensures.0, c.at.ensures.1)
    (sym (l.invariant.4 ∙ rest-bad (g.U.Update.tag_type u) (g.U.Update.image u) (g.U.Update.message u) l.count l.work _ c.in-None.ensures.steps.0 (sym c.holds.ensures ∙ search rules)))

pub returns : goal.returns
returns g c =
    let u = c.args.update.now in
    let l = c.loop-command in
    sym (l.invariant.4 ∙ rest-good (g.U.Update.tag_type u) (g.U.Update.image u) (g.U.Update.message u) l.count l.work _ c.in-None.ensures.steps.0 (sym c.holds.ensures ∙ search rules))
