-- Each answer binds its own names: its facts `c` are of a type of their own, and a lemma would take each of them as an argument.
use Rattle.std.proofs.Common.{◌≡◌, ◌+◌, ◌*◌, ◌<◌, ◌/◌, ◌∙◌, ◌++◌, [], ◌∷◌, true, false, ap, sym, length, drop, append-nil, length-drop, arith, rules}
use Rattle.std.specs.Iterator.Adapters.{enumerate_count}
use Rattle.tag.specs.Views.Picked.{picked}
use Rattle.type3.specs.Update.{blocks_for}
use Rattle.type3_list.specs.Views.Blocks.{is_changed}
use Rattle.type3_list.proofs.Comparing.{next-part, changed-is, picked-more, picked-most}
use Rattle.type3_list.proofs.changed.collect.Goals as goal

pub push-requires : goal.push-requires
push-requires c =
    let m = c.args.message.now in
    let l = c.loop-before in
    let n = enumerate_count l.before-iterator in
    let s = c.in-Some.ensures.steps.0 in
    let next = next-part m c.in-Some.part.now _ _ n _ l.invariant.2 l.invariant.3 s.1.0 s.1.1 s.1.2 in
    (search rules, omega (arith, next.2, picked-most (is_changed c.args.image.now m) n l.changed.items l.invariant.5))

pub loop-before-preserved-then-ne : goal.loop-before-preserved-then-ne
loop-before-preserved-then-ne c =
    let i = c.args.image.now in
    let m = c.args.message.now in
    let l = c.loop-before in
    let n = enumerate_count l.before-iterator in
    let steps = c.in-Some.ensures.steps in
    let s = steps.0 in
    let next = next-part m c.in-Some.part.now _ _ n _ l.invariant.2 l.invariant.3 s.1.0 s.1.1 s.1.2 in
    let count : enumerate_count c.next.new.self ≡ n + 1 = steps.2 in
    let room : n + 1 < length i / 16 = omega (arith, next.2) in
    let is : true ≡ is_changed i m (1 + n)
    = changed-is i m c.in-Some.part.now c.as_chunks.result.0.now c.fill_block.result n (length i / 16) c.in-Some.before true next.1 room
    c.as_chunks.ensures.front c.fill_block.ensures steps.1 (sym c.if-ne.true ∙ c.ne.ensures) in (
      c.in-Some.ensures.goes.keeps,
      search rules,
      s.0 ∙ l.invariant.2,
      next.0 ∙ ap (λ k. drop (16 * k) m) (sym count),
      omega (arith, count, next.2),
      c.push.ensures.items ∙ ap (λ k. l.changed.items ++ (k + 1) ∷ []) steps.1 ∙ picked-more (is_changed i m) n true l.changed.items is l.invariant.5
          ∙ ap (picked (is_changed i m) 1) (sym count),
    )

pub loop-before-preserved : goal.loop-before-preserved
loop-before-preserved c =
    let i = c.args.image.now in
    let m = c.args.message.now in
    let l = c.loop-before in
    let n = enumerate_count l.before-iterator in
    let steps = c.in-Some.ensures.steps in
    let s = steps.0 in
    let next = next-part m c.in-Some.part.now _ _ n _ l.invariant.2 l.invariant.3 s.1.0 s.1.1 s.1.2 in
    let count : enumerate_count c.next.new.self ≡ n + 1 = steps.2 in
    let room : n + 1 < length i / 16 = omega (arith, next.2) in
    let is : false ≡ is_changed i m (1 + n)
    = changed-is i m c.in-Some.part.now c.as_chunks.result.0.now c.fill_block.result n (length i / 16) c.in-Some.before false next.1 room
    c.as_chunks.ensures.front c.fill_block.ensures steps.1 (sym c.if-ne.false ∙ c.ne.ensures) in (
      c.in-Some.ensures.goes.keeps,
      search rules,
      s.0 ∙ l.invariant.2,
      next.0 ∙ ap (λ k. drop (16 * k) m) (sym count),
      omega (arith, count, next.2),
      sym (append-nil l.changed.items) ∙ picked-more (is_changed i m) n false l.changed.items is l.invariant.5
          ∙ ap (picked (is_changed i m) 1) (sym count),
    )

pub returns : goal.returns
returns c =
    let i = c.args.image.now in
    let m = c.args.message.now in
    let l = c.loop-before in
    let n = enumerate_count l.before-iterator in
    let left = ap length l.invariant.3 in
    let all : n ≡ blocks_for (length m) = omega (arith, left, length-drop (16 * n) m, l.invariant.4, c.in-None.ensures.steps.0.1.0) in
    l.invariant.5 ∙ ap (picked (is_changed i m) 1) all
