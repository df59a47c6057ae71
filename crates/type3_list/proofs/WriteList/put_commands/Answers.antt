use Rattle.std.proofs.Common.{◌≡◌, List, ℕ, ◌++◌, [], ◌∷◌, refl, sym, ap, subst, ◌∙◌, ◌+◌, ◌*◌, ◌<◌, ◌≤◌, min, length, drop, length-append, length-drop, arith}
use Rattle.std.specs.Slice.Iter.{chunks_rest, chunks_size}
use Rattle.tag.proofs.Filling.{lay-part}
use Rattle.type3_list.specs.Views.Blocks.{Chosen}
use Rattle.type3_list.specs.Views.Listing.{message_command, message_commands, Dealt}
use Rattle.type3_list.proofs.MessageBlocks.{part-chosen}
use Rattle.type3_list.proofs.Cutting.{times_more, next-chunk}
use Rattle.type3_list.proofs.Dealing.{place-more, place-fits, left_over, all_dealt, length_rest, commands-more, length-commands}
use Rattle.type3_list.proofs.WriteList.put_commands.Goals as goal

pub loop-blocks-init : goal.loop-blocks-init
unfolding message_commands
loop-blocks-init c =
    let s = c.args.self.now in
    let chunks = c.chunks-blocks-items.ensures in
    let is = c.into_iter-blocks-iterator.ensures.into_iter_gives in
    let size : chunks_size c.into_iter-blocks-iterator.result ≡ s.width = ap chunks_size is ∙ chunks.size in
    let none : s.width * 0 ≡ 0 = omega arith in (
      omega (arith, size, s.dealt.some_width),
      tt,
      size,
      ap chunks_rest is ∙ chunks.rest ∙ sym (ap (λ k. drop k s.blocks.now) none),
      omega (arith, s.dealt.some_width),
      omega arith,
      refl,
    )

pub put_command-requires : goal.put_command-requires
put_command-requires c =
    let s = c.args.self.now in
    let l = c.loop-blocks in
    let t = length l.yielded in
    let steps = c.in-Some.ensures.steps in
    let next = next-chunk s.blocks.now c.in-Some.blocks.now _ _ s.width t _ l.invariant.2 l.invariant.3 steps.1.0 steps.1.1 in
    let some : s.width * t < length s.blocks.now = omega (arith, ap length l.invariant.3, length-drop (s.width * t) s.blocks.now, steps.1.2) in
    let fits = place-fits (length s.blocks.now) s.width t s.turns l.at (length c.in-Some.blocks.now) l.invariant.5 next.2 (left_over t s.dealt some) in (
      subst (Chosen s.message.now) (sym next.0) (part-chosen s.width (s.width * t) s.chosen),
      omega (arith, next.2, s.dealt.some_width),
      omega (arith, next.2, s.dealt.most_width),
      rw (length_rest l.out l.at) (omega (arith, fits, c.requires)),
    )

pub loop-blocks-preserved : goal.loop-blocks-preserved
loop-blocks-preserved c =
    let s = c.args.self.now in
    let l = c.loop-blocks in
    let t = length l.yielded in
    let w = s.width in
    let bs = s.blocks.now in
    let k = length bs in
    let part = c.in-Some.blocks.now in
    let steps = c.in-Some.ensures.steps in
    let next = next-chunk bs part _ _ w t _ l.invariant.2 l.invariant.3 steps.1.0 steps.1.1 in
    let some : w * t < k = omega (arith, ap length l.invariant.3, length-drop (w * t) bs, steps.1.2) in
    let fits = place-fits k w t s.turns l.at (length part) l.invariant.5 next.2 (left_over t s.dealt some) in
    let more = place-more k w t l.at (length part) l.invariant.5 next.2 in
    let count : length (l.yielded ++ c.in-Some.blocks ∷ []) ≡ t + 1 = length-append l.yielded (c.in-Some.blocks ∷ []) in
    let laid-so-far = message_commands s.idm s.message.now w bs t in
    let long : length laid-so-far ≡ l.at = length-commands s.idm s.message.now w bs t s.eight ∙ sym l.invariant.5 in
    let put = lay-part l.out laid-so-far c.args.out.now l.at l.invariant.6 long (message_command s.idm s.message.now part) c.put_command.new.out (length l.out) (13 + 18 * length part)
    (omega (arith, fits, c.requires)) (omega arith) c.put_command.ensures in
    rw count (
      c.in-Some.ensures.goes.keeps,
      tt,
      steps.0 ∙ l.invariant.2,
      next.1,
      omega (arith, times_more w t, some),
      more,
      put ∙ ap (λ x. (laid-so-far ++ message_command s.idm s.message.now x) ++ drop (l.at + (13 + 18 * length part)) c.args.out.now) next.0
          ∙ ap (λ x. x ++ drop (l.at + (13 + 18 * length part)) c.args.out.now) (sym (commands-more s.idm s.message.now w bs t)),
    )

-- once nothing is left, as many commands are laid as the blocks are dealt out to
ended : (bs rest : List ℕ) (w t turns at : ℕ) → Dealt (length bs) w turns → rest ≡ drop (w * t) bs → length rest ≡ 0 → w * t < length bs + w
    → at ≡ 13 * t + 18 * min (w * t) (length bs) → (t ≡ turns) × (at ≡ 13 * turns + 18 * length bs)
ended bs rest w t turns at d left none before place =
    let all : length bs ≤ w * t = omega (arith, ap length left, length-drop (w * t) bs) in
    let same : t ≡ turns = all_dealt t d before all in
    (same, omega (arith, same, place))

pub returns-clause-next : goal.returns-clause-next
returns-clause-next c =
    let s = c.args.self.now in
    let l = c.loop-blocks in
    (ended s.blocks.now _ s.width (length l.yielded) s.turns l.at s.dealt l.invariant.3 c.in-None.ensures.steps.1.0 l.invariant.4 l.invariant.5).1

pub returns-clause-puts : goal.returns-clause-puts
returns-clause-puts c =
    let s = c.args.self.now in
    let l = c.loop-blocks in
    let end = ended s.blocks.now _ s.width (length l.yielded) s.turns l.at s.dealt l.invariant.3 c.in-None.ensures.steps.1.0 l.invariant.4 l.invariant.5 in
    l.invariant.6
    ∙ ap (λ t. message_commands s.idm s.message.now s.width s.blocks.now t ++ drop l.at c.args.out.now) end.0
    ∙ ap (λ k. message_commands s.idm s.message.now s.width s.blocks.now s.turns ++ drop k c.args.out.now) end.1
