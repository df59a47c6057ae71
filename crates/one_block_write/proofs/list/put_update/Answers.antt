use Rattle.std.proofs.Common.{rules, arith, ◌≡◌, ◌++◌, ◌+◌, ◌-◌, ◌*◌, ◌≤◌, cond, length, take, drop, sym, ap, ◌∙◌, not}
use mir.Val.{bool_byte}
use Rattle.tag.specs.TagType.{output_into}
use Rattle.tag.specs.Answers.{gives, count_of}
use Rattle.tag.proofs.Filling.{three-laid}
use Rattle.one_block_write.specs.Views.Listing.{command_length, block_bytes, blocks_bytes, shut_command, shut_length, chosen, guarded_bytes}
use Rattle.one_block_write.proofs.Guarding.{shut-count, chosen-below, length-shut, length-middle, guarded-short, guarded-fits, whole_length, guarded-end}
use Rattle.one_block_write.proofs.list.put_update.Goals as goal

pub returns-then-list-step : goal.returns-then-list-step
returns-then-list-step g c =
    let u = g.U.BlockUpdate in
    let x = c.args.update.now in
    let many = c.len.ensures.value ∙ ap length c.blocks_to_write-between.ensures in
    let first = c.from.ensures ∙ ap (λ b. bool_byte (not b)) c.is_shut.ensures ∙ shut-count (u.is_shut x) in
    let short = rw (c.command_length-step.ensures, many, first) at c.if-list-step.true in
    let e = guarded-short (u.front x) (u.size x) (u.image x) (u.new_image x) (u.guard x) (u.shut x) (g.met.U.BlockUpdate.listed x) (u.is_shut x)
    (length c.args.list.now) short in
    (sym (ap count_of e), sym (ap (output_into c.args.list.now) e))

pub put_blocks-requires : goal.put_blocks-requires
put_blocks-requires g c =
    let u = g.U.BlockUpdate in
    let x = c.args.update.now in
    let front = u.front x in
    let z = u.size x in
    let listed = g.met.U.BlockUpdate.listed x in
    let s = c.put_shut-at in
    let step = command_length front z in
    let bs = chosen z (u.image x) (u.new_image x) (u.guard x) in
    let first = c.from.ensures ∙ ap (λ b. bool_byte (not b)) c.is_shut.ensures ∙ shut-count (u.is_shut x) in
    let many = c.len.ensures.value ∙ ap length c.blocks_to_write-between.ensures in
    let room : step * (cond (u.is_shut x) 0 1 + length bs + 1) ≤ length c.args.list.now
    = rw (c.command_length-step.ensures, many, first) at c.if-list-step.false in
    let whole = whole_length front z (u.image x) (u.new_image x) (u.guard x) (u.shut x) listed (u.is_shut x) in
    rw (c.as_slice.ensures.value, c.blocks_to_write-between.ensures) (
      chosen-below front z (u.image x) (u.new_image x) (u.guard x) (u.shut x) listed,
      search (rules, s.auto.out, s.ensures.next, room, whole),
    )

pub returns : goal.returns
returns g c =
    let u = g.U.BlockUpdate in
    let x = c.args.update.now in
    let front = u.front x in
    let z = u.size x in
    let i = u.image x in
    let new = u.new_image x in
    let guard = u.guard x in
    let shut = u.shut x in
    let is_shut = u.is_shut x in
    let listed = g.met.U.BlockUpdate.listed x in
    let list = c.args.list.now in
    let s = c.put_shut-at in
    let step = command_length front z in
    let bs = chosen z i new guard in
    let first : c.from.result ≡ cond is_shut 0 1 = c.from.ensures ∙ ap (λ b. bool_byte (not b)) c.is_shut.ensures ∙ shut-count is_shut in
    let many : c.len.result ≡ length bs = c.len.ensures.value ∙ ap length c.blocks_to_write-between.ensures in
    let second : c.command_length-step.result * c.len-2.result ≡ step * length bs
    = ap (λ k. k * c.len-2.result) c.command_length-step.ensures ∙ ap (λ k. step * k) (c.len-2.ensures.value ∙ ap length c.blocks_to_write-between.ensures) in
    let room : step * (cond is_shut 0 1 + length bs + 1) ≤ length list
    = rw (c.command_length-step.ensures, many, first) at c.if-list-step.false in
    let whole = whole_length front z i new guard shut listed is_shut in
    let first-long : length (shut_command front guard shut is_shut) ≡ s.result
    = length-shut front guard shut is_shut ∙ ap (λ n. shut_length front n is_shut) listed.shut_whole ∙ sym s.ensures.next in
    let begun : s.new.out ≡ shut_command front guard shut is_shut ++ drop s.result list
    = s.ensures.puts ∙ ap (λ n. shut_command front guard shut is_shut ++ drop n list) (sym s.ensures.next) in
    let rest = take (length s.new.out - s.result) (drop s.result s.new.out) in
    let middle : c.put_blocks.new.out ≡ blocks_bytes front z new bs ++ drop (step * length bs) rest
    = c.put_blocks.ensures ∙ ap (λ x. blocks_bytes front z new x ++ drop (step * length x) rest) (c.as_slice.ensures.value ∙ c.blocks_to_write-between.ensures) in
    let e = guarded-fits front z i new guard shut listed is_shut (length list) room in
    let end : s.result + step * length bs + step ≡ length (guarded_bytes front z new bs guard shut is_shut)
    = omega (arith, s.ensures.next, guarded-end front z i new guard shut listed is_shut) in
    let last = rw (second, c.guard.ensures) at c.put_block.ensures in
    rw second (
      ap gives (rw (first, many)) ∙ sym (ap count_of e),
      three-laid list s.new.out (shut_command front guard shut is_shut) (blocks_bytes front z new bs)
          c.put_blocks.new.out s.result (step * length bs) step
          begun s.auto.out first-long (length-middle front z i new guard shut listed) (omega (arith, s.ensures.next, whole, room)) middle
          (block_bytes front z new guard) _ last
          ∙ ap (λ d. guarded_bytes front z new bs guard shut is_shut ++ drop d list) end
          ∙ sym (ap (output_into list) e),
    )
