use Rattle.std.proofs.Common.{◌≡◌, ap, ◌∙◌, ◌-◌, ◌*◌, length, take, drop, length-drop, arith}
use lib.Seq.{take_all}
use Rattle.tag.specs.Bytes.{byte}
use Rattle.type3_list.specs.Views.Blocks.{filled, message_block}
use Rattle.type3_list.proofs.MessageBlocks.{block-laid}
use Rattle.type3_list.proofs.blocks.put_blocks.Goals as goal

pub loop-j-preserved : goal.loop-j-preserved
loop-j-preserved c =
    let m = c.args.message.now in
    let bs = c.args.blocks.now in
    let l = c.loop-j in
    let start = c.offset.result in
    let rest : take (length m - start) (drop start m) ≡ drop start m = take_all (length m - start) (drop start m) (rw length-drop (omega arith)) in
    let part : filled (take (length m - start) (drop start m)) ≡ message_block m (byte bs l.j) = ap filled rest ∙ ap (λ s. filled (drop s m)) (c.offset.ensures ∙ ap (λ b. 16 * (b - 1)) c.from.ensures) in
    block-laid m bs l.out c.args.out.now _ l.j (omega arith) l.invariant (c.copy_from_slice.ensures.after ∙ c.fill_block.ensures ∙ part)
