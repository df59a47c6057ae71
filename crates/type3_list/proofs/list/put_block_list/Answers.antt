use Rattle.std.proofs.Common.{◌≡◌, ap, ◌∙◌, ◌++◌, ◌+◌, ◌-◌, ◌*◌, [], ◌∷◌, length, take, drop, length-take-le, arith}
use borrow.Rule.Slice.PartMut.{put_mid}
use Rattle.tag.specs.Bytes.{byte}
use Rattle.type3.specs.Codec.{block_list_bytes}
use Rattle.type3.proofs.Codec.{length-block-list}
use Rattle.type3_commands.proofs.BlockLists.{block-list-next}
use Rattle.type3_list.proofs.Laying.{lay-next}
use Rattle.type3_list.proofs.list.put_block_list.Goals as goal

pub loop-j-preserved : goal.loop-j-preserved
loop-j-preserved c =
    let bs = c.args.blocks.now in
    let t = c.args.out.now in
    let l = c.loop-j in
    let before = block_list_bytes (take l.j bs) in
    let element = 0x80 ∷ byte bs l.j ∷ [] in
    let two : 2 * (l.j + 1) - 2 * l.j ≡ 2 = omega arith in
    let next : 2 * l.j + 2 ≡ 2 * (l.j + 1) = omega arith in
    let long : length before ≡ 2 * l.j = length-block-list (take l.j bs) ∙ ap (λ n. 2 * n) (length-take-le l.j bs (omega arith)) in
    let laid : put_mid (2 * l.j) (2 * (l.j + 1) - 2 * l.j) l.out element ≡ (before ++ element) ++ drop (2 * l.j + 2) t
    = rw two (lay-next l.out before t (2 * l.j) l.invariant long element 2) in
    ap (put_mid (2 * l.j) (2 * (l.j + 1) - 2 * l.j) l.out) (c.copy_from_slice.ensures.after ∙ c.element.ensures) ∙ laid ∙ rw (next, block-list-next bs l.j (omega arith))
