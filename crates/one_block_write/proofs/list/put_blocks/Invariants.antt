-- The loop keeps: the commands of the blocks so far are at the front of `out`, and the rest of `out` is as it was.
use Rattle.std.proofs.Common.{◌≡◌, ◌++◌, ◌*◌, take, drop}
use Rattle.one_block_write.specs.Views.Listing.{command_length, blocks_bytes}
use Rattle.one_block_write.proofs.list.put_blocks.Given as goal

abbrev pub invariant-loop-block : goal.invariant-loop-block
invariant-loop-block g l =
    let u = g.U.BlockUpdate in
    let step = command_length (u.front l.update) (u.size l.update) in
    (l.at ≡ step * l.block-index)
    × (l.out ≡ blocks_bytes (u.front l.update) (u.size l.update) (u.new_image l.update) (take l.block-index l.blocks) ++ drop (step * l.block-index) l.initial.out)
