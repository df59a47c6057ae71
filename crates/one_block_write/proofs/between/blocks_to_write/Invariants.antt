-- The loop keeps: the numbers so far are those of the blocks to write below b.
use Rattle.std.proofs.Common.{◌≡◌, ◌≤◌, length}
use Rattle.tag.specs.Plan.{between_by}
use Rattle.tag.specs.Views.Picked.{picked}
use Rattle.one_block_write.proofs.between.blocks_to_write.Given as goal

abbrev pub invariant-loop-b : goal.invariant-loop-b
invariant-loop-b g l =
    let u = g.U.BlockUpdate in
    (l.blocks.items ≡ picked (between_by (u.size l.update) (u.guard l.update) (u.image l.update) (u.new_image l.update)) 0 l.b)
    × (length l.blocks.items ≤ l.b)
