-- The loop keeps: the block is among all of them exactly if it is among those that are left.
use Rattle.std.proofs.Common.{◌≡◌, drop, map}
use Rattle.tag.specs.Bytes.{has}
use Rattle.type3_commands.proofs.block_list.has.Given as goal

abbrev pub invariant-loop-other : goal.invariant-loop-other
invariant-loop-other g l = has l.block (map g.T.Numbered.number l.blocks) ≡ has l.block (map g.T.Numbered.number (drop l.other-index l.blocks))
