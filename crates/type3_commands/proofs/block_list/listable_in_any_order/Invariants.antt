-- The loop keeps: all blocks may be listed exactly if those from i on may.
use Rattle.std.proofs.Common.{◌≡◌, drop, map}
use Rattle.type3.specs.Codec.{listable}
use Rattle.type3_commands.proofs.block_list.listable_in_any_order.Given as goal

abbrev pub invariant-loop-i : goal.invariant-loop-i
invariant-loop-i g l =
    listable l.nmaxb (map g.T.Numbered.number l.blocks) ≡ listable l.nmaxb (map g.T.Numbered.number (drop l.i l.blocks))
