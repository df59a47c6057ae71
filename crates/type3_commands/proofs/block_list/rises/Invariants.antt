-- The loop keeps: all blocks rise exactly if those that are left rise from `low` on.
use Rattle.std.proofs.Common.{◌≡◌, drop, map}
use Rattle.type3_commands.specs.Views.Rising.{rising}
use Rattle.type3_commands.proofs.block_list.rises.Given as goal

abbrev pub invariant-loop-listed : goal.invariant-loop-listed
invariant-loop-listed g l =
    rising l.most 0 (map g.T.Numbered.number l.blocks) ≡ rising l.most l.low (map g.T.Numbered.number (drop l.listed-index l.blocks))
