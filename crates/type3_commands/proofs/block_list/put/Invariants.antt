-- The loop keeps: the elements of the first i blocks are written.
use Rattle.std.proofs.Common.{◌≡◌, ◌*◌, take}
use Rattle.type3.specs.Codec.{block_list_bytes}
use Rattle.type3_commands.proofs.block_list.put.Given as goal

abbrev pub invariant-loop-i : goal.invariant-loop-i
invariant-loop-i l = take (2 * l.i) l.list ≡ block_list_bytes (take l.i l.blocks)
