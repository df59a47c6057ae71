-- The loop keeps: the first i entries are the numbers of the first i blocks listed, and the others are zero.
use Rattle.std.proofs.Common.{◌≡◌, map, replicate, take}
use Rattle.tag.specs.Bytes.{overwrite}
use Rattle.type3_commands.specs.Views.InPlace.{number}
use Rattle.type3_commands.proofs.block_list.numbers.Given as goal

abbrev pub invariant-loop-i : goal.invariant-loop-i
invariant-loop-i l = l.numbers ≡ overwrite (take l.i (map number l.elements)) (replicate 8 0)
