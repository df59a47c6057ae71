-- The loop keeps: the bytes of the first j blocks are laid over the front of the buffer, and the rest of it is unchanged.
use Rattle.std.proofs.Common.{◌≡◌, ◌++◌, ◌*◌, take, drop}
use Rattle.type3_list.specs.Views.Blocks.{blocks_bytes}
use Rattle.type3_list.proofs.blocks.put_blocks.Given as goal

abbrev pub invariant-loop-j : goal.invariant-loop-j
invariant-loop-j l = l.out ≡ blocks_bytes l.message (take l.j l.blocks) ++ drop (16 * l.j) l.initial.out
