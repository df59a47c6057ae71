-- The loop keeps: the elements of the first j blocks are laid over the front of the buffer, and the rest of it is unchanged.
use Rattle.std.proofs.Common.{◌≡◌, ◌++◌, ◌*◌, take, drop}
use Rattle.type3.specs.Codec.{block_list_bytes}
use Rattle.type3_list.proofs.list.put_block_list.Given as goal

abbrev pub invariant-loop-j : goal.invariant-loop-j
invariant-loop-j l = l.out ≡ block_list_bytes (take l.j l.blocks) ++ drop (2 * l.j) l.initial.out
