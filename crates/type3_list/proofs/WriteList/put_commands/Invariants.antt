-- The loop keeps: t commands are laid over the front of the buffer and end at `at`, the rest of the buffer is unchanged, and the blocks past the first w·t are left.
use Rattle.std.proofs.Common.{◌≡◌, ◌++◌, ◌+◌, ◌*◌, ◌<◌, min, length, drop}
use Rattle.std.specs.Slice.Iter.{chunks_rest, chunks_size}
use Rattle.type3_list.specs.Views.Listing.{message_commands}
use Rattle.type3_list.proofs.WriteList.put_commands.Given as goal

abbrev pub invariant-loop-blocks : goal.invariant-loop-blocks
invariant-loop-blocks l =
    let s = l.self in
    let bs = s.blocks.now in
    let t = length l.yielded in
    (goal.iterator-loop-blocks).can_next l.blocks-iterator
    × (goal.iterator-loop-blocks).is_finite l.blocks-iterator
    × (chunks_size l.blocks-iterator ≡ s.width)
    × (chunks_rest l.blocks-iterator ≡ drop (s.width * t) bs)
    × (s.width * t < length bs + s.width)
    × (l.at ≡ 13 * t + 18 * min (s.width * t) (length bs))
    × (l.out ≡ message_commands s.idm s.message.now s.width bs t ++ drop l.at l.initial.out)
