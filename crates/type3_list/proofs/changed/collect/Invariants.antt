-- The loop keeps: the n blocks that the iterator has counted are compared, and the numbers are those of the changed ones; the rest of
-- the message is left.
use Rattle.std.proofs.Common.{◌≡◌, ◌*◌, ◌≤◌, length, drop}
use Rattle.std.specs.Slice.Iter.{chunks_rest, chunks_size}
use Rattle.std.specs.Iterator.Adapters.{enumerate_source, enumerate_count}
use Rattle.tag.specs.Views.Picked.{picked}
use Rattle.type3.specs.Update.{blocks_for}
use Rattle.type3_list.specs.Views.Blocks.{is_changed}
use Rattle.type3_list.proofs.changed.collect.Given as goal

abbrev pub invariant-loop-before : goal.invariant-loop-before
invariant-loop-before l =
    let n = enumerate_count l.before-iterator in
    (goal.iterator-loop-before).can_next l.before-iterator
    × (goal.iterator-loop-before).is_finite l.before-iterator
    × (chunks_size (enumerate_source l.before-iterator) ≡ 16)
    × (chunks_rest (enumerate_source l.before-iterator) ≡ drop (16 * n) l.message)
    × (n ≤ blocks_for (length l.message))
    × (l.changed.items ≡ picked (is_changed l.image l.message) 1 n)
