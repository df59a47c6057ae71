-- The loop keeps: the verdict on the whole list is the verdict on the commands that are left, given the tag that those so far have
-- left. The commands counted and those left are at most the bytes of the list.
use Rattle.std.proofs.Common.{length, ◌≡◌, ◌+◌, ◌≤◌}
use Rattle.tag.specs.TagType.{pieces}
use Rattle.tag.specs.Judge.{judged}
use Rattle.judge.proofs.Turning.{rest}
use Rattle.judge.proofs.lists.judge_list.Given as goal

abbrev pub invariant-loop-command : goal.invariant-loop-command
invariant-loop-command g l =
    let T = g.U.Update.tag_type l.update in
    let i = g.U.Update.image l.update in
    let m = g.U.Update.message l.update in
    let it = l.command-iterator in
    let left = pieces (g.U.Update.tag_type it.update.now) (g.U.Update.image it.update.now) it.rest.now in
    (goal.iterator-loop-command g).can_next it
    × (goal.iterator-loop-command g).is_finite it
    × (l.count + length left ≤ length l.list)
    × (length l.work ≡ length i)
    × (judged T i m l.list ≡ rest T i m l.count l.work left)
