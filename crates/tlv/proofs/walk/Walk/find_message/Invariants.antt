-- The loop keeps: the walk from the place reached finds what the walk from the start finds, and the skip table is as long as at the
-- start and skips also the areas declared on the way. Each turn is a step of the walk and moves on.
use Rattle.std.proofs.Common.{◌≡◌, ◌-◌}
use Rattle.tlv.specs.Walk.{find}
use Rattle.tlv.specs.Views.Walks.{ahead, rule_of, Walked}
use Rattle.tlv.proofs.walk.Walk.find_message.Given as goal

abbrev pub invariant-loop-byte : goal.invariant-loop-byte
invariant-loop-byte l = record {
  finds : find (rule_of l.image l.first) (l.initial.walk.end.0 - l.initial.walk.at.0) l.image (ahead l.initial.table l.initial.walk) ≡ find (rule_of l.image l.first) (l.initial.walk.end.0 - l.initial.walk.at.0) l.image (ahead l.table l.walk);
  walked : Walked l.initial.table l.table l.initial.walk l.walk;
}

abbrev pub decreases-loop-byte : goal.decreases-loop-byte
decreases-loop-byte l = l.walk.end.0 - l.walk.at.0
