-- The loop keeps: the usable addresses from a on are those from the start on; the addresses tested so far and those tested from a on
-- are all that the search tests; and however many areas made the table, the tests so far and the ends past a are no more than these
-- areas.
use Rattle.std.proofs.Common.{◌-◌, ◌≡◌, ℕ, ◌+◌, ◌≤◌, length}
use Rattle.tlv.specs.Views.Table.{unskipped}
use Rattle.tlv.specs.Views.Search.{tests}
use Rattle.tlv.proofs.Ends.{Leading, past}
use Rattle.tlv.proofs.table.search.Given as goal

abbrev pub invariant-loop-a : goal.invariant-loop-a
invariant-loop-a l = record {
  farther : l.initial.a + l.tested ≤ l.a;
  left : unskipped l.table l.initial.a (l.end.0 - l.initial.a) ≡ unskipped l.table l.a (l.end.0 - l.a);
  few : (n : ℕ) → (L : Leading l.end.0 n l.table) → l.tested + past L.ends l.a ≤ n;
  tests : l.tested + length (tests l.table l.end.0 (l.end.0 - l.initial.a - l.tested) l.a) ≡ length (tests l.table l.end.0 (l.end.0 - l.initial.a) l.initial.a);
}

abbrev pub decreases-loop-a : goal.decreases-loop-a
decreases-loop-a l = l.end.0 - l.a
