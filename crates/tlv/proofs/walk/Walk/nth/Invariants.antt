-- The loop keeps: the place is a usable address or the end, and the address after the others still to pass is the one after k others
-- from the first on.
use Rattle.std.proofs.Common.{◌-◌, ◌≡◌, ◌≤◌, get_or}
use Rattle.tlv.proofs.Usable.{from, At}
use Rattle.tlv.proofs.walk.Walk.nth.Given as goal

abbrev pub invariant-loop : goal.invariant-loop
invariant-loop l = record {
  here : At l.table l.at.0 l.self.end.0;
  farther : l.initial.at.0 ≤ l.at.0;
  same : get_or (from l.table l.at.0 l.self.end.0) (l.k - l.counter) l.self.end.0 ≡ get_or (from l.table l.initial.at.0 l.self.end.0) l.k l.self.end.0;
}
