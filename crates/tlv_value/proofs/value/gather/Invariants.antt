-- The loop keeps: the place is a usable address or the end, and gathering the rest of the n bytes from there on behind those that are
-- gathered gives the buffer that the contract asks for.
use Rattle.std.proofs.Common.{◌≡◌, ◌-◌, ◌++◌, map, take, drop, length}
use Rattle.tag.specs.Bytes.{byte, overwrite}
use Rattle.tlv.proofs.Usable.{from, At}
use Rattle.tlv_value.proofs.value.gather.Given as goal

abbrev pub invariant-loop-slot : goal.invariant-loop-slot
invariant-loop-slot l = record {
  here : At l.table l.at.0 l.walk.end.0;
  long : length l.slot-items ≡ l.n;
  gathers : take l.slot-index l.slot-items ++ overwrite (map (byte l.image) (take (l.n - l.slot-index) (from l.table l.at.0 l.walk.end.0))) (drop l.slot-index l.slot-items) ≡ overwrite (map (byte l.image) (take l.n (from l.table l.initial.at.0 l.walk.end.0))) l.initial.slot-items;
}
