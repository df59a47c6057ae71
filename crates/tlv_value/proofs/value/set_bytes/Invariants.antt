-- The loop keeps: the place is a usable address or the end; setting the bytes still to come at the usable addresses from there on gives
-- the image that the contract asks for; and these addresses without those of the bytes still to set are the ones past all the bytes.
use Rattle.std.proofs.Common.{◌≡◌, ◌-◌, ◌≤◌, drop, length}
use Rattle.tag.specs.Bytes.{overlay}
use Rattle.tlv.proofs.Usable.{from, At}
use Rattle.tlv_value.proofs.value.set_bytes.Given as goal

abbrev pub invariant-loop-byte : goal.invariant-loop-byte
invariant-loop-byte l = record {
  here : At l.table l.at.0 l.walk.end.0;
  farther : l.initial.at.0 ≤ l.at.0;
  sets : overlay (from l.table l.at.0 l.walk.end.0) (drop l.byte-index l.bytes) l.image ≡ overlay (from l.table l.initial.at.0 l.walk.end.0) l.bytes l.initial.image;
  past : drop (length l.bytes - l.byte-index) (from l.table l.at.0 l.walk.end.0) ≡ drop (length l.bytes) (from l.table l.initial.at.0 l.walk.end.0);
}
