-- A tag with a TLV area as a type of tag, whatever its commands look like.
-- Assumes nothing.
use Rattle.std.specs.Prelude.{true, List, ℕ}
use Rattle.tag.specs.Stores.{Store, Command}
use Rattle.tag.specs.TagType.{TagType}
use Rattle.tlv_tag.specs.Message.{TlvTag, reading}
use Rattle.tlv_tag.specs.Update.{plan}

-- given its TLV area and its commands: what command the tag handed in takes bytes for, how many bytes of a list one command takes,
-- and the bytes of a command
abbrev pub tag_of : TlvTag → (List ℕ → List ℕ → Command) → (List ℕ → List ℕ → ℕ) → (List Store → List ℕ) → TagType
tag_of K command span encoded = record {
  reading = reading K;
  -- no block is too small
  blocks_suffice = λ i. true;
  plan = plan K;
  command = command;
  span = span;
  encoded = encoded;
}
