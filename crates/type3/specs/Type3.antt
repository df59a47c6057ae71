-- Type 3 as a type of tag, for the IDm that the caller states.
-- Assumes nothing.
use Rattle.std.specs.Prelude.{true, List, ℕ}
use Rattle.tag.specs.Bytes.{byte}
use Rattle.tag.specs.TagType.{TagType}
use Rattle.type3.specs.AttributeInformation.{nmaxb_of}
use Rattle.type3.specs.Message.{reading}
use Rattle.type3.specs.Update.{plan}
use Rattle.type3.specs.Codec.{decode, command_of, span, encoded}

-- commands are read by Nbw and Nmaxb of the tag handed in
abbrev pub type3 : List ℕ → TagType
type3 idm = record {
  reading = reading;
  -- no block is too small
  blocks_suffice = λ i. true;
  plan = plan;
  command = λ i bytes. command_of (decode idm (byte i 2) (nmaxb_of i) bytes);
  span = λ i. span;
  encoded = encoded idm;
}
