-- Type 2 as a type of tag.
-- Assumes nothing.
use Rattle.std.specs.Prelude.{List, ℕ, ◌/◌, length}
use Rattle.tag.specs.Stores.{Command}
use Rattle.tag.specs.TagType.{TagType}
use Rattle.tlv_tag.specs.Tag.{tag_of}
use Rattle.type2.specs.Memory.{memory}
use Rattle.type2.specs.Codec.{decode, command_of, encoded}

-- a command is decoded with the number of blocks of the tag handed in
abbrev pub command : List ℕ → List ℕ → Command
command i bs = command_of (decode (length i / 4) bs)

-- it takes six bytes of a list
abbrev pub span : List ℕ → List ℕ → ℕ
span i bs = 6

abbrev pub type2 : TagType
type2 = tag_of memory command span encoded
