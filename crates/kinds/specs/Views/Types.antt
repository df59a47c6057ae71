-- The type of tag that a kind stands for, and what the kind says of the tag handed in.
-- Assumes nothing.
use Rattle.std.specs.Prelude.{◌≡◌, List, ℕ, ◌+◌, ◌*◌, ◌<◌, ◌≤◌, length}
use Rattle.tag.specs.Bytes.{byte}
use Rattle.tag.specs.TagType.{TagType}
use Rattle.type2.specs.Type2.{type2}
use Rattle.type2.specs.Views.Kept.{Covered}
use Rattle.type3.specs.AttributeInformation.{nmaxb_of}
use Rattle.type3.specs.Type3.{type3}
use Rattle.type6.specs.Container.{tag_block_size, block_count, file_by}
use Rattle.type6.specs.Type6.{type6}
use Rattle.kinds.specs.declared.Kind.{Kind}
use Rattle.kinds.specs.declared.Kind.TheVariants as kind

-- the type of tag, with the IDm that the caller states
abbrev pub type_of : Kind → List ℕ → TagType
type_of (kind.Type2 e) idm = type2
type_of (kind.Type3 nbw nmaxb) idm = type3 idm
type_of (kind.Type6 size blocks) idm = type6

-- Nbw and Nmaxb are those of the tag, whose blocks lie in the image
pub record AttributesKnown (i : List ℕ) (nbw nmaxb : ℕ) : Type 0 where
  pub nbw_is : nbw ≡ byte i 2
  pub nmaxb_is : nmaxb ≡ nmaxb_of i
  pub reach : 16 * (1 + nmaxb) ≤ length i
  pub most : length i ≤ 4096

-- the block size and the number of blocks are those of the tag, whose blocks make up the image
pub record ContainerKnown (i : List ℕ) (size blocks : ℕ) : Type 0 where
  pub size_is : size ≡ tag_block_size i
  pub blocks_are : blocks ≡ block_count i
  pub some_size : 0 < size
  pub small : size ≤ 32
  pub whole : size * blocks ≡ length i
  pub short : length i ≤ 8192

-- what the kind says of the tag handed in, whatever the message
abbrev pub Attested : Kind → List ℕ → Type 0
Attested (kind.Type2 e) i = length i ≤ 1024
Attested (kind.Type3 nbw nmaxb) i = AttributesKnown i nbw nmaxb
Attested (kind.Type6 size blocks) i = ContainerKnown i size blocks

-- what determines the protected addresses for a message. Type 2: the kind and the skip table say where the bytes to set lie. Types
-- 3 and 6: the message fits
abbrev pub Protects : Kind → List ℕ → List ℕ → List ℕ → Type 0
Protects (kind.Type2 e) i m table = Covered i m table e
Protects (kind.Type3 nbw nmaxb) i m table = length m ≤ 16 * nmaxb
Protects (kind.Type6 size blocks) i m table = file_by size + (2 + length m) ≤ length i
