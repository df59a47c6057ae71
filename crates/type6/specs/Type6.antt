-- Type 6 as a type of tag.
-- Assumes nothing.
use Rattle.std.specs.Prelude.{List, ℕ, ◌+◌}
use Rattle.tag.specs.Stores.{Command}
use Rattle.tag.specs.TagType.{TagType}
use Rattle.type6.specs.Container.{tag_block_size, block_count}
use Rattle.type6.specs.Message.{reading}
use Rattle.type6.specs.Update.{block_size_suffices, plan}
use Rattle.type6.specs.Codec.{decode, command_of, encoded}

-- a command read by the block size and the number of blocks
abbrev pub command_by : ℕ → ℕ → List ℕ → Command
command_by z blocks bytes = command_of z (decode z blocks bytes)

-- a command does not state its own length: the block size of the tag handed in does
abbrev pub type6 : TagType
type6 = record {
  reading = reading;
  blocks_suffice = block_size_suffices;
  plan = plan;
  command = λ i bytes. command_by (tag_block_size i) (block_count i) bytes;
  span = λ i bytes. 3 + tag_block_size i;
  encoded = encoded;
}
