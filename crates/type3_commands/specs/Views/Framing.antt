-- Bytes that may be a command, as the code tests them: the parts of a command that was read, what framed bytes are, and what writing
-- a command requires.
-- Assumes nothing.
use Rattle.std.specs.Prelude.{Bool, true, false, ◌≡◌, List, map, ℕ, ◌+◌, ◌*◌, ◌<◌, ◌≤◌, length, get_or, Option, Some, None}
use Rattle.tag.specs.Bytes.{byte}
use Rattle.tag.specs.Refusals.{positioned, malformed_command}
use Rattle.type3.specs.Codec.{Decoded, undecoded, decoded}
use Rattle.type3_commands.specs.declared.listed.Listed.{Listed}
use Rattle.type3_commands.specs.Views.InPlace.{number}

-- was a command read
abbrev pub is_command : Decoded → Bool
is_command (undecoded r) = false
is_command (decoded bs bytes) = true

-- the parts of a command as the definition has it
abbrev pub listed_as : Option Listed → Decoded
listed_as None = undecoded (positioned malformed_command 0)
listed_as (Some l) = decoded (map number l.elements.now) l.blockdata.now

-- a command's bytes have the length that their count says, for at most eight blocks
pub record Framed (bytes : List ℕ) : Type 0 where
  pub few : byte bytes 12 ≤ 8
  pub whole : length bytes ≡ 13 + 18 * byte bytes 12

-- what writing a command's bytes requires: sixteen bytes for each block, block numbers that are bytes, and the command's length
pub record PutAsked (blocks carried bytes : List ℕ) : Type 0 where
  pub few : length blocks ≤ 8
  pub each_byte : (i : ℕ) → i < length blocks → get_or blocks i 0 ≤ 255
  pub blockdata : length carried ≡ 16 * length blocks
  pub room : length bytes ≡ 13 + 18 * length blocks
