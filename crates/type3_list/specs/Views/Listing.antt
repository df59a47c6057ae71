-- The list as the code lays it: its commands, and what laying them requires.
-- Assumes nothing.
use Rattle.std.specs.Prelude.{Bool, cond, List, [], ◌∷◌, ◌++◌, ℕ, zero, suc, ◌+◌, ◌*◌, ◌/◌, ◌%◌, ◌<◌, ◌≤◌, length, take, drop}
use Rattle.tag.specs.Bytes.{byte}
use Rattle.type3.specs.AttributeInformation.{steady_sum}
use Rattle.type3.specs.Update.{ln_sum}
use Rattle.type3.specs.Codec.{command_bytes}
use Rattle.type3_list.specs.Views.Blocks.{blocks_bytes}

-- block 0 with this WriteFlag, this Ln and this checksum, all else as it is
abbrev pub attribute_information_block_by : List ℕ → ℕ → ℕ → ℕ → List ℕ
attribute_information_block_by i flag n s =
    byte i 0
    ∷ byte i 1
    ∷ byte i 2
    ∷ byte i 3
    ∷ byte i 4
    ∷ byte i 5
    ∷ byte i 6
    ∷ byte i 7
    ∷ byte i 8
    ∷ flag
    ∷ byte i 10
    ∷ n / 65536
    ∷ n / 256 % 256
    ∷ n % 256
    ∷ s / 256
    ∷ s % 256
    ∷ []

-- block 0 with this WriteFlag and this Ln, and its checksum
unfoldable pub attribute_information_block : List ℕ → ℕ → ℕ → List ℕ
attribute_information_block i flag n = attribute_information_block_by i flag n (steady_sum i + flag + ln_sum n)

abbrev pub attribute_command : List ℕ → List ℕ → ℕ → ℕ → List ℕ
attribute_command idm i flag n = command_bytes idm (0 ∷ []) (attribute_information_block i flag n)

-- the command for some of the message's blocks
abbrev pub message_command : List ℕ → List ℕ → List ℕ → List ℕ
message_command idm m bs = command_bytes idm bs (blocks_bytes m bs)

-- the first t commands for the blocks bs, w to a command, the last taking what remains
unfoldable pub message_commands : List ℕ → List ℕ → ℕ → List ℕ → ℕ → List ℕ
message_commands idm m w bs zero = []
message_commands idm m w bs (suc t) = message_commands idm m w bs t ++ message_command idm m (take w (drop (w * t) bs))

-- the command that shuts block 0, unless that is shut already, and its length
abbrev pub shut_command : List ℕ → List ℕ → ℕ → Bool → List ℕ
shut_command idm i ln is_shut = cond is_shut [] (attribute_command idm i 0x0F ln)

abbrev pub shut_length : Bool → ℕ
shut_length is_shut = cond is_shut 0 31

-- the list: block 0 shut, the blocks bs of the message, block 0 opened; and its length
abbrev pub list_as : List ℕ → List ℕ → List ℕ → ℕ → Bool → ℕ → ℕ → List ℕ → List ℕ
list_as idm i m ln is_shut w t bs =
    shut_command idm i ln is_shut ++ (message_commands idm m w bs t ++ attribute_command idm i 0x00 (length m))

abbrev pub list_length : Bool → ℕ → ℕ → ℕ
list_length is_shut t k = shut_length is_shut + (13 * t + 18 * k) + 31

-- k blocks dealt out to t commands, w to a command
pub record Dealt (k w t : ℕ) : Type 0 where
  pub few : k ≤ 255
  pub some_width : 0 < w
  pub most_width : w ≤ 8
  pub enough : k ≤ w * t
  pub none_idle : w * t < k + w
  pub most : t ≤ k
