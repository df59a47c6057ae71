-- Type 2's write command as bytes: A2h, the block number, four bytes. The codec takes the number of blocks of the tag.
-- Assumes nothing.
use Rattle.std.specs.Prelude.{Bool, ◌&&◌, cond, List, [], ◌∷◌, ℕ, ◌*◌, ◌/◌, leb, ltb, eqb, length, drop}
use Rattle.tag.specs.Bytes.{byte}
use Rattle.tag.specs.Refusals.{Refusal, positioned, malformed_command}
use Rattle.tag.specs.Stores.{Store, Command, malformed, stores}
use Rattle.tag.specs.TagType.{Output, refused_output, fitted}

-- may a command name the block: it is at least 4, inside the image, and fits a byte
abbrev pub nameable : ℕ → ℕ → Bool
nameable blocks b = leb 4 b && ltb b blocks && leb b 255

abbrev pub command_bytes : ℕ → List ℕ → List ℕ
command_bytes b bytes = 0xA2 ∷ b ∷ bytes

-- the command written to a buffer with this much room: 20, then 12, else the number of bytes
abbrev pub encode : ℕ → ℕ → List ℕ → ℕ → Output
encode blocks b bytes room = cond (nameable blocks b) (fitted room 6 (command_bytes b bytes)) (refused_output malformed_command)

-- a command read: the block and its bytes, or a refusal
pub data Decoded : Type 0 where
  undecoded : Refusal → Decoded
  decoded : ℕ → List ℕ → Decoded

-- six bytes, A2h, and a block that may be named
abbrev pub well_formed : ℕ → List ℕ → Bool
well_formed blocks bs = eqb (length bs) 6 && eqb (byte bs 0) 0xA2 && nameable blocks (byte bs 1)

-- one command a call: 20 at position 0
unfoldable pub decode : ℕ → List ℕ → Decoded
decode blocks bs = cond (well_formed blocks bs) (decoded (byte bs 1) (drop 2 bs)) (undecoded (positioned malformed_command 0))

-- what a command stores: one block
abbrev pub command_of : Decoded → Command
command_of (undecoded r) = malformed
command_of (decoded b bytes) = stores (record { at = 4 * b; bytes = bytes } ∷ [])

-- the bytes of a command that stores one block
abbrev pub encoded : List Store → List ℕ
encoded [] = []
encoded (s ∷ ss) = command_bytes (s.at / 4) s.bytes
