-- Type 6's write command as bytes: 02h, the flags; 21h, the code; the block's number; the bytes of a block. The codec takes the block
-- size and the number of blocks of the tag.
-- Assumes nothing.
use Rattle.std.specs.Prelude.{Bool, ◌&&◌, cond, List, [], ◌∷◌, ℕ, ◌+◌, ◌*◌, ◌/◌, leb, ltb, eqb, length, take, drop}
use Rattle.tag.specs.Bytes.{byte}
use Rattle.tag.specs.Refusals.{Refusal, positioned, malformed_command}
use Rattle.tag.specs.Stores.{Store, Command, malformed, stores}
use Rattle.tag.specs.TagType.{Output, refused_output, fitted}

-- is there a tag with blocks of z bytes
abbrev pub size_defined : ℕ → Bool
size_defined z = leb 1 z && leb z 32

-- may a command name the block: it lies in the image, and its number fits a byte
abbrev pub nameable : ℕ → ℕ → Bool
nameable blocks b = ltb b blocks && leb b 255

abbrev pub command_bytes : ℕ → List ℕ → List ℕ
command_bytes b bytes = 0x02 ∷ 0x21 ∷ b ∷ bytes

-- the command of the first z of the bytes, written to a buffer with this much room: 20, then 12, else the number of bytes
abbrev pub encode : ℕ → ℕ → ℕ → List ℕ → ℕ → Output
encode z blocks b bytes room =
    cond (size_defined z && nameable blocks b) (fitted room (3 + z) (command_bytes b (take z bytes))) (refused_output malformed_command)

-- a command read: the block and its bytes, or a refusal
pub data Decoded : Type 0 where
  undecoded : Refusal → Decoded
  decoded : ℕ → List ℕ → Decoded

abbrev pub well_formed : ℕ → ℕ → List ℕ → Bool
well_formed z blocks bs =
    size_defined z && eqb (length bs) (3 + z) && eqb (byte bs 0) 0x02 && eqb (byte bs 1) 0x21 && nameable blocks (byte bs 2)

-- one command a call: 20 at position 0
unfoldable pub decode : ℕ → ℕ → List ℕ → Decoded
decode z blocks bs = cond (well_formed z blocks bs) (decoded (byte bs 2) (drop 3 bs)) (undecoded (positioned malformed_command 0))

-- what a command stores: one block
abbrev pub command_of : ℕ → Decoded → Command
command_of z (undecoded r) = malformed
command_of z (decoded b bytes) = stores (record { at = z * b; bytes = bytes } ∷ [])

-- the bytes of a command that stores one block, which is as long as its bytes
abbrev pub encoded : List Store → List ℕ
encoded [] = []
encoded (s ∷ ss) = command_bytes (s.at / length s.bytes) s.bytes
