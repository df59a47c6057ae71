-- The code's answer of `decode` as the definition has it, and the contracts of the codec as relations.
-- Assumes nothing.
use Rattle.std.specs.Prelude.{◌≡◌, List, ℕ, take, replicate, Result, Ok, Err, IfOk}
use Rattle.tag.specs.declared.refusals.Refusal as refusals
use Rattle.tag.specs.Bytes.{overwrite}
use Rattle.tag.specs.Refusals.{refusal_at}
use Rattle.tag.specs.Answers.{number_of}
use Rattle.tag.specs.PublicContracts.{PutOut}
use Rattle.type6.specs.declared.Command.{Command}
use Rattle.type6.specs.Codec.{encode, Decoded, undecoded, decoded, decode}

-- with blocks of z bytes; the position of a refusal is 0
abbrev pub decoded_as : ℕ → Result Command refusals.Refusal → Decoded
decoded_as z (Ok c) = decoded c.block.0 (take z c.bytes)
decoded_as z (Err e) = undecoded (refusal_at (number_of e) 0)

-- the command that was read: unused bytes of its array are zero, and with a refusal all of it is zero
abbrev pub command_as : Decoded → Command
command_as (undecoded r) = record { block = record { 0 = 0 }; bytes = replicate 32 0 }
command_as (decoded b bytes) = record { block = record { 0 = b }; bytes = overwrite bytes (replicate 32 0) }

-- `encode`, given the block size, the number of blocks, a command and a buffer, answers r and leaves the buffer as out
abbrev pub EncodedTo : ℕ → ℕ → Command → List ℕ → Result ℕ refusals.Refusal → List ℕ → Type 0
EncodedTo z blocks c buffer r out = PutOut (encode z blocks c.block.0 c.bytes) buffer r out

-- `decode`, given the block size, the number of blocks and bytes, answers d
abbrev pub DecodedTo : ℕ → ℕ → List ℕ → Result Command refusals.Refusal → Type 0
DecodedTo z blocks bytes d = (decoded_as z d ≡ decode z blocks bytes) × IfOk d (λ c. c ≡ command_as (decode z blocks bytes))
