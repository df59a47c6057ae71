-- The code's answer of `decode` as the definition has it, and the contracts of the codec as relations.
-- Assumes nothing.
use Rattle.std.specs.Prelude.{◌≡◌, List, ℕ, Result, Ok, Err}
use Rattle.tag.specs.declared.refusals.Refusal as refusals
use Rattle.tag.specs.Refusals.{refusal_at}
use Rattle.tag.specs.Answers.{number_of}
use Rattle.tag.specs.PublicContracts.{PutOut}
use Rattle.type2.specs.declared.Command.{Command}
use Rattle.type2.specs.Codec.{encode, Decoded, undecoded, decoded, decode}

-- the command that was read; or the refusal, with position 0
abbrev pub decoded_as : Result Command refusals.Refusal → Decoded
decoded_as (Ok c) = decoded c.block.0 c.bytes
decoded_as (Err e) = undecoded (refusal_at (number_of e) 0)

-- `encode`, given the tag's number of blocks, a command and a buffer, answers r and leaves the buffer as out
abbrev pub EncodedTo : ℕ → Command → List ℕ → Result ℕ refusals.Refusal → List ℕ → Type 0
EncodedTo blocks c buffer r out = PutOut (encode blocks c.block.0 c.bytes) buffer r out

-- `decode`, given the tag's number of blocks and bytes, answers r
abbrev pub DecodedTo : ℕ → List ℕ → Result Command refusals.Refusal → Type 0
DecodedTo blocks bytes r = decoded_as r ≡ decode blocks bytes
