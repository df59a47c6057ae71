-- The code's command and the answer of `decode` as the definitions have them, and the codec's contracts as relations.
-- Assumes nothing.
use Rattle.std.specs.Prelude.{◌≡◌, List, map, ℕ, ◌*◌, length, take, replicate, Result, Ok, Err, IfOk}
use Rattle.tag.specs.declared.Block.{Block}
use Rattle.tag.specs.declared.refusals.Refusal.{Refusal}
use Rattle.tag.specs.Bytes.{overwrite}
use Rattle.tag.specs.Refusals.{refusal_at}
use Rattle.tag.specs.Answers.{number_of}
use Rattle.tag.specs.PublicContracts.{PutOut}
use Rattle.type3_commands.specs.declared.Command.{Command}
use Rattle.type3.specs.Codec.{encode, Decoded, undecoded, decoded, decode}

-- the numbers of blocks, and blocks by their numbers
abbrev pub block_numbers : List Block → List ℕ
block_numbers bs = map (λ b. b.0) bs

abbrev pub blocks_of : List ℕ → List Block
blocks_of ns = map (λ n. record { 0 = n }) ns

-- a refusal's position is 0
abbrev pub decoded_as : Result Command Refusal → Decoded
decoded_as (Err e) = undecoded (refusal_at (number_of e) 0)
decoded_as (Ok c) = decoded (take c.count (block_numbers c.blocks)) (take (16 * c.count) c.bytes)

-- the command that was read: unused entries of its arrays are zero, and without a command all of it is zero
abbrev pub command_as : Decoded → Command
command_as (undecoded r) = record { count = 0; blocks = blocks_of (replicate 8 0); bytes = replicate 128 0 }
command_as (decoded bs bytes) =
    record {
      count = length bs;
      blocks = blocks_of (overwrite bs (replicate 8 0));
      bytes = overwrite bytes (replicate 128 0);
    }

-- `encode`, given the IDm, Nbw, Nmaxb, a command and a buffer, answers r and leaves the buffer as out
abbrev pub EncodedTo : List ℕ → ℕ → ℕ → Command → List ℕ → Result ℕ Refusal → List ℕ → Type 0
EncodedTo idm nbw nmaxb c buffer r out = PutOut (encode idm nbw nmaxb c.count (block_numbers c.blocks) c.bytes) buffer r out

-- `decode`, given the IDm, Nbw, Nmaxb and bytes, answers r
abbrev pub DecodedTo : List ℕ → ℕ → ℕ → List ℕ → Result Command Refusal → Type 0
DecodedTo idm nbw nmaxb bytes r = (decoded_as r ≡ decode idm nbw nmaxb bytes) × IfOk r (λ c. c ≡ command_as (decode idm nbw nmaxb bytes))
