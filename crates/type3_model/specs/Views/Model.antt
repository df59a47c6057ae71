-- A Type 3 tag as a model: when an image takes a command.
-- Assumes nothing.
use Rattle.std.specs.Prelude.{cond, List, ℕ, ◌/◌, ltb}
use Rattle.tag.specs.Refusals.{positioned, malformed_command}
use Rattle.type3.specs.Codec.{Decoded, undecoded, decode}

-- a command read for an image of n bytes: 20 unless blocks 0 to Nmaxb lie in the image
abbrev pub decode_for : ℕ → List ℕ → ℕ → ℕ → List ℕ → Decoded
decode_for n idm nbw nmaxb bytes = cond (ltb nmaxb (n / 16)) (decode idm nbw nmaxb bytes) (undecoded (positioned malformed_command 0))
