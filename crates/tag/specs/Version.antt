-- Which versions of tags the library reads.
-- Assumes nothing.
use Rattle.std.specs.Prelude.{Bool, ℕ, ◌/◌, eqb}

-- is the major version, the high nibble of the version byte, 1 (02, E1)
abbrev pub known_version : ℕ → Bool
known_version v = eqb (v / 16) 1
