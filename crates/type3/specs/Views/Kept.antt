-- Which addresses of a Type 3 tag writing sets. They depend only on the length of the message.
-- Assumes nothing.
use Rattle.std.specs.Prelude.{Bool, ◌&&◌, ◌||◌, ℕ, ◌+◌, ◌*◌, leb, ltb, eqb}
use Rattle.type3.specs.Update.{blocks_for}

-- WriteFlag, and everything from Ln to the end of the message's blocks
abbrev pub set_for : ℕ → ℕ → Bool
set_for n a = eqb 9 a || (leb 11 a && ltb a (16 + 16 * blocks_for n))
