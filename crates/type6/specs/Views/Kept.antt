-- Which addresses of a Type 6 tag writing sets. They depend on where the file is and on the length of the message.
-- Assumes nothing.
use Rattle.std.specs.Prelude.{Bool, ◌&&◌, ℕ, ◌+◌, leb, ltb}

-- NLEN and the message of n bytes, in a file at f
abbrev pub set_for : ℕ → ℕ → ℕ → Bool
set_for f n a = leb f a && ltb a (f + (2 + n))
