-- What is particular to Type 6 in the list that the code writes.
-- Assumes nothing.
use Rattle.std.specs.Prelude.{List, [], ◌∷◌, ℕ, take, drop}
use Rattle.type6.specs.Update.{closed_at}

-- the bytes of a command before the block's number: its flags and its code
abbrev pub front : List ℕ
front = 0x02 ∷ 0x21 ∷ []

-- the bytes that the guard block is shut with, in a file at f: the image's z bytes, with NLEN zero
abbrev pub shut_bytes : ℕ → ℕ → List ℕ → List ℕ
shut_bytes z f i = take z (drop f (closed_at f i))
