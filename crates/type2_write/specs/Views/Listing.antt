-- What is particular to Type 2 in the list that the code writes.
-- Assumes nothing.
use Rattle.std.specs.Prelude.{List, [], ◌∷◌, ℕ, ◌*◌, ◌/◌, set, take, drop}

-- the bytes of a command before the block's number
abbrev pub front : List ℕ
front = 0xA2 ∷ []

-- the bytes that the guard block is shut with: the image's, with the first length byte 00h
abbrev pub shut_bytes : List ℕ → ℕ → List ℕ
shut_bytes i first = take 4 (drop (4 * (first / 4)) (set i first 0x00))
