-- Commands and what they store. A command stores whole blocks, but a store has an address, not a block number. The type of tag
-- turns a block's number into its first address, so nothing here depends on the block size.
-- Assumes nothing.
use Rattle.std.specs.Prelude.{Bool, true, false, List, [], ◌∷◌, ℕ, zero, suc}
use Rattle.std.proofs.lemmas.List.Edits.{sets}

-- bytes to store from an address on
pub record Store : Type 0 where
  pub at : ℕ
  pub bytes : List ℕ

-- a command is what it stores, or it is not well formed
pub data Command : Type 0 where
  malformed : Command
  stores : List Store → Command

-- is a command well formed
abbrev pub formed : Command → Bool
formed malformed = false
formed (stores ss) = true

-- an image after one store, and after several in order
abbrev pub put : List ℕ → Store → List ℕ
put j s = sets j s.at s.bytes

abbrev pub puts : List ℕ → List Store → List ℕ
puts j [] = j
puts j (s ∷ ss) = puts (put j s) ss

-- a tag after a command: its data stored, all else kept; a command that is not well formed stores nothing
abbrev pub tag_after : List ℕ → Command → List ℕ
tag_after j malformed = j
tag_after j (stores ss) = puts j ss

-- the tags that a command may leave behind; there is only one, with the whole command stored
abbrev pub states : List ℕ → List Store → List (List ℕ)
states j ss = puts j ss ∷ []

-- cut k of a list of commands (the requirements' word): the tag after the first k of them
abbrev pub cut : ℕ → List ℕ → List Command → List ℕ
cut zero j cs = j
cut (suc k) j [] = j
cut (suc k) j (c ∷ cs) = cut k (tag_after j c) cs
