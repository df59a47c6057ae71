-- The contract of looking for the first URI, as a relation between a call's arguments and its results.
-- Assumes nothing.
use Rattle.std.specs.Prelude.{◌≡◌, List, ℕ, length, Result, Option}
use Rattle.tag.specs.declared.refusals.Refusal.{Refusal}
use Rattle.smart_poster.specs.First.{first, found_into, told_of, told_as}

-- the call, given a message and a buffer, answers r and leaves the buffer as out
abbrev pub FoundFirst : List ℕ → List ℕ → Result (Option ℕ) Refusal → List ℕ → Type 0
FoundFirst message buffer r out = (told_as r ≡ told_of (first (length buffer) message)) × (out ≡ found_into buffer (first (length buffer) message))
