-- The contracts of reading and writing records, as relations between a call's arguments and its results.
-- Assumes nothing.
use Rattle.std.specs.Prelude.{List, ℕ, Result}
use Rattle.tag.specs.declared.refusals.Refusal.{Refusal}
use Rattle.tag.specs.PublicContracts.{PutOut}
use Rattle.ndef.specs.Places.{read}
use Rattle.ndef.specs.Writing.{write}

-- reading, given a message and a table, answers r and leaves the table as out
abbrev pub ReadRecords : List ℕ → List ℕ → Result ℕ Refusal → List ℕ → Type 0
ReadRecords message table r out = PutOut (λ room. read message) table r out

-- writing, given a table, the bytes that its parts lie in, and a buffer, answers r and leaves the buffer as out
abbrev pub WroteRecords : List ℕ → List ℕ → List ℕ → Result ℕ Refusal → List ℕ → Type 0
WroteRecords table bytes buffer r out = PutOut (λ room. write room table bytes) buffer r out
