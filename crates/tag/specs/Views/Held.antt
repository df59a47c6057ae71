-- Reading a tag for what it holds, whatever its capacity. The judge reads this way after each command.
-- Assumes nothing.
use Rattle.std.specs.Prelude.{List, ℕ, Result, Option, Some, None}
use Rattle.tag.specs.declared.Report as report
use Rattle.tag.specs.declared.refusals.Refusal as refusals
use Rattle.tag.specs.Reading.{Reading, unreadable, reads, Held, nothing, holds}
use Rattle.tag.specs.PublicContracts.{ReadOf}

-- the same reading with another capacity
abbrev pub with_capacity : ℕ → Reading → Reading
with_capacity c (unreadable r) = unreadable r
with_capacity c (reads p) = reads (record {
  content = p.content;
  bytes = p.bytes;
  address = p.address;
  interrupted = p.interrupted;
  writable = p.writable;
  capacity = c;
})

-- a call answers r and leaves the gathering buffer as out: as for reading the tag, but the answer may have any capacity
abbrev pub ReadHeld : (List ℕ → Reading) → List ℕ → List ℕ → Result report.Report refusals.Refusal → List ℕ → Type 0
ReadHeld reading i buffer r out = (c : ℕ) × ReadOf (with_capacity c (reading i)) buffer r out

-- what a tag held, by the old message, if it had one
abbrev pub held_before : Option (List ℕ) → Held
held_before (Some old) = holds old
held_before None = nothing
