-- The answers of the walk's steps as the definitions have them, and what callers rely on: how far the walk is, and how the skip
-- table has changed.
-- Assumes nothing.
use Rattle.std.specs.Prelude.{◌≡◌, List, ℕ, ◌≤◌, Option, Some, None, Result, Ok, Err}
use Rattle.tlv.specs.declared.walk.Walk.{Walk}
use Rattle.tag.specs.declared.refusals.Refusal.{Refusal}
use Rattle.tag.specs.Answers.{number_of}
use Rattle.tlv.specs.Walk.{Length, bad, len, Passed, more, stop}
use Rattle.tlv.specs.Views.Walks.{ahead, Moved, Onward, Along}

-- ---- length fields

abbrev pub field_as : List ℕ → Option (ℕ × Walk) → Length
field_as table None = bad
field_as table (Some p) = len p.0 (ahead table p.1)

abbrev pub FieldMoved : Walk → Option (ℕ × Walk) → Type 0
FieldMoved v None = Unit {0}
FieldMoved v (Some p) = Moved v p.1 × (p.0 ≤ 65534)

abbrev pub FieldPlaced : List ℕ → Walk → Option (ℕ × Walk) → Type 0
FieldPlaced table v None = Unit {0}
FieldPlaced table v (Some p) = Along table v p.1 × (p.0 ≤ 65534)

-- ---- a TLV passed

abbrev pub passed_as : List ℕ → Result Walk Refusal → Passed
passed_as table (Err e) = stop (number_of e)
passed_as table (Ok w) = more (ahead table w)

-- a TLV that declares n areas; one that is refused declares none
abbrev pub PassedPlaced : List ℕ → List ℕ → ℕ → Walk → Result Walk Refusal → Type 0
PassedPlaced t u n v (Err e) = u ≡ t
PassedPlaced t u n v (Ok w) = Onward t u n v w
