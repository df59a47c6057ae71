-- Tests that run in order: the first that fails gives its refusal.
-- Assumes nothing.
use Rattle.std.specs.Prelude.{Bool, true, false, List, [], ◌∷◌, ℕ}

-- a test, and the refusal if it fails
pub record Check : Type 0 where
  pub passes : Bool
  pub refusal : ℕ

abbrev pub check : Bool → ℕ → Check
check b r = record { passes = b; refusal = r }

pub data Checked : Type 0 where
  fine : Checked
  fault : ℕ → Checked

-- the refusal of the first test that fails
abbrev pub first_of : List Check → Checked
first_of [] = fine
first_of (c ∷ cs) = elim c.passes [ true ↦ first_of cs | false ↦ fault c.refusal ]
