-- The search for the next usable address: which addresses it tests. The contract of `table::search` bounds their number;
-- `BoundReached` claims that no lower bound holds, and `proofs/Nested.antt` proves it.
-- Assumes nothing.
use Rattle.std.specs.Prelude.{◌≡◌, cond, List, [], ◌∷◌, ℕ, zero, suc, ◌+◌, ◌-◌, ltb, eqb, length}
use Rattle.tag.specs.Bytes.{byte}
use Rattle.tlv.specs.Views.Counted.{TableOf}

-- the addresses that a search from a on tests, in their order: from a skipped address it goes to the end in its entry. Each lies past
-- the one before it, so as much fuel as there are addresses up to end is enough.
unfoldable pub tests : List ℕ → ℕ → ℕ → ℕ → List ℕ
tests table end zero a = []
tests table end (suc fuel) a = cond (ltb a end) (a ∷ cond (eqb (byte table a) 0) [] (tests table end fuel (byte table a))) []

-- a table of n areas, and a search there that tests n + 1 addresses
pub record Reached (n : ℕ) : Type 0 where
  pub table : List ℕ
  pub end : ℕ
  pub at : ℕ
  pub areas : TableOf end n table
  pub tested : length (tests table end (end - at) at) ≡ n + 1

abbrev pub BoundReached : Type 0
BoundReached = (n : ℕ) → Reached n
