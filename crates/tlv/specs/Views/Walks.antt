-- The code's walk as the definitions have it: its state is the list of the usable addresses still to come.
-- Assumes nothing.
use Rattle.std.specs.Prelude.{◌≡◌, Bool, List, ℕ, ◌+◌, ◌-◌, ◌<◌, ◌≤◌, length, Option, Some, None}
use Rattle.tag.specs.declared.Address.{Address}
use Rattle.tlv.specs.declared.walk.Walk.{Walk}
use Rattle.tlv.specs.Areas.{Area, allowed_area}
use Rattle.tlv.specs.Walk.{Taken, none, took}
use Rattle.tlv.specs.Views.Table.{unskipped}
use Rattle.tlv.specs.Views.Counted.{Added, TableOf, MadeByAreas}

-- the usable addresses still to come
abbrev pub ahead : List ℕ → Walk → List ℕ
ahead table w = unskipped table w.at.0 (w.end.0 - w.at.0)

-- which areas may be declared on the way through a data area from first on
abbrev pub rule_of : List ℕ → Address → Area → Bool
rule_of image first = allowed_area first.0 (length image)

-- the walk lies inside the table, and the table is that of as many areas as the walk counts
pub record Within (table : List ℕ) (w : Walk) : Type 0 where
  pub ordered : w.at.0 ≤ w.end.0
  pub in_table : w.end.0 ≤ length table
  pub short : length table ≤ 1024
  -- declaring an area takes bytes
  pub few : w.areas ≤ w.at.0
  pub declared : TableOf w.end.0 w.areas table

-- the walk lies inside the table, and areas made the table; the walk may count another number of them
pub record InTable (table : List ℕ) (w : Walk) : Type 0 where
  pub ordered : w.at.0 ≤ w.end.0
  pub in_table : w.end.0 ≤ length table
  pub made : MadeByAreas table

-- the walk has moved on from v, over bytes alone
pub record Moved (v w : Walk) : Type 0 where
  pub farther : v.at.0 ≤ w.at.0
  pub ordered : w.at.0 ≤ w.end.0
  pub same_end : w.end.0 ≡ v.end.0
  pub same_areas : w.areas ≡ v.areas

-- the walk has moved on from v and lies inside the table; n areas were declared on the way, and they turned t into u
pub record Onward (t u : List ℕ) (n : ℕ) (v w : Walk) : Type 0 where
  pub within : Within u w
  pub farther : v.at.0 ≤ w.at.0
  pub same_end : w.end.0 ≡ v.end.0
  pub counted : w.areas ≡ v.areas + n
  pub added : Added v.at.0 v.end.0 n t u

-- no area was declared on the way
abbrev pub Along : List ℕ → Walk → Walk → Type 0
Along table v w = Onward table table 0 v w

-- some areas were declared on the way, as many as the walk has counted
abbrev pub Walked : List ℕ → List ℕ → Walk → Walk → Type 0
Walked t u v w = (n : ℕ) × Onward t u n v w

-- a byte taken: its value, its address, and the walk past it
abbrev pub taken_as : List ℕ → Option (ℕ × Address × Walk) → Taken
taken_as table None = none
taken_as table (Some p) = took p.0 p.1.0 (ahead table p.2)

abbrev pub TakenMoved : Walk → Option (ℕ × Address × Walk) → Type 0
TakenMoved v None = Unit {0}
TakenMoved v (Some p) = Moved v p.2 × (v.at.0 ≤ p.1.0) × (p.1.0 < p.2.at.0)

abbrev pub TakenPlaced : List ℕ → Walk → Option (ℕ × Address × Walk) → Type 0
TakenPlaced table v None = Unit {0}
TakenPlaced table v (Some p) = Along table v p.2 × (v.at.0 ≤ p.1.0) × (p.1.0 < p.2.at.0)
