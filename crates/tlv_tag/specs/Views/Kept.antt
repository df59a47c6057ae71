-- Where the bytes to set lie, as the code knows it.
-- Assumes nothing.
use Rattle.std.specs.Prelude.{◌≡◌, not, List, ℕ, ◌-◌, ◌≤◌, length}
use Rattle.tag.specs.Bytes.{is_set}
use Rattle.tlv.specs.Views.Table.{none_skipped, usable_in}
use Rattle.tlv_tag.specs.declared.extent.Extent.{Extent}
use Rattle.tlv_tag.specs.Views.Update.{tlv_bytes_length}

-- the extent lies inside the table and below `end`, and `skips` says whether an address in it is skipped
pub record Bounded (table : List ℕ) (end : ℕ) (e : Extent) : Type 0 where
  pub ordered : e.first.0 ≤ e.stop.0
  pub below : e.stop.0 ≤ end
  pub in_table : e.stop.0 ≤ length table
  pub skips_is : e.skips ≡ not (none_skipped table e.first.0 (e.stop.0 - e.first.0))

-- its usable addresses are exactly those of us that a message of n bytes sets
abbrev pub Extends : List ℕ → List ℕ → ℕ → Extent → Type 0
Extends table us n e = (vs : List ℕ) (a : ℕ) → length vs ≡ tlv_bytes_length n → is_set us vs a ≡ usable_in table e.first.0 e.stop.0 a
