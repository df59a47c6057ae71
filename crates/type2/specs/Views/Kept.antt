-- Where the bytes to set lie on a Type 2 tag, as the code knows it.
-- Assumes nothing.
use Rattle.std.specs.Prelude.{◌≡◌, List, ℕ, length}
use Rattle.tag.specs.Bytes.{is_set}
use Rattle.tlv.specs.Views.Table.{usable_in}
use Rattle.tlv_tag.specs.declared.extent.Extent.{Extent}
use Rattle.tlv_tag.specs.Views.Kept.{Bounded}
use Rattle.type2.specs.Type2.{type2}

-- the usable addresses of the extent are exactly those that the plan sets
pub record Covered (i m table : List ℕ) (e : Extent) : Type 0 where
  pub bounded : Bounded table (length i) e
  pub sets_are : (a : ℕ) → is_set (type2.plan i m).addresses (type2.plan i m).values a ≡ usable_in table e.first.0 e.stop.0 a
