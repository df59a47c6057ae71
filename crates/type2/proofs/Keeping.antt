-- Which bytes a Type 2 tag protects: all but the usable ones of the extent that the code worked out.
-- Assumes nothing.
use mathlib.Core.Path.{◌≡◌, sym, ap, ◌∙◌}
use mathlib.Core.Bool.{not}
use mathlib.Core.List.{List}
use Prim.Native.Nat.{ℕ}
use native.Mathlib.Omega.{arith}
use lib.ListN.{length}
use Rattle.tag.specs.Bytes.{run, is_set}
use Rattle.tag.specs.Judge.{equal_at, keeps, task}
use Rattle.tag.proofs.Keeping.{equal-same}
use Rattle.tlv.specs.declared.walk.Walk.{Walk}
use Rattle.tlv.specs.Views.Table.{usable_in}
use Rattle.tlv.specs.Views.Walks.{ahead}
use Rattle.tlv_tag.specs.declared.extent.Extent.{Extent}
use Rattle.tlv_tag.specs.Update.{tlv_bytes}
use Rattle.tlv_tag.specs.Views.Space.{Room}
use Rattle.tlv_tag.specs.Views.Kept.{Bounded, Extends}
use Rattle.tlv_tag.proofs.TlvBytes.{length-tlv-bytes}
use Rattle.type2.specs.Type2.{type2}
use Rattle.type2.specs.Views.Kept.{Covered}

pub covered : (i m table : List ℕ) (w : Walk) (e : Extent) → Room i table (length m) w → ahead table w ≡ (type2.plan i m).addresses
    → Extends table (ahead table w) (length m) e → Bounded table w.end.0 e → Covered i m table e
covered i m table w e room us extends b = record {
  bounded = record { ordered = b.ordered; below = omega (arith, b.below, room.in_image); in_table = b.in_table; skips_is = b.skips_is };
  sets_are = λ a. ap (λ vs. is_set vs (tlv_bytes m) a) (sym us) ∙ extends (tlv_bytes m) a (length-tlv-bytes m);
}

pub kept-is : (i m table j : List ℕ) (e : Extent) → Covered i m table e
    → equal_at (λ a. not (usable_in table e.first.0 e.stop.0 a)) i j (run 0 (length i)) ≡ keeps (task type2 i m) j
kept-is i m table j e k =
    equal-same (λ a. not (usable_in table e.first.0 e.stop.0 a)) _ i j 0 (length i) (λ a l u. ap not (sym (k.sets_are a)))
