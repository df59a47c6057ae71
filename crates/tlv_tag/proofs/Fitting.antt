-- The walk from the data area's start, and the room for a message behind the message TLV's type byte.
-- Assumes nothing.
use mathlib.Core.Path.{◌≡◌, sym, ap, ◌∙◌}
use mathlib.Core.List.{List}
use Prim.Native.Nat.{ℕ, ◌-◌, ◌≤◌}
use native.Mathlib.Omega.{arith}
use lib.ListN.{length, replicate, length-replicate}
use Rattle.tag.specs.Bytes.{run}
use Rattle.tlv.specs.declared.walk.Walk.{Walk}
use Rattle.tlv.specs.Areas.{allowed_area}
use Rattle.tlv.specs.Walk.{find}
use Rattle.tlv.specs.Views.Counted.{Added}
use Rattle.tlv.specs.Views.Walks.{ahead, Within}
use Rattle.tlv.proofs.Finding.{find-all}
use Rattle.tlv.proofs.Skipping.{unskipped-few}
use Rattle.tlv_tag.specs.Message.{capacity_in}
use Rattle.tlv_tag.specs.Views.Space.{Room}
use Rattle.tlv_tag.specs.Views.BlankArea.{BlankArea}
use Rattle.tlv_tag.proofs.Field.{fits-less}

-- a table of zeros, of a size that its maker names
pub blank_area : {i t : List ℕ} {first end : ℕ} (m : ℕ) → t ≡ replicate m 0 → m ≤ 1024 → first ≤ end → end ≤ m → end ≤ length i → BlankArea i t first end
blank_area {i} {t} m e short ordered inside in_image = record {
  ordered = ordered;
  in_table = omega (arith, size);
  in_image = in_image;
  short = omega (arith, size);
  zeros = e ∙ ap (λ n. replicate n 0) (sym size);
}
  where
    size : length t ≡ m
    size = ap length e ∙ length-replicate m 0

-- a walk that has not begun
abbrev pub Begins : ℕ → ℕ → Walk → Type 0
Begins first end w = (w.at.0 ≡ first) × (w.end.0 ≡ end) × (w.areas ≡ 0)

module _ (i t : List ℕ) (w : Walk) (first end : ℕ) (b : BlankArea i t first end) (s : Begins first end w) where
  pub begin-within : Within t w
  unfolding Added
  begin-within = record {
    ordered = omega (arith, b.ordered, s.0, s.1);
    in_table = omega (arith, b.in_table, s.1);
    short = b.short;
    few = omega (arith, s.2);
    declared = rw s.2 b.zeros;
  }

  pub found_all : find (allowed_area first (length i)) (w.end.0 - w.at.0) i (ahead t w) ≡ find (allowed_area first (length i)) (end - first) i (run first (end - first))
  found_all =
      let allowed = allowed_area first (length i) in
      ap (λ u. find allowed (w.end.0 - w.at.0) i (ahead u w)) b.zeros
      ∙ find-all allowed (length t) i w first (end - first) s.0 (omega (arith, s.1, b.ordered))

pub ruleset from_start = (begin-within, found_all)

-- a message that is not empty and is no longer than the capacity
pub room : (i t : List ℕ) (w : Walk) (n : ℕ) → w.end.0 ≤ length i → Within t w → (n ≡ 0 → ⊥) → n ≤ capacity_in (length (ahead t w)) → Room i t n w
room i t w n inside within some l = record {
  in_image = inside;
  within = within;
  enough = fits-less (length (ahead t w)) n some l;
  few = omega (arith, unskipped-few t w.at.0 (w.end.0 - w.at.0), within.in_table, within.short);
}
