-- Which refusal writing gives, or which plan it has, given what the code found: the capability container, then the space for the
-- message.
-- Assumes nothing.
use mathlib.Core.Path.{◌≡◌, sym, ap, ◌∙◌}
use mathlib.Core.Bool.{Bool}
use mathlib.Core.List.{List}
use Prim.Native.Nat.{ℕ}
use lib.ListN.{length}
use Rattle.tag.specs.Checks.{fault, first_of}
use Rattle.tag.specs.TagType.{refused_write, written, writing}
use Rattle.tlv_tag.specs.Message.{Located, refuse, locate}
use Rattle.tlv_tag.specs.Update.{plan_by}
use Rattle.tlv_tag.specs.Views.Space.{no_space, space, space_of}
use Rattle.tlv_tag.specs.Views.Reading.{area_located}
use Rattle.tlv_tag.proofs.Planning.{writing_in, writing-space}
use Rattle.type2.specs.Memory.{memory}
use Rattle.type2.specs.Codec.{encoded}
use Rattle.type2.specs.Type2.{command, span, type2}
use Rattle.type2.specs.Views.Container.{Inside}
use Rattle.type2.proofs.Reading.{fault_located, inside_located}

by-location : (i m : List ℕ) (v : Located) → locate memory i ≡ v
    → writing type2 i m ≡ writing_in 4 i m (space_of (memory.writable i) (length m) v)
by-location i m v e =
    writing-space memory command span encoded i m
    ∙ ap (λ x. writing_in 4 i m (space_of (memory.writable i) (length m) x)) e

-- a check fails
pub refused-writing : (i m : List ℕ) {r : ℕ} → first_of (memory.checks i) ≡ fault r → writing type2 i m ≡ refused_write r
refused-writing i m {r} e = by-location i m (refuse r) (fault_located i e)

module _ (i m : List ℕ) (end : ℕ) (w : Bool) (h : Inside i end w) where
  inside-writing : writing type2 i m ≡ writing_in 4 i m (space_of w (length m) (area_located i 16 end))
  inside-writing =
      by-location i m (area_located i 16 end) (inside_located i h)
      ∙ ap (λ b. writing_in 4 i m (space_of b (length m) (area_located i 16 end))) (sym h.access)

  pub no-space-writing : (r : ℕ) → no_space r ≡ space_of w (length m) (area_located i 16 end) → writing type2 i m ≡ refused_write r
  no-space-writing r e = inside-writing ∙ ap (writing_in 4 i m) (sym e)

  pub space-writing : (us : List ℕ) → space us ≡ space_of w (length m) (area_located i 16 end) → writing type2 i m ≡ written (plan_by 4 us i m)
  space-writing us e = inside-writing ∙ ap (writing_in 4 i m) (sym e)
