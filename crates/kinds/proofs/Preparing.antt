-- What is known of a Type 2 tag in which space for the message was found: writing is not refused, and the addresses of the bytes to set.
-- Assumes nothing.
use mathlib.Core.Path.{◌≡◌, sym, ap, ◌∙◌}
use mathlib.Core.Bool.{Bool}
use mathlib.Core.List.{List}
use Prim.Native.Nat.{ℕ}
use lib.ListN.{length}
use Rattle.tag.specs.TagType.{written, writing}
use Rattle.tag.proofs.Laws.{written-ready}
use Rattle.tlv_tag.specs.Update.{plan_by}
use Rattle.tlv_tag.specs.Views.Space.{space, space_of}
use Rattle.tlv_tag.specs.Views.Reading.{area_located}
use Rattle.type2.specs.Type2.{type2}
use Rattle.type2.specs.Views.Container.{Inside}
use Rattle.type2.proofs.Deciding.{space-writing}

module _ (i m : List ℕ) (end : ℕ) (w : Bool) (h : Inside i end w) (us : List ℕ) (e : space us ≡ space_of w (length m) (area_located i 16 end)) where
  planned : writing type2 i m ≡ written (plan_by 4 us i m)
  planned = space-writing i m end w h us e

  plan-at : type2.plan i m ≡ plan_by 4 us i m
  plan-at = (written-ready type2 i m (plan_by 4 us i m) planned).1

  pub writing-at : writing type2 i m ≡ written (type2.plan i m)
  writing-at = planned ∙ ap written (sym plan-at)

  pub addresses-at : us ≡ (type2.plan i m).addresses
  addresses-at = sym (ap (λ p. p.addresses) plan-at)
