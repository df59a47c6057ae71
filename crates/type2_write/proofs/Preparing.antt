-- What was prepared for a tag: a refusal is the one that writing gives; otherwise the list made from what was prepared is the plan's.
-- Assumes nothing.
use mathlib.Core.Path.{◌≡◌, refl, sym, ap, ◌∙◌}
use mathlib.Core.Bool.{Bool}
use mathlib.Core.List.{List}
use Prim.Native.Nat.{ℕ, ◌*◌, ◌/◌}
use native.Mathlib.Omega.{arith}
use lib.Dec.{eqb}
use lib.ListN.{length, length-set}
use Rattle.tag.specs.Bytes.{byte}
use Rattle.tag.specs.Checks.{fault, first_of}
use Rattle.tag.specs.TagType.{refused_output, written, write_by, write}
use Rattle.tag.proofs.Images.{length-overlay}
use Rattle.tag.proofs.Blocks.{Blockwise}
use Rattle.tlv_tag.specs.Update.{tlv_bytes, length_at, plan_by}
use Rattle.tlv_tag.specs.Views.Space.{no_space, space, space_of}
use Rattle.tlv_tag.specs.Views.Reading.{area_located}
use Rattle.tlv_tag.specs.Views.Update.{Prepared}
use Rattle.type2.specs.Memory.{memory}
use Rattle.type2.specs.Type2.{type2}
use Rattle.type2.specs.Views.Container.{Inside}
use Rattle.type2.proofs.Memory.{whole-blocks}
use Rattle.type2.proofs.Deciding.{refused-writing, no-space-writing, space-writing}
use Rattle.one_block_write.specs.Views.Listing.{guarded_output, Listed}
use Rattle.one_block_write.proofs.Plans.{plan-output}
use Rattle.type2_write.specs.Views.Listing.{front, shut_bytes}
use Rattle.type2_write.proofs.Shutting.{length-shut}

-- ---- the list

module _ (us i m new : List ℕ) (first : ℕ) (p : Prepared us i m new first) (whole : length i ≡ 4 * (length i / 4)) where
  blockwise : Blockwise (plan_by 4 us i m) i
  blockwise = record {
    some_size = omega arith;
    some_width = omega arith;
    whole = whole;
    inside = omega (arith, p.first_is, p.inside, whole);
    closed-length = length-set i (length_at us) 0;
  }

  -- the list is the plan's
  prepared-output : (room : ℕ)
      → guarded_output room front 4 i new (first / 4) (shut_bytes i first) (eqb (byte i first) 0x00) ≡ write_by type2 room i (written (plan_by 4 us i m))
  prepared-output room =
      ap (λ f. guarded_output room front 4 i new (f / 4) (shut_bytes i f) (eqb (byte i f) 0x00)) p.first_is
      ∙ plan-output type2 front (plan_by 4 us i m) i new (shut_bytes i (length_at us)) (λ s l. refl) blockwise refl p.new_is refl room

-- ---- by what was found

pub unread-output : (i m : List ℕ) (r room : ℕ) → first_of (memory.checks i) ≡ fault r → write type2 room i m ≡ refused_output r
unread-output i m r room e = ap (write_by type2 room i) (refused-writing i m e)

module _ (i m : List ℕ) (end : ℕ) (w : Bool) (h : Inside i end w) where
  pub refused-output : (r room : ℕ) → no_space r ≡ space_of w (length m) (area_located i 16 end) → write type2 room i m ≡ refused_output r
  refused-output r room e = ap (write_by type2 room i) (no-space-writing i m end w h r e)

  -- the new image, and the address of the first length byte
  module _ (new : List ℕ) (first : ℕ) (us : List ℕ) (there : space us ≡ space_of w (length m) (area_located i 16 end)) (p : Prepared us i m new first) where
    whole : length i ≡ 4 * (length i / 4)
    whole = omega (arith, whole-blocks i h.sound)

    pub listed : Listed front 4 i new (first / 4) (shut_bytes i first)
    listed =
        let as_long : length new ≡ length i = ap length p.new_is ∙ length-overlay us (tlv_bytes m) i in
        record {
          some_size = omega arith;
          short = omega arith;
          as_long = as_long;
          whole = omega (arith, whole);
          few = omega (arith, h.short);
          inside = omega (arith, whole, p.inside);
          shut_whole = length-shut i first (omega (arith, whole, p.inside));
        }

    pub output : (room : ℕ) → guarded_output room front 4 i new (first / 4) (shut_bytes i first) (eqb (byte i first) 0x00) ≡ write type2 room i m
    output room = prepared-output us i m new first p whole room ∙ ap (write_by type2 room i) (sym (space-writing i m end w h us there))
