-- The premises of the theorems can be met. A specimen tag of each type is ready for a message and meets the premises of the
-- theorems about refusal 11, and the walk finds the message TLV of the Type 2 specimen. Outside a Type 6 file there are addresses to
-- choose past byte 7, before the file and after it.
-- Assumes nothing.
use mathlib.Core.Path.{◌≡◌, refl}
use mathlib.Core.Bool.{Bool, true, false, ◌&&◌}
use mathlib.Core.Logic.{inl, inr}
use mathlib.Core.List.{List, [], ◌∷◌}
use Prim.Native.Nat.{ℕ}
use native.Mathlib.Omega.{arith}
use borrow.Author.Tests.{ltb-true}
use lib.Dec.{ltb}
use lib.ListN.{replicate}
use Rattle.tag.specs.Bytes.{run, Octets}
use Rattle.tag.specs.Reading.{empty, message}
use Rattle.tag.specs.Cuts.{Ready}
use Rattle.tag.proofs.Logic.{and_l, and_r}
use Rattle.tlv.specs.Areas.{without}
use Rattle.tlv.specs.Walk.{long_by, length_by, pass_value, area_by, control_by, found, find, message_tlv}
use Rattle.tlv_tag.specs.Message.{locate_by, locate, capacity_in, reading}
use Rattle.type2.specs.Memory.{layout}
use Rattle.type2.specs.Type2.{type2}
use Rattle.type3.specs.Message as message3
use Rattle.type3.specs.Type3.{type3}
use Rattle.type6.specs.Container.{size_by, container_blocks}
use Rattle.type6.specs.Message as message6
use Rattle.type6.specs.Type6.{type6}
use Rattle.demands.specs.Demand2.{Asked, Outside}
use Rattle.demands.specs.Questions.{small, tag3, tag6, card}

-- an empty tag of 64 bytes, and a message of three
pub ready-2 : Ready type2 (small (0x03 ∷ 0x00 ∷ 0xFE ∷ [])) (0xD0 ∷ 0x00 ∷ 0x00 ∷ [])
unfolding without long_by length_by pass_value area_by control_by find locate_by locate capacity_in reading
ready-2 = record {
  report = record { content = empty; bytes = []; address = 0; interrupted = false; writable = true; capacity = 46 };
  reads_as = refl;
  writable = refl;
  some_bytes = omega arith;
  large_blocks = refl;
  room = omega arith;
}

-- the Type 3 specimen of 35 bytes, and a message of the same three
pub ready-3 : Ready (type3 (replicate 8 0x00)) (tag3 0x00 0x46) (0xD0 ∷ 0x00 ∷ 0x00 ∷ [])
unfolding message3.announce_by message3.reading
ready-3 = record {
  report = record { content = message; bytes = replicate 35 0x00; address = 16; interrupted = false; writable = true; capacity = 208 };
  reads_as = refl;
  writable = refl;
  some_bytes = omega arith;
  large_blocks = refl;
  room = omega arith;
}

-- an empty Type 6 tag with blocks of 4 bytes, and the same message
pub ready-6 : Ready type6 (card []) (0xD0 ∷ 0x00 ∷ 0x00 ∷ [])
unfolding size_by container_blocks message6.reading
ready-6 = record {
  report = record { content = empty; bytes = []; address = 0; interrupted = false; writable = true; capacity = 118 };
  reads_as = refl;
  writable = refl;
  some_bytes = omega arith;
  large_blocks = refl;
  room = omega arith;
}

-- ---- whether a list is a list of bytes, by a test that computes

below : List ℕ → Bool
below [] = true
below (b ∷ bs) = ltb b 256 && below bs

below-octets : (bs : List ℕ) → below bs ≡ true → Octets bs
unfolding below
below-octets [] e = tt
below-octets (b ∷ bs) e = (ltb-true b 256 (and_l (ltb b 256) (below bs) e), below-octets bs (and_r (ltb b 256) (below bs) e))

pub asked-2 : Asked type2 (small (0x03 ∷ 0x00 ∷ 0xFE ∷ [])) (0xD0 ∷ 0x00 ∷ 0x00 ∷ [])
unfolding below
asked-2 = record {
  report = ready-2.report;
  reads_as = ready-2.reads_as;
  writable = ready-2.writable;
  some_bytes = ready-2.some_bytes;
  large_blocks = ready-2.large_blocks;
  image_octets = below-octets (small (0x03 ∷ 0x00 ∷ 0xFE ∷ [])) refl;
  message_octets = below-octets (0xD0 ∷ 0x00 ∷ 0x00 ∷ []) refl;
}

-- its message TLV: the type byte at 16, and 47 usable addresses after it
pub tlv-2 : message_tlv layout (small (0x03 ∷ 0x00 ∷ 0xFE ∷ [])) ≡ found 16 (run 17 47)
unfolding without long_by length_by pass_value area_by control_by find
tlv-2 = refl

pub asked-3 : Asked (type3 (replicate 8 0x00)) (tag3 0x00 0x46) (0xD0 ∷ 0x00 ∷ 0x00 ∷ [])
unfolding below
asked-3 = record {
  report = ready-3.report;
  reads_as = ready-3.reads_as;
  writable = ready-3.writable;
  some_bytes = ready-3.some_bytes;
  large_blocks = ready-3.large_blocks;
  image_octets = below-octets (tag3 0x00 0x46) refl;
  message_octets = below-octets (0xD0 ∷ 0x00 ∷ 0x00 ∷ []) refl;
}

pub asked-6 : Asked type6 (card []) (0xD0 ∷ 0x00 ∷ 0x00 ∷ [])
unfolding below
asked-6 = record {
  report = ready-6.report;
  reads_as = ready-6.reads_as;
  writable = ready-6.writable;
  some_bytes = ready-6.some_bytes;
  large_blocks = ready-6.large_blocks;
  image_octets = below-octets (card []) refl;
  message_octets = below-octets (0xD0 ∷ 0x00 ∷ 0x00 ∷ []) refl;
}

-- six blocks of 3 bytes, MAX_LEN 2: the file lies from 9 to 14, so that 8 and 15 are outside
pub outside-6 : Outside (tag6 18 (0x05 ∷ 0x02 ∷ 0x00 ∷ 0x02 ∷ [])) 8 × Outside (tag6 18 (0x05 ∷ 0x02 ∷ 0x00 ∷ 0x02 ∷ [])) 15
unfolding size_by container_blocks
outside-6 = (inl (omega arith), inr (omega arith))
