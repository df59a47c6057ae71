-- Writing a message to a tag that has a TLV area: which bytes are set, and 01's own words for what fits.
-- Assumes nothing.
use Rattle.std.specs.Prelude.{cond, ◌⊎◌, List, [], ◌∷◌, ◌++◌, ℕ, ◌+◌, ◌/◌, ◌%◌, ◌≤◌, leb, eqb, length, get_or, set}
use Rattle.tag.specs.Bytes.{byte}
use Rattle.tag.specs.Plan.{Plan}
use Rattle.tlv_tag.specs.Message.{TlvTag, Located, refuse, located, locate}

-- the usable addresses after the type byte
abbrev pub usable : Located → List ℕ
usable (refuse r) = []
usable (located us ms) = us

-- a length n fits (the requirements' word) in u usable bytes, as 01 puts it. No definition uses it: the capacity decides, and it is
-- proved that the two agree
abbrev pub FitsIn : ℕ → ℕ → Type 0
FitsIn u n = ((n ≤ 254) × (1 + n ≤ u)) ⊎ ((255 ≤ n) × (3 + n ≤ u))

-- the length in its shortest form
unfoldable pub length_field : ℕ → List ℕ
length_field n = cond (leb n 254) (n ∷ []) (0xFF ∷ n / 256 ∷ n % 256 ∷ [])

-- the bytes to set, at the usable addresses in order: length, message, and FEh if an address is left for it
abbrev pub tlv_bytes : List ℕ → List ℕ
tlv_bytes m = length_field (length m) ++ (m ++ 0xFE ∷ [])

-- the address of the first length byte
abbrev pub length_at : List ℕ → ℕ
length_at us = get_or us 0 0

-- the guard block, 01's A, is the block of the first length byte; it is shut with that byte 00h, and shut already if the byte is 00h
abbrev pub plan_by : ℕ → List ℕ → List ℕ → List ℕ → Plan
plan_by z us i m = record {
  addresses = us;
  values = tlv_bytes m;
  block_size = z;
  width = 1;
  guard = length_at us / z;
  closed = set i (length_at us) 0x00;
  is_shut = eqb (byte i (length_at us)) 0x00;
}

abbrev pub plan : TlvTag → List ℕ → List ℕ → Plan
plan T i m = plan_by T.block_size (usable (locate T i)) i m
