-- The memory of a Type 2 tag, in blocks of 4 bytes. Bytes 12 to 15 are the capability container: magic number, version, size,
-- access. The data area is addresses 16 to 15 + 8·size. Lock bits are not consulted.
-- Assumes nothing.
use Rattle.std.specs.Prelude.{Bool, ◌&&◌, ◌||◌, List, [], ◌∷◌, ℕ, ◌+◌, ◌*◌, ◌%◌, leb, eqb, length}
use Rattle.tag.specs.Bytes.{byte}
use Rattle.tag.specs.Refusals.{image_size, not_ndef, unknown_version, bad_access, bad_data_area}
use Rattle.tag.specs.Checks.{Check, check}
use Rattle.tag.specs.Version.{known_version}
use Rattle.tlv.specs.Areas.{allowed_area}
use Rattle.tlv.specs.Walk.{Layout}
use Rattle.tlv_tag.specs.Message.{TlvTag}

-- a whole number of blocks, 64 to 1,024 bytes
abbrev pub image_length : ℕ → Bool
image_length n = eqb (n % 4) 0 && leb 64 n && leb n 1024

-- refusals 1 to 5, given the image's length and the bytes of the capability container
abbrev pub container_checks : ℕ → ℕ → ℕ → ℕ → ℕ → List Check
container_checks n magic version size access =
    check (image_length n) image_size
    ∷ check (eqb magic 0xE1) not_ndef
    ∷ check (known_version version) unknown_version
    ∷ check (eqb access 0x00 || eqb access 0x0F) bad_access
    ∷ check (leb (16 + 8 * size) n) bad_data_area
    ∷ []

-- the areas allowed are those of a data area from 16 on
abbrev pub layout : Layout
layout = record { first = 16; size = λ i. 8 * byte i 14; allowed = allowed_area 16 }

-- access 00h is writable, 0Fh read-only
abbrev pub memory : TlvTag
memory = record {
  layout = layout;
  checks = λ i. container_checks (length i) (byte i 12) (byte i 13) (byte i 14) (byte i 15);
  writable = λ i. eqb (byte i 15) 0x00;
  block_size = 4;
}
