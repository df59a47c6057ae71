-- The memory of a Type 3 tag: blocks of 16 bytes. Block 0 is the attribute information block: byte 0 is the version, 1 Nbr, 2 Nbw,
-- 3 and 4 Nmaxb, 5 to 8 reserved, 9 WriteFlag, 10 RWFlag, 11 to 13 Ln, 14 and 15 the sum of bytes 0 to 13; high byte first.
-- Assumes nothing.
use Rattle.std.specs.Prelude.{Bool, not, ◌&&◌, ◌||◌, List, [], ◌∷◌, ℕ, ◌+◌, ◌*◌, ◌%◌, leb, eqb}
use Rattle.tag.specs.Bytes.{byte}
use Rattle.tag.specs.Refusals.{image_size, not_ndef, unknown_version, bad_access, bad_data_area, bad_length}
use Rattle.tag.specs.Checks.{Check, check}
use Rattle.tag.specs.Version.{known_version}

-- the attribute information: the fields of block 0 as numbers
pub record AttributeInformation : Type 0 where
  pub version : ℕ
  pub nbr : ℕ
  pub nbw : ℕ
  pub nmaxb : ℕ
  pub write_flag : ℕ
  pub rw_flag : ℕ
  pub ln : ℕ
  -- the sum of bytes 0 to 13, and what bytes 14 and 15 say it is
  pub sum : ℕ
  pub checksum : ℕ

-- the sum of the bytes of block 0 that writing keeps: 0 to 8 and 10
abbrev pub steady_sum : List ℕ → ℕ
steady_sum i = byte i 0 + byte i 1 + byte i 2 + byte i 3 + byte i 4 + byte i 5 + byte i 6 + byte i 7 + byte i 8 + byte i 10

abbrev pub nmaxb_of : List ℕ → ℕ
nmaxb_of i = 256 * byte i 3 + byte i 4

-- the greatest length that fits: that of the blocks 1 to Nmaxb (02, E3)
abbrev pub capacity : List ℕ → ℕ
capacity i = 16 * nmaxb_of i

abbrev pub attribute_information : List ℕ → AttributeInformation
attribute_information i = record {
  version = byte i 0;
  nbr = byte i 1;
  nbw = byte i 2;
  nmaxb = nmaxb_of i;
  write_flag = byte i 9;
  rw_flag = byte i 10;
  ln = 65536 * byte i 11 + 256 * byte i 12 + byte i 13;
  sum = steady_sum i + byte i 9 + byte i 11 + byte i 12 + byte i 13;
  checksum = 256 * byte i 14 + byte i 15;
}

-- a whole number of blocks, 16 to 4,096 bytes
abbrev pub image_length : ℕ → Bool
image_length n = eqb (n % 16) 0 && leb 16 n && leb n 4096

-- WriteFlag is 00h or 0Fh, RWFlag 00h or 01h, and Nbr is not 0
abbrev pub flags_defined : AttributeInformation → Bool
flags_defined a =
    (eqb a.write_flag 0x00 || eqb a.write_flag 0x0F)
    && (eqb a.rw_flag 0x00 || eqb a.rw_flag 0x01)
    && not (eqb a.nbr 0)

-- refusals 1 to 5 and 7, by the image's length and the attribute information; 7 whatever WriteFlag says
abbrev pub attribute_checks : ℕ → AttributeInformation → List Check
attribute_checks n a =
    check (image_length n) image_size
    ∷ check (eqb a.sum a.checksum) not_ndef
    ∷ check (known_version a.version) unknown_version
    ∷ check (flags_defined a) bad_access
    ∷ check (leb (16 * (1 + a.nmaxb)) n) bad_data_area
    ∷ check (leb a.ln (16 * a.nmaxb)) bad_length
    ∷ []

-- RWFlag 01h and Nbw at least 1
abbrev pub may_write : List ℕ → Bool
may_write i = eqb (byte i 10) 0x01 && leb 1 (byte i 2)
