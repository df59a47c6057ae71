-- The areas that control TLVs declare. Whatever comes after the TLV skips their addresses.
-- Assumes nothing.
use Rattle.std.specs.Prelude.{Bool, true, false, ◌&&◌, ◌||◌, cond, List, [], ◌∷◌, ℕ, ◌+◌, ◌*◌, ◌/◌, ◌%◌, ◌^◌, leb, ltb, eqb}

-- which control TLV: 01h lock control, 02h memory control
pub data Control : Type 0 where
  lock memory : Control

pub record Area : Type 0 where
  pub start : ℕ
  pub size : ℕ

-- which areas may be declared, given the data area's first address and the image's length. Any area may, even one outside the
-- image. A stricter rule goes here: only `allowed` of the code and the specimens look inside.
unfoldable pub allowed_area : ℕ → ℕ → Area → Bool
allowed_area first n r = true

abbrev pub covers : Area → ℕ → Bool
covers r a = leb r.start a && ltb a (r.start + r.size)

-- the usable addresses (the requirements' word) that the area leaves
unfoldable pub without : Area → List ℕ → List ℕ
without r [] = []
without r (a ∷ us) = elim (covers r a) [ true ↦ without r us | false ↦ a ∷ without r us ]

-- is a nibble of the value's last byte reserved: the low one if it is 0; for lock control the high one too if it is 0
abbrev pub reserved : Control → ℕ → Bool
reserved lock b2 = eqb (b2 % 16) 0 || eqb (b2 / 16) 0
reserved memory b2 = eqb (b2 % 16) 0

-- size byte 00h means 256
abbrev pub full_size : ℕ → ℕ
full_size b1 = cond (eqb b1 0) 256 b1

-- in bytes for memory control; in bits for lock control, rounded up to bytes
abbrev pub area_size : Control → ℕ → ℕ
area_size lock b1 = (full_size b1 + 7) / 8
area_size memory b1 = full_size b1

-- the area of a value b0 b1 b2: it starts at page·2^p + offset, where b0 is page and offset and the low nibble of b2 is p
abbrev pub area_of : Control → ℕ → ℕ → ℕ → Area
area_of c b0 b1 b2 = record { start = (b0 / 16) * 2 ^ (b2 % 16) + b0 % 16; size = area_size c b1 }
