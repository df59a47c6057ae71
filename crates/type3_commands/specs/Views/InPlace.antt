-- A command's bytes read in place, as the code reads them. The block list lies from byte 13 on, two bytes for each element.
-- Assumes nothing.
use Rattle.std.specs.Prelude.{◌≡◌, Bool, ◌&&◌, List, map, ℕ, ◌+◌, ◌*◌, leb, eqb, length, take, drop}
use Rattle.std.specs.List.{list_all}
use Rattle.std.specs.Simd.{first_chunks}
use Rattle.tag.specs.Bytes.{byte, same}
use Rattle.type3_commands.specs.declared.listed.Listed.{Listed}
use Rattle.type3.specs.Update.{blocks_per_command}
use Rattle.type3.specs.Codec.{opening, Decoded, decoded}

-- does an element begin with 80h
abbrev pub is_begun : List ℕ → Bool
is_begun e = eqb (byte e 0) 0x80

-- the number of the block that an element lists
abbrev pub number : List ℕ → ℕ
number e = byte e 1

-- does each of the k elements at the front begin with 80h
abbrev pub well_begun : ℕ → List ℕ → Bool
well_begun k bytes = list_all is_begun (first_chunks 2 k bytes)

-- the numbers of the k blocks listed at the front
abbrev pub numbers : ℕ → List ℕ → List ℕ
numbers k bytes = map number (first_chunks 2 k bytes)

-- all that makes a command well formed, except which blocks it lists: the count b, the length, the opening, 80h in each element
unfoldable pub framed_by : List ℕ → ℕ → ℕ → List ℕ → Bool
framed_by idm nbw b bytes =
    leb 1 b && leb b (blocks_per_command nbw) && eqb (length bytes) (13 + 18 * b) && same (take 12 bytes) (opening idm) && well_begun b (drop 13 bytes)

abbrev pub framed : List ℕ → ℕ → List ℕ → Bool
framed idm nbw bytes = framed_by idm nbw (byte bytes 12) bytes

-- the blocks and the bytes that such a command carries
abbrev pub carried : List ℕ → Decoded
carried bytes = decoded (numbers (byte bytes 12) (drop 13 bytes)) (drop (13 + 2 * byte bytes 12) bytes)

-- the parts of such bytes: an element for each block, and the rest
pub record Splits (bytes : List ℕ) (l : Listed) : Type 0 where
  pub elements_are : l.elements.now ≡ first_chunks 2 (byte bytes 12) (drop 13 bytes)
  pub blockdata_is : l.blockdata.now ≡ drop (13 + 2 * byte bytes 12) bytes
