-- The memory of a Type 6 tag: blocks of 1 to 32 bytes. The first of them hold the container, eight bytes. Bytes 0 to 2 are the letters
-- NDE, byte 3 is the version, 4 the number of blocks less one, 5 in its low five bits the block size less one, 6 the access, 7
-- MAX_LEN, in blocks. The file starts at the next block: NLEN, two bytes, low byte first; then the message.
-- Assumes nothing.
use Rattle.std.specs.Prelude.{Bool, ◌&&◌, ◌||◌, List, [], ◌∷◌, ℕ, suc, ◌+◌, ◌-◌, ◌*◌, ◌/◌, ◌%◌, leb, eqb, length, take}
use Rattle.tag.specs.Bytes.{byte, same}
use Rattle.tag.specs.Refusals.{image_size, not_ndef, unknown_version, bad_access, bad_data_area, bad_length}
use Rattle.tag.specs.Checks.{Check, check}

-- NDE
abbrev pub letters : List ℕ
letters = 0x4E ∷ 0x44 ∷ 0x45 ∷ []

-- the block size that a byte states; its top three bits are reserved
unfoldable pub size_by : ℕ → ℕ
size_by x = 1 + x % 32

abbrev pub tag_block_size : List ℕ → ℕ
tag_block_size i = size_by (byte i 5)

-- how many blocks the tag has; a byte states it, so that there are at most 256
abbrev pub block_count : List ℕ → ℕ
block_count i = 1 + byte i 4 % 256

-- how many blocks the container takes, with blocks of z bytes: 8/z, rounded up
unfoldable pub container_blocks : ℕ → ℕ
container_blocks z = (8 + (z - 1)) / z

-- the address of the file, with blocks of z bytes
abbrev pub file_by : ℕ → ℕ
file_by z = z * container_blocks z

abbrev pub file_at : List ℕ → ℕ
file_at i = file_by (tag_block_size i)

-- the file's first block
abbrev pub file_block : List ℕ → ℕ
file_block i = container_blocks (tag_block_size i)

-- MAX_LEN in bytes: what NLEN and the message may take
abbrev pub file_room : List ℕ → ℕ
file_room i = tag_block_size i * byte i 7

-- m of 02's E2, the greatest length that fits (E3)
abbrev pub capacity : List ℕ → ℕ
capacity i = file_room i - 2

-- NLEN, in a file at f
abbrev pub nlen_at : ℕ → List ℕ → ℕ
nlen_at f i = byte i f + 256 * byte i (suc f)

abbrev pub nlen : List ℕ → ℕ
nlen i = nlen_at (file_at i) i

-- refusal 7, for a file of room bytes at f. One of less than two bytes has no m, so that is tested before NLEN
abbrev pub file_checks : List ℕ → ℕ → ℕ → List Check
file_checks i f room =
    check (leb 2 room) bad_length
    ∷ check (leb (nlen_at f i) (room - 2)) bad_length
    ∷ []

-- refusal 5, by the block size z, the number of blocks b and MAX_LEN x: another length of the image, or a file that reaches past
-- it; then 7
abbrev pub size_checks : List ℕ → ℕ → ℕ → ℕ → List Check
size_checks i z b x =
    check (eqb (length i) (z * b)) bad_data_area
    ∷ check (leb (container_blocks z + x) b) bad_data_area
    ∷ file_checks i (file_by z) (z * x)

-- refusals 1 to 5 and 7. The version is exactly 10h: the rule that Types 2 and 3 share is not Type 6's
abbrev pub checks : List ℕ → List Check
checks i =
    check (leb 8 (length i) && leb (length i) 8192) image_size
    ∷ check (same (take 3 i) letters) not_ndef
    ∷ check (eqb (byte i 3) 0x10) unknown_version
    ∷ check (eqb (byte i 6) 0x00 || eqb (byte i 6) 0xFF) bad_access
    ∷ size_checks i (tag_block_size i) (block_count i) (byte i 7)

-- access 00h; FFh is read-only
abbrev pub may_write : List ℕ → Bool
may_write i = eqb (byte i 6) 0x00
