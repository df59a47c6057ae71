-- The header of a record. It stands in front of the type, the ID and the payload, which follow each other:
--   one byte of flags: 80h MB (message begin), 40h ME (message end), 20h CF (chunk), 10h SR (short record), 08h IL (there is an ID
--   length), and the TNF in the low three bits;
--   the type's length, one byte;
--   the payload's length: one byte with SR, else four, the high byte first;
--   the ID's length, one byte, with IL only.
-- `s` is the message from the record's first byte on. Past its end a byte counts as 0, so every length can be named; a header that is
-- not all there is found by the record's size.
-- Assumes nothing.
use Rattle.std.specs.Prelude.{cond, List, ℕ, ◌+◌, ◌-◌, ◌*◌, ◌/◌, ◌%◌, eqb}
use Rattle.tag.specs.Bytes.{byte}

-- ---- the flags, each 0 or 1 for a byte, and the TNF

abbrev pub mb : ℕ → ℕ
mb flags = flags / 128

abbrev pub me : ℕ → ℕ
me flags = flags / 64 % 2

abbrev pub cf : ℕ → ℕ
cf flags = flags / 32 % 2

abbrev pub sr : ℕ → ℕ
sr flags = flags / 16 % 2

abbrev pub il : ℕ → ℕ
il flags = flags / 8 % 2

abbrev pub tnf : ℕ → ℕ
tnf flags = flags % 8

-- ---- lengths in bytes

unfoldable pub header_length : ℕ → ℕ
header_length flags = cond (eqb (sr flags) 1) (cond (eqb (il flags) 1) 4 3) (cond (eqb (il flags) 1) 7 6)

unfoldable pub payload_length : ℕ → List ℕ → ℕ
payload_length flags s = cond (eqb (sr flags) 1) (byte s 2) (byte s 2 * 16777216 + byte s 3 * 65536 + byte s 4 * 256 + byte s 5)

-- the ID's length is the header's last byte
unfoldable pub id_length : ℕ → List ℕ → ℕ
id_length flags s = cond (eqb (il flags) 1) (byte s (header_length flags - 1)) 0

-- the record: header, type, ID and payload
unfoldable pub record_length : List ℕ → ℕ
record_length s = header_length (byte s 0) + byte s 1 + id_length (byte s 0) s + payload_length (byte s 0) s
