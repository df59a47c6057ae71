-- The shortest form of a record and of a list: SR exactly if the payload has at most 255 bytes, IL exactly if the ID is not empty.
-- Assumes nothing.
use Rattle.std.specs.Prelude.{Bool, true, false, cond, List, [], ◌∷◌, ◌++◌, ℕ, zero, suc, ◌+◌, ◌*◌, ◌/◌, ◌%◌, eqb, ltb, length, drop}
use Rattle.tag.specs.Bytes.{byte}
use Rattle.ndef.specs.Record.{Record, ndef, most}
use Rattle.ndef.specs.Header.{sr, il, payload_length, id_length, record_length}

-- ---- what is written

-- the header, by the flags without SR and IL and the lengths of type, ID and payload
unfoldable pub header_bytes : ℕ → ℕ → ℕ → ℕ → List ℕ
header_bytes flags type id payload =
    cond (ltb payload 256)
    (cond (eqb id 0) ((flags + 16) ∷ type ∷ payload ∷ []) ((flags + 24) ∷ type ∷ payload ∷ id ∷ []))
    (cond (eqb id 0)
    (flags ∷ type ∷ (payload / 256 / 256 / 256 % 256) ∷ (payload / 256 / 256 % 256) ∷ (payload / 256 % 256) ∷ (payload % 256) ∷ [])
    ((flags + 8) ∷ type ∷ (payload / 256 / 256 / 256 % 256) ∷ (payload / 256 / 256 % 256) ∷ (payload / 256 % 256) ∷ (payload % 256) ∷ id ∷ []))

-- a record: MB if `first` is 1, ME if `last` is 1
unfoldable pub record_bytes : ℕ → ℕ → Record → List ℕ
record_bytes first last (ndef tnf type id payload) =
    header_bytes (first * 128 + last * 64 + tnf) (length type) (length id) (length payload) ++ (type ++ (id ++ payload))

-- a list of records: MB on its first if `first` is 1, ME on its last
unfoldable pub message_bytes : ℕ → List Record → List ℕ
message_bytes first [] = []
message_bytes first (r ∷ rs) = record_bytes first (cond (eqb (length rs) 0) 1 0) r ++ message_bytes 0 rs

-- ---- messages that use the shortest form

-- by a record's flags and the lengths of its ID and its payload
unfoldable pub is_shortest_by : ℕ → ℕ → ℕ → Bool
is_shortest_by flags id payload = cond (eqb (sr flags) (cond (ltb payload 256) 1 0)) (eqb (il flags) (cond (eqb id 0) 0 1)) false

unfoldable pub is_shortest_header : List ℕ → Bool
is_shortest_header s = is_shortest_by (byte s 0) (id_length (byte s 0) s) (payload_length (byte s 0) s)

unfoldable pub are_shortest : ℕ → List ℕ → Bool
are_shortest zero s = true
are_shortest (suc n) s =
    elim (eqb (length s) 0) [ true ↦ true | false ↦ cond (is_shortest_header s) (are_shortest n (drop (record_length s) s)) false ]

-- does each record of a message use it
unfoldable pub is_shortest : List ℕ → Bool
is_shortest s = are_shortest most s
