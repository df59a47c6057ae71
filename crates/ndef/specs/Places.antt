-- Records by their places: a record as its TNF and where its type, ID and payload lie in some bytes. A place is seven numbers, and a table
-- holds places one after the other. Reading gives such a table, and writing takes one.
-- Assumes nothing.
use Rattle.std.specs.Prelude.{Bool, true, false, ◌&&◌, List, [], ◌∷◌, ◌++◌, ℕ, zero, suc, ◌+◌, eqb, leb, length, drop}
use Rattle.tag.specs.Bytes.{byte}
use Rattle.tag.specs.TagType.{Output, refused_output, output}
use Rattle.ndef.specs.declared.Part.{Part}
use Rattle.ndef.specs.declared.Place.{Place}
use Rattle.ndef.specs.Record.{Record, ndef, most}
use Rattle.ndef.specs.Header.{tnf, header_length, payload_length, id_length, record_length}
use Rattle.ndef.specs.Message.{Parsed, records, refused, part, message_of}

-- how many numbers a place has
abbrev pub numbers_each : ℕ
numbers_each = 7

-- the bytes of s that a part names
abbrev pub part_at : List ℕ → Part → List ℕ
part_at s q = part q.at q.len s

-- the record at a place of s
unfoldable pub record_at : List ℕ → Place → Record
record_at s p = ndef p.tnf (part_at s p.rtype) (part_at s p.id) (part_at s p.payload)

-- does a part lie in so many bytes
abbrev pub part_in : ℕ → Part → Bool
part_in size q = leb (q.at + q.len) size

-- do all three parts of a place
unfoldable pub lies_in : ℕ → Place → Bool
lies_in size p = part_in size p.rtype && part_in size p.id && part_in size p.payload

-- ---- a table

-- a place as numbers
unfoldable pub numbers_of : Place → List ℕ
numbers_of p = p.tnf ∷ p.rtype.at ∷ p.rtype.len ∷ p.id.at ∷ p.id.len ∷ p.payload.at ∷ p.payload.len ∷ []

unfoldable pub table_of : List Place → List ℕ
table_of [] = []
table_of (p ∷ ps) = numbers_of p ++ table_of ps

-- the place at the front of a table
unfoldable pub first_place : List ℕ → Place
first_place t = record {
  tnf = byte t 0;
  rtype = record { at = byte t 1; len = byte t 2 };
  id = record { at = byte t 3; len = byte t 4 };
  payload = record { at = byte t 5; len = byte t 6 };
}

-- the first n places of a table
unfoldable pub places_in : ℕ → List ℕ → List Place
places_in zero t = []
places_in (suc n) t = first_place t ∷ places_in n (drop numbers_each t)

-- ---- the table that reading gives

-- the place of the record at the front of s, which is what follows `at` bytes of the message
unfoldable pub place_of : ℕ → List ℕ → Place
place_of at s =
    let flags = byte s 0 in
    let type_at = at + header_length flags in
    let id-at = type_at + byte s 1 in
    let payload-at = id-at + id_length flags s in
    record {
      tnf = tnf flags;
      rtype = record { at = type_at; len = byte s 1 };
      id = record { at = id-at; len = id_length flags s };
      payload = record { at = payload-at; len = payload_length flags s };
    }

-- the places of the records of s; n more are allowed
unfoldable pub places_of : ℕ → ℕ → List ℕ → List Place
places_of zero at s = []
places_of (suc n) at s =
    elim (eqb (length s) 0) [ true ↦ [] | false ↦ place_of at s ∷ places_of n (at + record_length s) (drop (record_length s) s) ]

unfoldable pub read_by : List ℕ → Parsed → Output
read_by s (records rs) = output (length rs) (table_of (places_of most 0 s))
read_by s (refused r) = refused_output r

-- reading a message gives the number of its records and the table of their places, or a refusal
unfoldable pub read : List ℕ → Output
read s = read_by s (message_of s)
