-- Writing a list of records in the shortest form. Refused are a list that no readable message gives (33), then one longer than its
-- buffer (12).
-- Assumes nothing.
use Rattle.std.specs.Prelude.{Bool, true, false, cond, List, [], ◌∷◌, map, ℕ, ◌/◌, ◌%◌, eqb, leb, ltb, length}
use Rattle.tag.specs.Refusals.{unwritable_records}
use Rattle.tag.specs.TagType.{Output, refused_output, fitted}
use Rattle.ndef.specs.declared.Place.{Place}
use Rattle.ndef.specs.Record.{Record, ndef, most, tnf_allows}
use Rattle.ndef.specs.Places.{numbers_each, record_at, lies_in, places_in}
use Rattle.ndef.specs.Shortest.{message_bytes}

-- ---- a list of records

-- lengths of type, ID and payload that a header has room for
unfoldable pub header_holds : ℕ → ℕ → ℕ → Bool
header_holds type id payload = cond (ltb type 256) (cond (ltb id 256) (ltb payload 4294967296) false) false

unfoldable pub is_writable : Record → Bool
is_writable (ndef tnf type id payload) =
    cond (tnf_allows tnf (length type) (length id) (length payload)) (header_holds (length type) (length id) (length payload)) false

unfoldable pub are_writable : List Record → Bool
are_writable [] = true
are_writable (r ∷ rs) = cond (is_writable r) (are_writable rs) false

-- one record at least, sixteen at most
unfoldable pub is_writable_list : List Record → Bool
is_writable_list rs = cond (eqb (length rs) 0) false (cond (leb (length rs) most) (are_writable rs) false)

-- the message of a list, for a buffer of `room` bytes; the number it gives is that of the bytes
unfoldable pub write_list : ℕ → List Record → Output
write_list room rs =
    cond (is_writable_list rs) (fitted room (length (message_bytes 1 rs)) (message_bytes 1 rs)) (refused_output unwritable_records)

-- ---- a table of places

-- do the parts of all places lie in so many bytes
unfoldable pub all_lie_in : ℕ → List Place → Bool
all_lie_in size [] = true
all_lie_in size (p ∷ ps) = cond (lies_in size p) (all_lie_in size ps) false

-- the places of a table
abbrev pub places_of_table : List ℕ → List Place
places_of_table t = places_in (length t / numbers_each) t

-- is the table, with these bytes, a list of records
unfoldable pub is_list : List ℕ → List ℕ → Bool
is_list t bytes = cond (eqb (length t % numbers_each) 0) (all_lie_in (length bytes) (places_of_table t)) false

-- the list that a table gives, the parts being cut out of the bytes
abbrev pub records_in : List ℕ → List ℕ → List Record
records_in t bytes = map (record_at bytes) (places_of_table t)

-- writing the records of a table; one that is no list of records is 33 too
unfoldable pub write : ℕ → List ℕ → List ℕ → Output
write room t bytes = cond (is_list t bytes) (write_list room (records_in t bytes)) (refused_output unwritable_records)
