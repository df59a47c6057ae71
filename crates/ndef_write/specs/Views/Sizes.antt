-- How long a message of records is, by the numbers that the code has.
-- Assumes nothing.
use Rattle.std.specs.Prelude.{◌≡◌, Bool, true, false, cond, ◌&&◌, List, map, ℕ, ◌+◌, eqb, ltb, length, Option, Some, None}
use Rattle.ndef.specs.declared.Place.{Place}
use Rattle.ndef.specs.Record.{Record, tnf_allows}
use Rattle.ndef.specs.Places.{record_at, lies_in, first_place}
use Rattle.ndef.specs.Shortest.{message_bytes}
use Rattle.ndef.specs.Writing.{header_holds, is_writable_list, all_lie_in}

-- a header in the shortest form, by the lengths of ID and payload
unfoldable pub header_size : ℕ → ℕ → ℕ
header_size id payload = cond (ltb payload 256) (cond (eqb id 0) 3 4) (cond (eqb id 0) 6 7)

-- the record that a place names in `size` bytes, if it can be written
abbrev pub size_for : ℕ → Place → Option ℕ
size_for size p =
    cond (lies_in size p && header_holds p.rtype.len p.id.len p.payload.len && tnf_allows p.tnf p.rtype.len p.id.len p.payload.len)
    (Some (header_size p.id.len p.payload.len + p.rtype.len + p.id.len + p.payload.len)) None

-- rows of seven numbers, as places, and the records that these name in some bytes
abbrev pub places : List (List ℕ) → List Place
places rows = map first_place rows

abbrev pub named : List ℕ → List (List ℕ) → List Record
named bytes rows = map (record_at bytes) (places rows)

-- does some message give the records
abbrev pub is_list_of : List ℕ → List (List ℕ) → Bool
is_list_of bytes rows = cond (all_lie_in (length bytes) (places rows)) (is_writable_list (named bytes rows)) false

-- n is the length of their message
pub record Sized (bytes : List ℕ) (rows : List (List ℕ)) (n : ℕ) : Type 0 where
  pub given : is_list_of bytes rows ≡ true
  pub size_is : n ≡ length (message_bytes 1 (named bytes rows))
