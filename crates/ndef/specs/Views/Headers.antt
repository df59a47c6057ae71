-- The headers of a message's records, as the definitions have them, and the places that they give.
-- Assumes nothing.
use Rattle.std.specs.Prelude.{◌≡◌, Bool, true, false, ◌&&◌, ◌||◌, not, cond, List, [], ◌∷◌, ℕ, zero, suc, ◌+◌, eqb, leb, length, drop}
use Rattle.tag.specs.Bytes.{byte}
use Rattle.ndef.specs.declared.Place.{Place}
use Rattle.ndef.specs.declared.headers.Header.{Header}
use Rattle.ndef.specs.Record.{Record, most, tnf_allows}
use Rattle.ndef.specs.Header.{mb, me, cf, tnf, header_length, payload_length, id_length, record_length}
use Rattle.ndef.specs.Message.{records, message_of}

-- the header at the front of s
abbrev pub header_of : List ℕ → Header
header_of s = record { flags = record { 0 = byte s 0 }; len = header_length (byte s 0); rtype = byte s 1; id = id_length (byte s 0) s; payload = payload_length (byte s 0) s }

-- those of its records; n more are allowed
unfoldable pub headers_of : ℕ → List ℕ → List Header
headers_of zero s = []
headers_of (suc n) s = elim (eqb (length s) 0) [ true ↦ [] | false ↦ header_of s ∷ headers_of n (drop (record_length s) s) ]

-- the length of the record
abbrev pub length_for : Header → ℕ
length_for h = h.len + h.rtype + h.id + h.payload

-- the bytes that the records with these headers take together
abbrev pub span_of : List Header → ℕ
span_of [] = 0
span_of (h ∷ hs) = length_for h + span_of hs

-- a message that reads, and the headers of all its records
pub record Headed (s : List ℕ) (headers : List Header) : Type 0 where
  pub list : List Record
  pub reads : message_of s ≡ records list
  pub headers_are : headers ≡ headers_of most s
  -- nothing is left behind the last
  pub all_taken : span_of headers ≡ length s

-- is a record with these flags a part of a chunked payload
abbrev pub chunked : ℕ → Bool
chunked flags = not (eqb (cf flags) 0) || eqb (tnf flags) 6

-- the tests of a record that is no chunk, where so many bytes of the message are left
abbrev pub may_stand : Header → ℕ → Bool → Bool
may_stand h size first =
    leb (length_for h) size && tnf_allows (tnf h.flags.0) h.rtype h.id h.payload && eqb (mb h.flags.0) (cond first 1 0)
    && eqb (me h.flags.0) (cond (eqb (length_for h) size) 1 0)

-- the place of the record with this header, after `at` bytes
abbrev pub place_for : Header → ℕ → Place
place_for h at = record {
  tnf = tnf h.flags.0;
  rtype = record { at = at + h.len; len = h.rtype };
  id = record { at = at + h.len + h.rtype; len = h.id };
  payload = record { at = at + h.len + h.rtype + h.id; len = h.payload };
}

-- the places of records that follow each other, of which the first comes after `at` bytes
abbrev pub places_by : ℕ → List Header → List Place
places_by at [] = []
places_by at (h ∷ hs) = place_for h at ∷ places_by (at + length_for h) hs
