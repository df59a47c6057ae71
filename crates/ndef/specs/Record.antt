-- An NDEF record as the NFC Forum's NDEF 1.0 has it: a type name format (TNF), a type, an ID and a payload. An empty ID is no ID.
-- Assumes nothing.
use Rattle.std.specs.Prelude.{Bool, true, false, cond, List, [], ◌∷◌, ℕ, ◌+◌, eqb, ltb}
use Rattle.tag.specs.Bytes.{Octets}

-- TNF, type, ID, payload
pub data Record : Type 0 where
  ndef : ℕ → List ℕ → List ℕ → List ℕ → Record

-- how many records a message has at most
abbrev pub most : ℕ
most = 16

-- whether a record with this TNF may have a type, an ID and a payload of these lengths: with 0 (empty) there are none, with 5 (unknown)
-- there is no type, and 1 to 4 leave all three free. 6 (unchanged) is for chunks only, and 7 is reserved.
unfoldable pub tnf_allows : ℕ → ℕ → ℕ → ℕ → Bool
tnf_allows tnf type id payload = cond (ltb tnf 6) (cond (eqb tnf 5) (eqb type 0) (cond (eqb tnf 0) (eqb (type + id + payload) 0) true)) false

-- ---- records made of bytes

abbrev pub OctetRecord : Record → Type 0
OctetRecord (ndef tnf type id payload) = Octets type × Octets id × Octets payload

abbrev pub OctetRecords : List Record → Type 0
OctetRecords [] = Unit {0}
OctetRecords (r ∷ rs) = OctetRecord r × OctetRecords rs
