-- The records that matter here: the URI record and the Smart Poster record of the NFC Forum's record type definitions. Each is known by its
-- TNF and its type, compared as they are.
-- Assumes nothing.
use Rattle.std.specs.Prelude.{cond, List, [], ◌∷◌, ℕ, eqb}
use Rattle.tag.specs.Bytes.{same}

-- TNF 1: the type is one of the NFC Forum's own
abbrev pub well_known : ℕ
well_known = 1

-- U
abbrev pub uri_type : List ℕ
uri_type = 0x55 ∷ []

-- Sp
abbrev pub poster_type : List ℕ
poster_type = 0x53 ∷ 0x70 ∷ []

pub data Kind : Type 0 where
  uri_record : Kind
  poster_record : Kind
  other_record : Kind

unfoldable pub kind_of : ℕ → List ℕ → Kind
kind_of tnf type =
    cond (eqb tnf well_known) (cond (same type uri_type) uri_record (cond (same type poster_type) poster_record other_record)) other_record
