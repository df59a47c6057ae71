-- What is claimed of looking for URIs. Statements only; `proofs/Theorems.antt` proves them, and states nothing new.
-- Assumes nothing.
use Rattle.std.specs.Prelude.{◌≡◌, ◌↔◌, ◌⊎◌, true, List, [], ◌∷◌, ◌++◌, ℕ, zero, suc, ◌+◌, ◌≤◌, ◌<◌, length, take, Ok, Err, Some, None}
use Rattle.tag.specs.declared.refusals.Refusal.{Refusal}
use Rattle.tag.specs.Refusals.{short_buffer}
use Rattle.tag.specs.Answers.{number_of}
use Rattle.ndef.specs.Record.{Record, ndef}
use Rattle.ndef.specs.Message.{records, message_of}
use Rattle.uri.specs.Payload.{uri, uri_of, is_uri}
use Rattle.smart_poster.specs.Records.{Kind, uri_record, poster_record, kind_of}
use Rattle.smart_poster.specs.Uris.{Uris, uris, refused, of_record, of_records, deepest, uris_of}
use Rattle.smart_poster.specs.First.{first, none, found}
use Rattle.smart_poster.specs.First as looked
use Rattle.smart_poster.specs.PublicContracts.{FoundFirst}

-- ---- where a record stands

-- x is one of a list
abbrev pub OneOf : {A : Type 0} → A → List A → Type 0
OneOf x [] = ⊥
OneOf x (y ∷ ys) = (x ≡ y) ⊎ OneOf x ys

abbrev pub kind_of_record : Record → Kind
kind_of_record (ndef tnf type id payload) = kind_of tnf type

abbrev pub payload_of_record : Record → List ℕ
payload_of_record (ndef tnf type id payload) = payload

-- a message reads
abbrev pub Reads : List ℕ → Type 0
Reads s = (rs : List Record) × (message_of s ≡ records rs)

-- a record is one of a message's own
abbrev pub RecordOf : Record → List ℕ → Type 0
RecordOf r s = (rs : List Record) × (message_of s ≡ records rs) × OneOf r rs

-- a record stands in a message, inside n posters
abbrev pub StandsIn : ℕ → Record → List ℕ → Type 0
StandsIn zero r s = RecordOf r s
StandsIn (suc n) r s = (p : Record) × RecordOf p s × (kind_of_record p ≡ poster_record) × StandsIn n r (payload_of_record p)

-- every URI record that stands in a message stands for a URI
abbrev pub UriRecordsStand : List ℕ → Type 0
UriRecordsStand s = (n : ℕ) (r : Record) → StandsIn n r s → kind_of_record r ≡ uri_record → is_uri (uri_of (payload_of_record r)) ≡ true

-- every poster that stands in a message is inside fewer than `most` others, and has a message that reads
abbrev pub PostersRead : ℕ → List ℕ → Type 0
PostersRead most s = (n : ℕ) (r : Record) → StandsIn n r s → kind_of_record r ≡ poster_record → (n < most) × Reads (payload_of_record r)

-- ---- of the definitions

-- every URI found is the expansion of a URI record, which stands inside four posters at most, and every URI record gives one
pub record EachIsExpansion : Type 0 where
  pub from_record : (s : List ℕ) (us : List (List ℕ)) (u : List ℕ) → uris_of s ≡ uris us → OneOf u us
      → (n : ℕ) × (r : Record) × (n ≤ deepest) × StandsIn n r s × (kind_of_record r ≡ uri_record) × (uri_of (payload_of_record r) ≡ uri u)
  pub from_each : (s : List ℕ) (us : List (List ℕ)) (n : ℕ) (r : Record) → uris_of s ≡ uris us → StandsIn n r s → kind_of_record r ≡ uri_record
      → (u : List ℕ) × OneOf u us × (uri_of (payload_of_record r) ≡ uri u)

-- a message has no fault exactly if it reads, every URI record in it stands for a URI, and every poster in it is inside fewer than four
-- others and has a message that reads
pub record FaultsExactly : Type 0 where
  pub no_fault : (s : List ℕ)
      → ((us : List (List ℕ)) × (uris_of s ≡ uris us))
      ↔ (Reads s × UriRecordsStand s × PostersRead deepest s)
  -- the first fault is reported: what comes before it has none, and what comes behind it does not matter
  pub in_order : (inner : List ℕ → Uris) (before after : List Record) (r : Record) (us : List (List ℕ)) (k : ℕ)
      → of_records inner before ≡ uris us → of_record inner r ≡ refused k → of_records inner (before ++ (r ∷ after)) ≡ refused k

-- the answer is the first of all URIs, none if there is none, or the refusal; 12 comes last
pub record FirstOfAll : Type 0 where
  pub is_first : (room : ℕ) (s u : List ℕ) → (first room s ≡ found u) ↔ ((us : List (List ℕ)) × (uris_of s ≡ uris (u ∷ us)) × (length u ≤ room))
  pub is_none : (room : ℕ) (s : List ℕ) → (first room s ≡ none) ↔ (uris_of s ≡ uris [])
  pub is_refused : (room : ℕ) (s : List ℕ) (k : ℕ)
      → (first room s ≡ looked.refused k)
      ↔ ((uris_of s ≡ refused k) ⊎ ((k ≡ short_buffer) × (u : List ℕ) × (us : List (List ℕ)) × (uris_of s ≡ uris (u ∷ us)) × (room < length u)))
  -- a buffer that has 26 bytes more than the message is long enough
  pub room_enough : (s : List ℕ) (us : List (List ℕ)) (u : List ℕ) → uris_of s ≡ uris us → OneOf u us → length u ≤ length s + 26

-- ---- of what the code answers

pub record Calls : Type 0 where
  pub finds : (s buffer : List ℕ) (n : ℕ) (out : List ℕ) → FoundFirst s buffer (Ok (Some n)) out
      → (us : List (List ℕ)) × (uris_of s ≡ uris (take n out ∷ us)) × (length (take n out) ≡ n)
  pub finds_none : (s buffer out : List ℕ) → FoundFirst s buffer (Ok None) out → (uris_of s ≡ uris []) × (out ≡ buffer)
  pub refuses : (s buffer : List ℕ) (e : Refusal) (out : List ℕ) → FoundFirst s buffer (Err e) out
      → (out ≡ buffer)
      × ((uris_of s ≡ refused (number_of e)) ⊎ ((number_of e ≡ short_buffer) × (u : List ℕ) × (us : List (List ℕ)) × (uris_of s ≡ uris (u ∷ us)) × (length buffer < length u)))
  pub room_enough : (s buffer : List ℕ) (e : Refusal) (out : List ℕ) → FoundFirst s buffer (Err e) out → length s + 26 ≤ length buffer
      → uris_of s ≡ refused (number_of e)
