-- All URIs of a message, in order. The message is read whole first (30 to 32). Then its records are looked at one after the other: a URI
-- record gives its URI (34), and a Smart Poster record gives the URIs of the message in its payload, where it stands. The first fault is
-- reported. A poster inside four others is refused before its payload is looked at (35).
-- Assumes nothing.
use Rattle.std.specs.Prelude.{List, [], ◌∷◌, ◌++◌, ℕ, zero, suc}
use Rattle.tag.specs.Refusals.{nested_too_deep}
use Rattle.ndef.specs.Record.{Record, ndef}
use Rattle.ndef.specs.Message.{Parsed, records, message_of}
use Rattle.ndef.specs.Message as message
use Rattle.uri.specs.Payload.{Expanded, uri, uri_of}
use Rattle.uri.specs.Payload as payload
use Rattle.smart_poster.specs.Records.{Kind, uri_record, poster_record, other_record, kind_of}

-- the URIs, or a refusal
pub data Uris : Type 0 where
  uris : List (List ℕ) → Uris
  refused : ℕ → Uris

-- those of a URI record
unfoldable pub of_payload : Expanded → Uris
of_payload (uri u) = uris (u ∷ [])
of_payload (payload.refused r) = refused r

-- us in front of what follows
unfoldable pub onto : List (List ℕ) → Uris → Uris
onto us (uris more) = uris (us ++ more)
onto us (refused r) = refused r

-- what comes first, then what follows it
unfoldable pub and_then : Uris → Uris → Uris
and_then (uris us) more = onto us more
and_then (refused r) more = refused r

-- ---- records; `inner` reads the message in a poster

unfoldable pub of_kind : (List ℕ → Uris) → Kind → List ℕ → Uris
of_kind inner uri_record p = of_payload (uri_of p)
of_kind inner poster_record p = inner p
of_kind inner other_record p = uris []

unfoldable pub of_record : (List ℕ → Uris) → Record → Uris
of_record inner (ndef tnf type id p) = of_kind inner (kind_of tnf type) p

unfoldable pub of_records : (List ℕ → Uris) → List Record → Uris
of_records inner [] = uris []
of_records inner (r ∷ rs) = and_then (of_record inner r) (of_records inner rs)

unfoldable pub of_parsed : (List ℕ → Uris) → Parsed → Uris
of_parsed inner (records rs) = of_records inner rs
of_parsed inner (message.refused r) = refused r

-- ---- messages

-- how many posters may stand inside each other
abbrev pub deepest : ℕ
deepest = 4

-- the message of a poster, where n posters are still allowed, this one among them
unfoldable pub of_poster : ℕ → List ℕ → Uris
of_poster zero s = refused nested_too_deep
of_poster (suc n) s = of_parsed (of_poster n) (message_of s)

-- a message, where n posters are allowed inside each other
abbrev pub of_message : ℕ → List ℕ → Uris
of_message n s = of_parsed (of_poster n) (message_of s)

abbrev pub uris_of : List ℕ → Uris
uris_of s = of_message deepest s
