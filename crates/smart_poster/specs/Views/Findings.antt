-- What the code has found, as the definitions have it: the payload of a URI record stands for its URI.
-- Assumes nothing.
use Rattle.std.specs.Prelude.{◌≡◌, true, List, ℕ, Result, Ok, Err, Option, Some, None}
use Rattle.std.specs.Borrow.{Bor}
use Rattle.tag.specs.declared.refusals.Refusal.{Refusal}
use Rattle.tag.specs.Answers.{number_of}
use Rattle.uri.specs.Payload.{uri_of, is_uri}
use Rattle.smart_poster.specs.declared.records.RecordKind.{RecordKind}
use Rattle.smart_poster.specs.declared.records.RecordKind.TheVariants as kind
use Rattle.smart_poster.specs.Records.{Kind, uri_record, poster_record, other_record}
use Rattle.smart_poster.specs.Uris.{of_payload}
use Rattle.smart_poster.specs.First.{Found, refused, none, first_in}

-- the code's kinds of record
abbrev pub kind_as : RecordKind → Kind
kind_as kind.Uri = uri_record
kind_as kind.Poster = poster_record
kind_as kind.Other = other_record

-- a refusal, no URI record, or the payload of the first one
abbrev pub Finding : Type 0
Finding = Result (Option (Bor (List ℕ))) Refusal

abbrev pub found_of : Finding → Found
found_of (Err e) = refused (number_of e)
found_of (Ok None) = none
found_of (Ok (Some p)) = first_in (of_payload (uri_of p.now))

-- the payload stands for a URI
abbrev pub Stands : Finding → Type 0
Stands (Err e) = Unit {0}
Stands (Ok None) = Unit {0}
Stands (Ok (Some p)) = is_uri (uri_of p.now) ≡ true
