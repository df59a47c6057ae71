-- The contracts of expanding and shortening, as relations between a call's arguments and its results.
-- Assumes nothing.
use Rattle.std.specs.Prelude.{List, ℕ, Result}
use Rattle.tag.specs.declared.refusals.Refusal.{Refusal}
use Rattle.tag.specs.PublicContracts.{PutOut}
use Rattle.uri.specs.Payload.{expand, shorten}

-- expanding, given a payload and a buffer, answers r and leaves the buffer as out
abbrev pub ExpandedTo : List ℕ → List ℕ → Result ℕ Refusal → List ℕ → Type 0
ExpandedTo payload buffer r out = PutOut (λ room. expand room payload) buffer r out

-- shortening, given a URI and a buffer, answers r and leaves the buffer as out
abbrev pub ShortenedTo : List ℕ → List ℕ → Result ℕ Refusal → List ℕ → Type 0
ShortenedTo u buffer r out = PutOut (λ room. shorten room u) buffer r out
