-- The first URI of a message.
-- Assumes nothing.
use Rattle.std.specs.Prelude.{cond, List, [], ◌∷◌, ℕ, leb, length, Result, Ok, Err, Option, Some, None}
use Rattle.tag.specs.Bytes.{overwrite}
use Rattle.tag.specs.Refusals.{short_buffer}
use Rattle.tag.specs.declared.refusals.Refusal.{Refusal}
use Rattle.tag.specs.Answers.{number_of}
use Rattle.smart_poster.specs.Uris.{Uris, uris, uris_of}
use Rattle.smart_poster.specs.Uris as all

-- what looking for the first URI gives: a refusal, none, or the URI
pub data Found : Type 0 where
  refused : ℕ → Found
  none : Found
  found : List ℕ → Found

unfoldable pub first_in : Uris → Found
first_in (all.refused r) = refused r
first_in (uris []) = none
first_in (uris (u ∷ us)) = found u

-- a buffer too short is 12, last
abbrev pub in_room : ℕ → Found → Found
in_room room (refused r) = refused r
in_room room none = none
in_room room (found u) = cond (leb (length u) room) (found u) (refused short_buffer)

abbrev pub first : ℕ → List ℕ → Found
first room s = in_room room (first_in (uris_of s))

-- ---- what the call answers

-- the buffer afterwards: it keeps its bytes past the URI, and all of them without one
abbrev pub found_into : List ℕ → Found → List ℕ
found_into buffer (refused r) = buffer
found_into buffer none = buffer
found_into buffer (found u) = overwrite u buffer

-- the answer: a refusal's number, none, or how many bytes the URI has
pub data Told : Type 0 where
  refuses : ℕ → Told
  tells_none : Told
  tells : ℕ → Told

abbrev pub told_of : Found → Told
told_of (refused r) = refuses r
told_of none = tells_none
told_of (found u) = tells (length u)

abbrev pub told_as : Result (Option ℕ) Refusal → Told
told_as (Err e) = refuses (number_of e)
told_as (Ok None) = tells_none
told_as (Ok (Some n)) = tells n
