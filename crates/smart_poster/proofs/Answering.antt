-- What the call answers, from the payload that was found in the message.
-- Assumes nothing.
use mathlib.Core.Path.{◌≡◌, ap}
use mathlib.Core.Bool.{Bool, true, false, cond}
use mathlib.Core.List.{List}
use Prim.Native.Nat.{ℕ}
use lib.Dec.{leb}
use lib.ListN.{length}
use Rattle.std.specs.Prelude.{Result, Ok, Err, Option, Some}
use Rattle.tag.specs.declared.refusals.Refusal.{Refusal}
use Rattle.tag.specs.TagType.{refused_output, output, output_into}
use Rattle.tag.specs.Answers.{number_of, gives, refuses_one, count_of, count_as}
use Rattle.tag.proofs.Logic.{nope}
use Rattle.tag.proofs.Outputs.{same-refusal}
use Rattle.uri.specs.Payload.{Expanded, uri, uri_of, expand_by}
use Rattle.uri.specs.Payload as payload
use Rattle.uri.specs.PublicContracts.{ExpandedTo}
use Rattle.smart_poster.specs.Uris.{of_payload, uris_of}
use Rattle.smart_poster.specs.First.{Found, refused, found, first_in, in_room, found_into, told_of, told_as}
use Rattle.smart_poster.specs.PublicContracts.{FoundFirst}

-- the answer of expanding a payload, as an answer here
abbrev answer_for : Result ℕ Refusal → Result (Option ℕ) Refusal
answer_for (Err e) = Err e
answer_for (Ok n) = Ok (Some n)

refuses-as : (r : Result ℕ Refusal) (k : ℕ) → count_as r ≡ refuses_one k → told_as (answer_for r) ≡ told_of (refused k)
refuses-as (Err e) k q = ap (λ n. told_of (refused n)) (same-refusal (number_of e) k q)
refuses-as (Ok n) k q = absurd (nope (cc))

gives_as : (r : Result ℕ Refusal) (u : List ℕ) → count_as r ≡ gives (length u) → told_as (answer_for r) ≡ told_of (found u)
gives_as (Err e) u q = absurd (nope (cc))
gives_as (Ok n) u q = let z : n ≡ length u = cc in ap (λ k. told_as (Ok (Some k))) z

module _ (buffer : List ℕ) where
  -- an answer for what was found
  abbrev Answers : Found → Result (Option ℕ) Refusal → List ℕ → Type 0
  Answers f r out = (told_as r ≡ told_of (in_room (length buffer) f)) × (out ≡ found_into buffer (in_room (length buffer) f))

  expands-as : (x : Expanded) (r : Result ℕ Refusal) (out : List ℕ)
      → (count_as r ≡ count_of (expand_by (length buffer) x)) × (out ≡ output_into buffer (expand_by (length buffer) x))
      → Answers (first_in (of_payload x)) (answer_for r) out
  unfolding first_in of_payload
  expands-as (payload.refused k) r out (a, b) = (refuses-as r k a, b)
  expands-as (uri u) r out w = go (leb (length u) (length buffer)) w
    where
      go : (c : Bool) → (let o = cond c (output (length u) u) (refused_output 12) in (count_as r ≡ count_of o) × (out ≡ output_into buffer o))
          → (let f = cond c (found u) (refused 12) in (told_as (answer_for r) ≡ told_of f) × (out ≡ found_into buffer f))
      go true (a, b) = (gives_as r u a, b)
      go false (a, b) = (refuses-as r 12 a, b)

  module _ (s p : List ℕ) (here : first_in (of_payload (uri_of p)) ≡ first_in (uris_of s)) (out : List ℕ) where
    pub refused-first : (e : Refusal) → ExpandedTo p buffer (Err e) out → FoundFirst s buffer (Err e) out
    refused-first e w = rw (← here) (expands-as (uri_of p) (Err e) out w)

    pub found-first : (n : ℕ) → ExpandedTo p buffer (Ok n) out → FoundFirst s buffer (Ok (Some n)) out
    found-first n w = rw (← here) (expands-as (uri_of p) (Ok n) out w)
