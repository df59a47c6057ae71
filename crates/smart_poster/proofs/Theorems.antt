-- The claims of `specs/Claims.antt`, proved.
-- Assumes nothing.
use mathlib.Core.Path.{◌≡◌, refl, sym, ap, subst, ◌∙◌}
use mathlib.Core.Logic.{◌⊎◌, inl, inr}
use mathlib.Core.Bool.{Bool, true, false, cond}
use mathlib.Core.List.{List, [], ◌∷◌}
use Prim.Native.Nat.{ℕ, suc, ◌+◌, ◌≤◌, ◌<◌}
use native.Mathlib.Omega.{arith}
use lib.Dec.{leb}
use lib.ListN.{length, take, drop}
use lib.Seq.{take-append_seam}
use borrow.Author.Tests.{le-leb, lt-leb, leb-true, leb-false}
use Rattle.tag.specs.Bytes.{overwrite}
use Rattle.tag.proofs.Logic.{nope}
use Rattle.ndef.specs.Record.{Record}
use Rattle.uri.specs.Payload.{uri, uri_of, is_uri}
use Rattle.std.specs.Prelude.{Result, Ok, Err, Option, Some, None}
use Rattle.tag.specs.declared.refusals.Refusal.{Refusal}
use Rattle.tag.specs.Answers.{number_of}
use Rattle.smart_poster.specs.Records.{uri_record, poster_record}
use Rattle.smart_poster.specs.Uris.{Uris, uris, refused, of_poster, deepest, uris_of}
use Rattle.smart_poster.specs.First.{Found, none, found, first_in, in_room, first, found_into, told_of, told_as}
use Rattle.smart_poster.specs.First as looked
use Rattle.smart_poster.specs.PublicContracts.{FoundFirst}
use Rattle.smart_poster.specs.Claims.{OneOf, kind_of_record, payload_of_record, Reads, StandsIn, EachIsExpansion, FaultsExactly, FirstOfAll, Calls}
use Rattle.smart_poster.proofs.Standing.{of-payload, as-uri, as-poster, first_fault, gives-reads, at_top, Within, within, comes, all-given}
use Rattle.smart_poster.proofs.Lengths.{payload-short, uri-short}

-- ---- the claims about the definitions

module _ (s : List ℕ) (us : List (List ℕ)) (e : uris_of s ≡ uris us) where
  abbrev in-poster : of_poster (suc deepest) s ≡ uris us
  in-poster = sym (at_top s) ∙ e

  module _ (n : ℕ) (r : Record) (w : StandsIn n r s) where
    abbrev its : Within (suc deepest) n r us
    its = within n (suc deepest) r s us in-poster w

    its-uri : kind_of_record r ≡ uri_record → (u : List ℕ) × OneOf u us × (uri_of (payload_of_record r) ≡ uri u)
    its-uri k =
        let (u, q, o) = of-payload (uri_of (payload_of_record r)) its.own (sym (as-uri (of_poster its.left) r k) ∙ its.gives) in
        (u, its.among u (subst (OneOf u) (sym o) (inl refl)), q)

    its-message : kind_of_record r ≡ poster_record → (n < deepest) × Reads (payload_of_record r)
    its-message k =
        let (allowed, reads) = gives-reads its.left (payload_of_record r) its.own (sym (as-poster (of_poster its.left) r k) ∙ its.gives) in
        (omega (arith, its.deep), reads)

  its-record : (u : List ℕ) → OneOf u us
      → (n : ℕ) × (r : Record) × (n ≤ deepest) × StandsIn n r s × (kind_of_record r ≡ uri_record) × (uri_of (payload_of_record r) ≡ uri u)
  its-record u x = let (n, r, l, w, k, q) = comes (suc deepest) s us u in-poster x in (n, r, omega arith, w, k, q)

  long-enough : (u : List ℕ) → OneOf u us → length u ≤ length s + 26
  long-enough u x =
      let (n, r, l, w, k, q) = its-record u x in
      omega (arith, payload-short n r s w, uri-short (payload_of_record r) u q)

pub each-is-expansion : EachIsExpansion
each-is-expansion = record { from_record = λ s us u e. its-record s us e u; from_each = λ s us n r e. its-uri s us e n r }

pub faults-exactly : FaultsExactly
faults-exactly = record {
  no_fault = λ s. (
    λ (us, e). (
      (gives-reads (suc deepest) s us (in-poster s us e)).1,
      λ n r w k. ap is_uri (its-uri s us e n r w k).2,
      λ n r w k. its-message s us e n r w k,
    ),
    λ (reads, stand, posters). let g = all-given deepest s reads stand posters in (g.0, at_top s ∙ g.1),
  );
  in_order = first_fault;
}

-- ---- the first URI

-- what is told of all URIs, for a buffer of `room` bytes
abbrev Looked : ℕ → Uris → Found → Type 0
Looked room x (looked.refused k) =
    (x ≡ refused k) ⊎ ((k ≡ 12) × (u : List ℕ) × (us : List (List ℕ)) × (x ≡ uris (u ∷ us)) × (room < length u))
Looked room x none = x ≡ uris []
Looked room x (found u) = (us : List (List ℕ)) × (x ≡ uris (u ∷ us)) × (length u ≤ room)

looks : (room : ℕ) (x : Uris) → Looked room x (in_room room (first_in x))
unfolding first_in
looks room (refused k) = inl refl
looks room (uris []) = refl
looks room (uris (u ∷ us)) = go (leb (length u) room) refl
  where
    go : (b : Bool) → leb (length u) room ≡ b → Looked room (uris (u ∷ us)) (cond b (found u) (looked.refused 12))
    go true q = (us, refl, leb-true (length u) room q)
    go false q = inr (refl, u, us, refl, leb-false (length u) room q)

told : (room : ℕ) (x : Uris) (f : Found) → Looked room x f → in_room room (first_in x) ≡ f
unfolding first_in
told room x (looked.refused k) (inl e) = rw e
told room x (looked.refused k) (inr (z, u, us, e, l)) = rw (e, z, lt-leb (length u) room l)
told room x none e = rw e
told room x (found u) (us, e, l) = rw (e, le-leb (length u) room l)

looked-at : (room : ℕ) (s : List ℕ) (f : Found) → first room s ≡ f → Looked room (uris_of s) f
looked-at room s f e = subst (Looked room (uris_of s)) e (looks room (uris_of s))

pub first-of-all : FirstOfAll
first-of-all = record {
  is_first = λ room s u. (looked-at room s (found u), told room (uris_of s) (found u));
  is_none = λ room s. (looked-at room s none, told room (uris_of s) none);
  is_refused = λ room s k. (looked-at room s (looked.refused k), told room (uris_of s) (looked.refused k));
  room_enough = λ s us u e. long-enough s us e u;
}

-- ---- the claims about the code's answers

-- what was found, where the code answers so
abbrev Answered : Result (Option ℕ) Refusal → Found → Type 0
Answered (Err k) f = f ≡ looked.refused (number_of k)
Answered (Ok None) f = f ≡ none
Answered (Ok (Some n)) f = (u : List ℕ) × (f ≡ found u) × (n ≡ length u)

answered : (r : Result (Option ℕ) Refusal) (f : Found) → told_as r ≡ told_of f → Answered r f
answered (Err k) (looked.refused j) e = cc
answered (Err k) none e = absurd (nope (cc))
answered (Err k) (found u) e = absurd (nope (cc))
answered (Ok None) (looked.refused j) e = absurd (nope (cc))
answered (Ok None) none e = refl
answered (Ok None) (found u) e = absurd (nope (cc))
answered (Ok (Some n)) (looked.refused j) e = absurd (nope (cc))
answered (Ok (Some n)) none e = absurd (nope (cc))
answered (Ok (Some n)) (found u) e = (u, refl, cc)

module _ (s buffer : List ℕ) where
  abbrev it : Found
  it = first (length buffer) s

  finds : (n : ℕ) (out : List ℕ) → FoundFirst s buffer (Ok (Some n)) out
      → (us : List (List ℕ)) × (uris_of s ≡ uris (take n out ∷ us)) × (length (take n out) ≡ n)
  finds n out (a, b) =
      let (u, q, z) = answered (Ok (Some n)) it a in
      let (us, e, l) = looked-at (length buffer) s (found u) q in
      let laid : out ≡ overwrite u buffer = b ∙ ap (found_into buffer) q in
      let front : take n out ≡ u = ap (take n) laid ∙ ap (λ k. take k (overwrite u buffer)) z ∙ take-append_seam u (drop (length u) buffer) in
      (us, rw front e, rw front (sym z))

  finds_none : (out : List ℕ) → FoundFirst s buffer (Ok None) out → (uris_of s ≡ uris []) × (out ≡ buffer)
  finds_none out (a, b) = let q = answered (Ok None) it a in (looked-at (length buffer) s none q, b ∙ ap (found_into buffer) q)

  module _ (k : Refusal) (out : List ℕ) (w : FoundFirst s buffer (Err k) out) where
    abbrev is-refusal : it ≡ looked.refused (number_of k)
    is-refusal = answered (Err k) it w.0

    abbrev why : Looked (length buffer) (uris_of s) (looked.refused (number_of k))
    why = looked-at (length buffer) s (looked.refused (number_of k)) is-refusal

    -- not for want of room
    with-room : length s + 26 ≤ length buffer → uris_of s ≡ refused (number_of k)
    with-room h = go why
      where
        go : Looked (length buffer) (uris_of s) (looked.refused (number_of k)) → uris_of s ≡ refused (number_of k)
        go (inl e) = e
        go (inr (z, u, us, e, l)) = absurd (omega (arith, long-enough s (u ∷ us) e u (inl refl)))

pub calls : Calls
calls = record {
  finds = finds;
  finds_none = finds_none;
  refuses = λ s buffer k out w. (w.1 ∙ ap (found_into buffer) (is-refusal s buffer k out w), why s buffer k out w);
  room_enough = with-room;
}
