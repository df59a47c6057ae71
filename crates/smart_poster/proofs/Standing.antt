-- Where records stand in a message, and what URIs they give. The laws speak of `of_poster`, for every number of posters still allowed: a
-- message is read like that of a poster where one more is allowed (`at_top`), so they hold for messages too.
-- Assumes nothing.
use mathlib.Core.Path.{◌≡◌, refl, sym, ap, subst, ◌∙◌}
use mathlib.Core.Logic.{◌⊎◌, inl, inr}
use mathlib.Core.Bool.{true}
use mathlib.Core.List.{List, [], ◌∷◌, ◌++◌}
use Prim.Native.Nat.{ℕ, zero, suc, ◌+◌, ◌<◌}
use native.Mathlib.Omega.{arith}
use Rattle.tag.proofs.Logic.{nope}
use Rattle.ndef.specs.Record.{Record, ndef}
use Rattle.ndef.specs.Message.{Parsed, records, message_of}
use Rattle.ndef.specs.Message as message
use Rattle.uri.specs.Payload.{Expanded, uri, uri_of, is_uri}
use Rattle.uri.specs.Payload as payload
use Rattle.smart_poster.specs.Records.{Kind, uri_record, poster_record, other_record}
use Rattle.smart_poster.specs.Uris.{Uris, uris, refused, of_payload, onto, and_then, of_kind, of_record, of_records, of_parsed, of_poster, deepest, uris_of}
use Rattle.smart_poster.specs.Claims.{OneOf, kind_of_record, payload_of_record, Reads, RecordOf, StandsIn, UriRecordsStand, PostersRead}

-- ---- one of two lists

module _ {A : Type 0} (x : A) where
  in-front : (xs ys : List A) → OneOf x xs → OneOf x (xs ++ ys)
  in-front [] ys w = elim w [ ]
  in-front (z ∷ xs) ys (inl e) = inl e
  in-front (z ∷ xs) ys (inr w) = inr (in-front xs ys w)

  behind : (xs ys : List A) → OneOf x ys → OneOf x (xs ++ ys)
  behind [] ys w = w
  behind (z ∷ xs) ys w = inr (behind xs ys w)

  either : (xs ys : List A) → OneOf x (xs ++ ys) → OneOf x xs ⊎ OneOf x ys
  either [] ys w = inr w
  either (z ∷ xs) ys (inl e) = inl (inl e)
  either (z ∷ xs) ys (inr w) = go (either xs ys w)
    where
      go : OneOf x xs ⊎ OneOf x ys → OneOf x (z ∷ xs) ⊎ OneOf x ys
      go (inl v) = inl (inr v)
      go (inr v) = inr v

-- ---- two results in order

-- where the two give URIs, each does
record Both (a b : Uris) (us : List (List ℕ)) : Type 0 where
  here : List (List ℕ)
  later : List (List ℕ)
  here-is : a ≡ uris here
  later-is : b ≡ uris later
  all-is : us ≡ here ++ later

both : (a b : Uris) (us : List (List ℕ)) → and_then a b ≡ uris us → Both a b us
unfolding and_then onto
both (uris here) (uris later) us e = record { here = here; later = later; here-is = refl; later-is = refl; all-is = cc }
both (uris here) (refused r) us e = absurd (nope (cc))
both (refused r) b us e = absurd (nope (cc))

-- ---- a record

-- x gives some URIs
abbrev Gives : Uris → Type 0
Gives x = (us : List (List ℕ)) × (x ≡ uris us)

-- a payload that gives URIs stands for one, and gives that one
pub of-payload : (x : Expanded) (us : List (List ℕ)) → of_payload x ≡ uris us → (u : List ℕ) × (x ≡ uri u) × (us ≡ u ∷ [])
unfolding of_payload
of-payload (uri u) us e = (u, refl, cc)
of-payload (payload.refused k) us e = absurd (nope (cc))

payload-gives : (x : Expanded) → is_uri x ≡ true → Gives (of_payload x)
unfolding of_payload
payload-gives (uri u) e = (u ∷ [], refl)
payload-gives (payload.refused k) e = absurd (nope (cc))

by_kind : (inner : List ℕ → Uris) (r : Record) (k : Kind) → kind_of_record r ≡ k → of_record inner r ≡ of_kind inner k (payload_of_record r)
unfolding of_record
by_kind inner (ndef tnf type id p) k e = ap (λ x. of_kind inner x p) e

module _ (inner : List ℕ → Uris) (r : Record) where
  pub as-uri : kind_of_record r ≡ uri_record → of_record inner r ≡ of_payload (uri_of (payload_of_record r))
  unfolding of_kind
  as-uri k = by_kind inner r uri_record k

  pub as-poster : kind_of_record r ≡ poster_record → of_record inner r ≡ inner (payload_of_record r)
  unfolding of_kind
  as-poster k = by_kind inner r poster_record k

  as-other : kind_of_record r ≡ other_record → of_record inner r ≡ uris []
  unfolding of_kind
  as-other k = by_kind inner r other_record k

-- ---- a list of records

module _ (inner : List ℕ → Uris) where
  -- each record of a list that gives URIs gives some of them
  each-gives : (rs : List Record) (us : List (List ℕ)) (r : Record) → of_records inner rs ≡ uris us → OneOf r rs
      → (vs : List (List ℕ)) × (of_record inner r ≡ uris vs) × ((u : List ℕ) → OneOf u vs → OneOf u us)
  unfolding of_records
  each-gives [] us r e w = elim w [ ]
  each-gives (x ∷ rs) us r e w =
      let b = both (of_record inner x) (of_records inner rs) us e in
      go b w (each-gives rs b.later r b.later-is)
    where
      go : (b : Both (of_record inner x) (of_records inner rs) us) → OneOf r (x ∷ rs)
          → (OneOf r rs → (vs : List (List ℕ)) × (of_record inner r ≡ uris vs) × ((u : List ℕ) → OneOf u vs → OneOf u b.later))
          → (vs : List (List ℕ)) × (of_record inner r ≡ uris vs) × ((u : List ℕ) → OneOf u vs → OneOf u us)
      go b (inl q) ih = (b.here, ap (of_record inner) q ∙ b.here-is, λ u v. rw b.all-is (in-front u b.here b.later v))
      go b (inr v) ih = let i = ih v in (i.0, i.1, λ u v. rw b.all-is (behind u b.here b.later (i.2 u v)))

  -- and each of them is given by a record
  each_from : (rs : List Record) (us : List (List ℕ)) (u : List ℕ) → of_records inner rs ≡ uris us → OneOf u us
      → (r : Record) × (vs : List (List ℕ)) × OneOf r rs × (of_record inner r ≡ uris vs) × OneOf u vs
  unfolding of_records
  each_from [] us u e w = let q : us ≡ [] = cc in absurd (subst (OneOf u) q w)
  each_from (x ∷ rs) us u e w =
      let b = both (of_record inner x) (of_records inner rs) us e in
      go b (either u b.here b.later (subst (OneOf u) b.all-is w)) (each_from rs b.later u b.later-is)
    where
      go : (b : Both (of_record inner x) (of_records inner rs) us) → OneOf u b.here ⊎ OneOf u b.later
          → (OneOf u b.later → (r : Record) × (vs : List (List ℕ)) × OneOf r rs × (of_record inner r ≡ uris vs) × OneOf u vs)
          → (r : Record) × (vs : List (List ℕ)) × OneOf r (x ∷ rs) × (of_record inner r ≡ uris vs) × OneOf u vs
      go b (inl v) ih = (x, b.here, inl refl, b.here-is, v)
      go b (inr v) ih = let i = ih v in (i.0, i.1, inr i.2, i.3, i.4)

  all_give : (rs : List Record) → ((r : Record) → OneOf r rs → Gives (of_record inner r)) → Gives (of_records inner rs)
  unfolding of_records and_then onto
  all_give [] f = ([], refl)
  all_give (x ∷ rs) f =
      let a = f x (inl refl) in
      let b = all_give rs (λ r w. f r (inr w)) in
      (a.0 ++ b.0, rw (a.1, b.1))

  -- the first fault is met
  pub first_fault : (before after : List Record) (r : Record) (us : List (List ℕ)) (k : ℕ)
      → of_records inner before ≡ uris us → of_record inner r ≡ refused k → of_records inner (before ++ (r ∷ after)) ≡ refused k
  unfolding of_records and_then onto
  first_fault [] after r us k e q = rw q
  first_fault (x ∷ before) after r us k e q =
      let b = both (of_record inner x) (of_records inner before) us e in
      rw (b.here-is, first_fault before after r b.later k b.later-is q)

-- ---- a message

of-records : (d : ℕ) (s : List ℕ) (rs : List Record) → message_of s ≡ records rs → of_poster (suc d) s ≡ of_records (of_poster d) rs
unfolding of_poster of_parsed
of-records d s rs q = ap (of_parsed (of_poster d)) q

-- a poster's message that gives URIs reads, and one poster at least is allowed
pub gives-reads : (d : ℕ) (s : List ℕ) (us : List (List ℕ)) → of_poster d s ≡ uris us → (0 < d) × Reads s
unfolding of_poster of_parsed
gives-reads zero s us e = absurd (nope (cc))
gives-reads (suc d) s us e = (omega arith, go (message_of s) refl e)
  where
    go : (p : Parsed) → message_of s ≡ p → of_parsed (of_poster d) p ≡ uris us → Reads s
    go (records rs) q e = (rs, q)
    go (message.refused k) q e = absurd (nope (cc))

pub at_top : (s : List ℕ) → uris_of s ≡ of_poster (suc deepest) s
unfolding of_poster
at_top s = refl

-- ---- from a record to its URIs

-- A record that stands inside n posters, in a message that gives URIs: n posters are fewer than are allowed, and the record gives some of
-- the URIs.
pub record Within (d n : ℕ) (r : Record) (us : List (List ℕ)) : Type 0 where
  pub left : ℕ
  pub deep : d ≡ n + suc left
  pub own : List (List ℕ)
  pub gives : of_record (of_poster left) r ≡ uris own
  pub among : (u : List ℕ) → OneOf u own → OneOf u us

-- one of the message's own
within-own : (d : ℕ) (r : Record) (s : List ℕ) (us : List (List ℕ)) → of_poster d s ≡ uris us → RecordOf r s → Within d 0 r us
within-own zero r s us e w = absurd (omega (arith, (gives-reads 0 s us e).0))
within-own (suc d) r s us e (rs, q, w) =
    let g = each-gives (of_poster d) rs us r (sym (of-records d s rs q) ∙ e) w in
    record { left = d; deep = omega arith; own = g.0; gives = g.1; among = g.2 }

pub within : (n d : ℕ) (r : Record) (s : List ℕ) (us : List (List ℕ)) → of_poster d s ≡ uris us → StandsIn n r s → Within d n r us
within zero d r s us e w = within-own d r s us e w
within (suc n) d r s us e (p, w, k, v) =
    let a = within-own d p s us e w in
    let b = within n a.left r (payload_of_record p) a.own (sym (as-poster (of_poster a.left) p k) ∙ a.gives) v in
    record { left = b.left; deep = omega (arith, a.deep, b.deep); own = b.own; gives = b.gives; among = λ u x. a.among u (b.among u x) }

-- ---- from a URI to its record

-- u is the URI of a record that stands inside fewer than d posters
abbrev Comes : ℕ → List ℕ → List ℕ → Type 0
Comes d s u = (n : ℕ) × (r : Record) × (n < d) × StandsIn n r s × (kind_of_record r ≡ uri_record) × (uri_of (payload_of_record r) ≡ uri u)

only_one : (u v : List ℕ) (us : List (List ℕ)) → us ≡ v ∷ [] → OneOf u us → v ≡ u
only_one u v us e w = go (subst (OneOf u) e w)
  where
    go : OneOf u (v ∷ []) → v ≡ u
    go (inl q) = sym q
    go (inr x) = absurd x

-- by the record's kind; in a poster it comes from further in
comes-by : (d : ℕ) (s u : List ℕ) (r : Record) (us : List (List ℕ)) → RecordOf r s → of_record (of_poster d) r ≡ uris us → OneOf u us
    → (of_poster d (payload_of_record r) ≡ uris us → Comes d (payload_of_record r) u) → Comes (suc d) s u
comes-by d s u r us w e x inside = go (kind_of_record r) refl
  where
    go : (k : Kind) → kind_of_record r ≡ k → Comes (suc d) s u
    go uri_record k =
        let p = of-payload (uri_of (payload_of_record r)) us (sym (as-uri (of_poster d) r k) ∙ e) in
        (0, r, omega arith, w, k, p.1 ∙ ap uri (only_one u p.0 us p.2 x))
    go poster_record k =
        let (n, y, l, v, q, z) = inside (sym (as-poster (of_poster d) r k) ∙ e) in
        (suc n, y, omega arith, (r, w, k, v), q, z)
    go other_record k = let z : us ≡ [] = cc (as-other (of_poster d) r k) in absurd (subst (OneOf u) z x)

pub comes : (d : ℕ) (s : List ℕ) (us : List (List ℕ)) (u : List ℕ) → of_poster d s ≡ uris us → OneOf u us → Comes d s u
comes zero s us u e x = absurd (omega (arith, (gives-reads 0 s us e).0))
comes (suc d) s us u e x =
    let (rs, q) = (gives-reads (suc d) s us e).1 in
    let (r, vs, w, g, y) = each_from (of_poster d) rs us u (sym (of-records d s rs q) ∙ e) x in
    comes-by d s u r vs (rs, q, w) g y (λ z. comes d (payload_of_record r) vs u z y)

-- ---- a message without a fault

-- it gives URIs where its own posters do
given_by : (d : ℕ) (s : List ℕ) → Reads s → UriRecordsStand s
    → ((r : Record) → RecordOf r s → kind_of_record r ≡ poster_record → Gives (of_poster d (payload_of_record r))) → Gives (of_poster (suc d) s)
given_by d s (rs, q) stand posters =
    let g = all_give (of_poster d) rs (λ r w. go r w (kind_of_record r) refl) in
    (g.0, of-records d s rs q ∙ g.1)
  where
    go : (r : Record) → OneOf r rs → (k : Kind) → kind_of_record r ≡ k → Gives (of_record (of_poster d) r)
    go r w uri_record k =
        let g = payload-gives (uri_of (payload_of_record r)) (stand 0 r (rs, q, w) k) in
        (g.0, as-uri (of_poster d) r k ∙ g.1)
    go r w poster_record k = let g = posters r (rs, q, w) k in (g.0, as-poster (of_poster d) r k ∙ g.1)
    go r w other_record k = ([], as-other (of_poster d) r k)

pub all-given : (d : ℕ) (s : List ℕ) → Reads s → UriRecordsStand s → PostersRead d s → Gives (of_poster (suc d) s)
all-given zero s reads stand posters = given_by 0 s reads stand (λ r w k. absurd (omega (arith, (posters 0 r w k).0)))
all-given (suc d) s reads stand posters =
    given_by (suc d) s reads stand
    (λ r w k. all-given d (payload_of_record r) (posters 0 r w k).1 (λ n x v. stand (suc n) x (r, w, k, v))
    (λ n x v l. let p = posters (suc n) x (r, w, k, v) l in (omega (arith, p.0), p.1)))
