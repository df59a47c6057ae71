-- The first of two findings.
-- Assumes nothing.
use mathlib.Core.Path.{◌≡◌, refl}
use mathlib.Core.Bool.{true}
use mathlib.Core.List.{List}
use Prim.Native.Nat.{ℕ}
use Rattle.std.specs.Prelude.{Ok, Option, Some, None}
use Rattle.std.specs.Borrow.{Bor}
use Rattle.std.specs.Option.{option_or}
use Rattle.tag.proofs.Logic.{nope}
use Rattle.uri.specs.Payload.{Expanded, uri, uri_of, is_uri}
use Rattle.uri.specs.Payload as payload
use Rattle.smart_poster.specs.Uris.{of_payload}
use Rattle.smart_poster.specs.First.{refused, found, first_in}
use Rattle.smart_poster.specs.Views.Findings.{found_of, Stands}
use Rattle.smart_poster.proofs.Folding.{joined}

-- what stands for a URI gives it
uri-found : (e : Expanded) → is_uri e ≡ true → (u : List ℕ) × (first_in (of_payload e) ≡ found u)
unfolding first_in of_payload
uri-found (uri u) q = (u, refl)
uri-found (payload.refused r) q = absurd (nope (cc))

pub joined-refused : (x : Option (Bor (List ℕ))) (r : ℕ) → Stands (Ok x) → joined (found_of (Ok x)) (refused r) ≡ refused r
joined-refused None r w = refl
joined-refused (Some p) r w = let (u, e) = uri-found (uri_of p.now) w in rw e

pub found-earlier : (x y : Option (Bor (List ℕ))) → Stands (Ok x) → Stands (Ok y) → found_of (Ok (option_or x y)) ≡ joined (found_of (Ok x)) (found_of (Ok y))
found-earlier None y v w = refl
found-earlier (Some p) None v w = let (u, e) = uri-found (uri_of p.now) v in rw e
found-earlier (Some p) (Some q) v w =
    let (u, e) = uri-found (uri_of p.now) v in
    let (u', e') = uri-found (uri_of q.now) w in
    rw (e, e')

pub stands-earlier : (x y : Option (Bor (List ℕ))) → Stands (Ok x) → Stands (Ok y) → Stands (Ok (option_or x y))
stands-earlier None y v w = w
stands-earlier (Some p) y v w = v
