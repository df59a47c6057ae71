-- The first URI of two things in order: the first fault, else the first URI.
-- Assumes nothing.
use mathlib.Core.Path.{◌≡◌, refl}
use mathlib.Core.List.{[], ◌∷◌}
use Rattle.smart_poster.specs.Uris.{Uris, uris, onto, and_then}
use Rattle.smart_poster.specs.Uris as all
use Rattle.smart_poster.specs.First.{Found, refused, none, found, first_in}

abbrev pub joined : Found → Found → Found
joined (refused r) later = refused r
joined none later = later
joined (found u) (refused r) = refused r
joined (found u) none = found u
joined (found u) (found v) = found u

pub joined-none : (a : Found) → joined a none ≡ a
joined-none (refused r) = refl
joined-none none = refl
joined-none (found u) = refl

pub joined-joined : (a b c : Found) → joined (joined a b) c ≡ joined a (joined b c)
joined-joined (refused r) b c = refl
joined-joined none b c = refl
joined-joined (found u) (refused r) c = refl
joined-joined (found u) none c = refl
joined-joined (found u) (found v) (refused r) = refl
joined-joined (found u) (found v) none = refl
joined-joined (found u) (found v) (found w) = refl

pub first_then : (a b : Uris) → first_in (and_then a b) ≡ joined (first_in a) (first_in b)
unfolding first_in and_then onto
first_then (all.refused r) b = refl
first_then (uris []) (uris more) = refl
first_then (uris []) (all.refused r) = refl
first_then (uris (u ∷ us)) (uris []) = refl
first_then (uris (u ∷ us)) (uris (v ∷ more)) = refl
first_then (uris (u ∷ us)) (all.refused r) = refl
