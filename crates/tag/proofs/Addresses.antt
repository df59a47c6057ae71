-- Lists of addresses that rise, and what an overlay at such addresses reads back as. One predicate gives their order, that no
-- address occurs twice, and their bounds.
-- Assumes nothing.
use mathlib.Core.Path.{◌≡◌, refl, ap, ◌∙◌}
use mathlib.Core.Bool.{true, false, not}
use mathlib.Core.List.{List, [], ◌∷◌, ◌++◌, map}
use Prim.Native.Nat.{ℕ, zero, suc, ◌+◌, ◌<◌, ◌≤◌}
use native.Mathlib.Nat.{not-suc-le-zero}
use native.Mathlib.Omega.{arith}
use borrow.Author.Tests.{ne_eqb}
use lib.Dec.{eqb}
use lib.ListN.{length, set, take, drop}
use lib.Seq.{get_or-set_same, get_or-set_other, set_comm}
use Rattle.tag.specs.Bytes.{byte, run, overlay, is_set}
use Rattle.tag.proofs.Images.{length-overlay}

module _ (hi : ℕ) where
  -- x lies below all of us, they rise, and hi lies above x and them
  abbrev pub Above : ℕ → List ℕ → Type 0
  Above x [] = x < hi
  Above x (y ∷ us) = (x < y) × Above y us

  abbrev pub Rising : List ℕ → Type 0
  Rising [] = Unit {0}
  Rising (x ∷ us) = Above x us

  pub above-less : (x y : ℕ) (us : List ℕ) → x ≤ y → Above y us → Above x us
  above-less x y [] l h = omega arith
  above-less x y (z ∷ us) l h = (omega (arith, h.0), h.1)

  pub above-rising : (x : ℕ) (us : List ℕ) → Above x us → Rising us
  above-rising x [] h = tt
  above-rising x (y ∷ us) h = h.1

  pub above-drop : (x n : ℕ) (us : List ℕ) → Above x us → Above x (drop n us)
  above-drop x zero us h = h
  above-drop x (suc n) [] h = h
  above-drop x (suc n) (y ∷ us) h = above-drop x n us (above-less x y us (omega (arith, h.0)) h.1)

  pub rising-drop : (n : ℕ) (us : List ℕ) → Rising us → Rising (drop n us)
  rising-drop zero us h = h
  rising-drop (suc n) [] h = tt
  rising-drop (suc n) (x ∷ us) h = above-rising x (drop n us) (above-drop x n us h)

  pub above-hi : (x : ℕ) (us : List ℕ) → Above x us → x < hi
  above-hi x [] h = h
  above-hi x (y ∷ us) h = omega (arith, h.0, above-hi y us h.1)

  pub above-take : (n x : ℕ) (us : List ℕ) → Above x us → Above x (take n us)
  above-take zero x us h = above-hi x us h
  above-take (suc n) x [] h = h
  above-take (suc n) x (y ∷ us) h = (h.0, above-take n y us h.1)

  pub above-length : (x : ℕ) (us : List ℕ) → Above x us → x + length us < hi
  above-length x [] h = omega arith
  above-length x (y ∷ us) h = omega (arith, h.0, above-length y us h.1)

  -- an address that lies below them all is not set
  pub above-unset : (us vs : List ℕ) (x y : ℕ) → Above x us → y ≤ x → not (is_set us vs y) ≡ true
  above-unset [] vs x y h l = refl
  above-unset (z ∷ us) [] x y h l = refl
  above-unset (z ∷ us) (v ∷ vs) x y h l =
      let q : eqb z y ≡ false = ne_eqb z y (λ e. omega (arith, h.0)) in
      rw q (above-unset us vs z y h.1 (omega (arith, h.0)))

  -- a store below them changes none of their bytes
  pub map-out : (ws i : List ℕ) (x v : ℕ) → Above x ws → map (byte (set i x v)) ws ≡ map (byte i) ws
  map-out [] i x v h = refl
  map-out (y ∷ ws) i x v h =
      cc (get_or-set_other i x y v 0 (omega (arith, h.0)), map-out ws i x v (above-less x y ws (omega (arith, h.0)) h.1))

  -- what an overlay sets is read back
  pub overlay-reads : (m r us i : List ℕ) (x : ℕ) → Above x us → hi ≤ length i → length m ≤ length us
      → map (byte (overlay us (m ++ r) i)) (take (length m) us) ≡ m
  overlay-reads [] r us i x h l k = refl
  overlay-reads (v ∷ m) r [] i x h l k = absurd (not-suc-le-zero k)
  overlay-reads (v ∷ m) r (y ∷ us) i x h l k =
      cc (
        get_or-set_same (overlay us (m ++ r) i) y v 0 (omega (arith, length-overlay us (m ++ r) i, above-hi y us h.1)),
        map-out (take (length m) us) (overlay us (m ++ r) i) y v (above-take (length m) y us h.1),
        overlay-reads m r us i y h.1 l (omega arith),
      )

  -- a store below them may come first
  pub overlay-set : (us vs i : List ℕ) (x v : ℕ) → Above x us → set (overlay us vs i) x v ≡ overlay us vs (set i x v)
  overlay-set [] vs i x v h = refl
  overlay-set (y ∷ us) [] i x v h = refl
  overlay-set (y ∷ us) (b ∷ vs) i x v h =
      set_comm (overlay us vs i) y x b v (λ e. omega (arith, h.0))
      ∙ ap (λ j. set j y b) (overlay-set us vs i x v (above-less x y us (omega (arith, h.0)) h.1))

-- ---- consecutive addresses

pub above-run : (n a hi : ℕ) → a + n < hi → Above hi a (run (suc a) n)
above-run zero a hi h = omega arith
above-run (suc n) a hi h = (omega arith, above-run n (suc a) hi (omega arith))
