-- The headers of a message's records: one by one, the places that they give, and where each lies.
-- Assumes nothing.
use mathlib.Core.Path.{◌≡◌, refl, sym, ap, ◌∙◌}
use mathlib.Core.Bool.{Bool, true, false}
use mathlib.Core.List.{List, [], ◌∷◌}
use Prim.Native.Nat.{ℕ, zero, suc, ◌+◌, ◌-◌, ◌<◌, ◌≤◌}
use native.Mathlib.Nat.{add-zero}
use native.Mathlib.Omega.{arith}
use lib.ListN.{length, drop, get_or, length-drop}
use lib.Seq.{drop-drop}
use Rattle.std.proofs.lemmas.List.{get_or-drop}
use lib.Dec.{eqb}
use borrow.Author.Tests.{eq-eqb, ne_eqb, eqb-true, eqb-false}
use Rattle.tag.specs.TagType.{output}
use Rattle.ndef.specs.declared.headers.Header.{Header}
use Rattle.ndef.specs.Header.{record_length}
use Rattle.ndef.specs.Places.{table_of, place_of, places_of, read}
use Rattle.ndef.specs.Views.Headers.{header_of, headers_of, length_for, place_for, places_by, Headed}
use Rattle.ndef.proofs.Tables.{no-places, one_place, places-many, reads-output}

pub length-is : (s : List ℕ) → length_for (header_of s) ≡ record_length s
unfolding record_length
length-is s = refl

pub place_is : (s : List ℕ) (at : ℕ) → place_for (header_of s) at ≡ place_of at s
unfolding place_of
place_is s at = refl

-- ---- one turn

pub none-headed : (n : ℕ) (s : List ℕ) → length s ≡ 0 → headers_of n s ≡ []
unfolding headers_of
none-headed zero s e = refl
none-headed (suc n) s e = rw (headers_of, eq-eqb (length s) 0 e)

pub one-headed : (n : ℕ) (s : List ℕ) → (length s ≡ 0 → ⊥) → headers_of (suc n) s ≡ header_of s ∷ headers_of n (drop (record_length s) s)
unfolding headers_of
one-headed n s f = rw (headers_of, ne_eqb (length s) 0 f)

-- the places by the headers are those of the definition
pub places-are : (n at : ℕ) (s : List ℕ) → places_by at (headers_of n s) ≡ places_of n at s
unfolding headers_of places_of
places-are zero at s = refl
places-are (suc n) at s = go (eqb (length s) 0) refl (places-are n (at + record_length s) (drop (record_length s) s))
  where
    go : (b : Bool) → eqb (length s) 0 ≡ b → places_by (at + record_length s) (headers_of n (drop (record_length s) s)) ≡ places_of n (at + record_length s) (drop (record_length s) s)
        → places_by at (headers_of (suc n) s) ≡ places_of (suc n) at s
    go true q ih = let e = eqb-true (length s) 0 q in rw (none-headed (suc n) s e, no-places (suc n) at s e)
    go false q ih =
        let f : length s ≡ 0 → ⊥ = eqb-false (length s) 0 q in
        rw (one-headed n s f, one_place n at s f, place_is s at, length-is s, ih)

one-each : (at : ℕ) (hs : List Header) → length (places_by at hs) ≡ length hs
one-each at [] = refl
one-each at (h ∷ hs) = ap suc (one-each (at + length_for h) hs)

module _ (s : List ℕ) (hs : List Header) (w : Headed s hs) where
  all-places : places_by 0 hs ≡ places_of 16 0 s
  all-places = ap (places_by 0) w.headers_are ∙ places-are 16 0 s

  pub headed-many : length hs ≡ length w.list
  headed-many = sym (one-each 0 hs) ∙ ap length all-places ∙ places-many s w.list w.reads

  -- what reading gives
  pub headed-reads : read s ≡ output (length hs) (table_of (places_by 0 hs))
  headed-reads = reads-output s w.list w.reads ∙ rw (headed-many, all-places)

-- ---- where the records lie

-- the header number `count` is that of the record after `at` bytes
abbrev pub Aligned : List ℕ → ℕ → ℕ → Type 0
Aligned s count at = drop count (headers_of 16 s) ≡ headers_of (16 - count) (drop at s)

pub aligned-start : (s : List ℕ) → Aligned s 0 0
aligned-start s = refl

module _ (s : List ℕ) (count at : ℕ) (w : Aligned s count at) where
  -- the bytes end where the headers do
  pub aligned-end : length (drop at s) ≡ 0 → length (headers_of 16 s) ≤ count
  aligned-end e =
      let none : drop count (headers_of 16 s) ≡ [] = w ∙ none-headed (16 - count) (drop at s) e in
      omega (arith, length-drop count (headers_of 16 s), ap length none)

  module _ (l : count < length (headers_of 16 s)) where
    -- a record follows
    pub aligned-some : length (drop at s) ≡ 0 → ⊥
    aligned-some e = omega (arith, aligned-end e)

    none-left : length (drop count (headers_of 16 s)) ≡ length (headers_of 0 (drop at s)) → ⊥
    unfolding headers_of
    none-left e = omega (arith, length-drop count (headers_of 16 s))

    few : (n : ℕ) → 16 - count ≡ n → 16 - count ≡ suc (16 - (count + 1))
    few zero q = absurd (none-left (ap length (w ∙ ap (λ n. headers_of n (drop at s)) q)))
    few (suc n) q = omega arith

    turn : drop count (headers_of 16 s) ≡ header_of (drop at s) ∷ headers_of (16 - (count + 1)) (drop (at + record_length (drop at s)) s)
    turn = w ∙ rw (few (16 - count) refl, one-headed (16 - (count + 1)) (drop at s) aligned-some, drop-drop)

    pub aligned-header : (h : Header) → get_or (headers_of 16 s) count h ≡ header_of (drop at s)
    aligned-header h = sym (rw add-zero at (get_or-drop count (headers_of 16 s) 0 h)) ∙ ap (λ hs. get_or hs 0 h) turn

    pub aligned-turn : Aligned s (count + 1) (at + record_length (drop at s))
    aligned-turn = sym (drop-drop 1 count (headers_of 16 s)) ∙ ap (drop 1) turn
