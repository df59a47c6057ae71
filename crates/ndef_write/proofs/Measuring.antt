-- How long the message of a table's records is, row by row.
-- Assumes nothing.
use mathlib.Core.Path.{◌≡◌, refl, sym, ◌∙◌}
use mathlib.Core.Bool.{Bool, true, false, cond}
use mathlib.Core.List.{List, [], ◌∷◌, map}
use Prim.Native.Nat.{ℕ, zero, suc, ◌+◌, ◌*◌, ◌≤◌, ◌<◌}
use native.Mathlib.Numerals.{add-one}
use native.Mathlib.Omega.{arith}
use lib.ListN.{length, take, drop, get_or, length-map, length-append, drop_of_length-le}
use lib.Seq.{drop-cons}
use lib.Dec.{eqb}
use borrow.Author.Tests.{eq-eqb, ne_eqb, le-leb, lt-leb}
use Rattle.std.proofs.lemmas.List.{get_or-take}
use Rattle.std.specs.Simd.{first_chunks}
use Rattle.std.specs.Prelude.{Some, None}
use Rattle.ndef.specs.declared.Place.{Place}
use Rattle.ndef.specs.Record.{Record, ndef}
use Rattle.ndef.specs.Places.{record_at, lies_in, first_place, places_in}
use Rattle.ndef.specs.Shortest.{record_bytes, message_bytes}
use Rattle.ndef.specs.Writing.{is_writable, are_writable, is_writable_list, all_lie_in}
use Rattle.ndef.proofs.HeaderForms.{record-long, header-long}
use Rattle.ndef_write.specs.Views.Sizes.{size_for, places, named, is_list_of, Sized}
use Rattle.ndef_write.proofs.OneRecord.{ok, unfit, sound-place, sized}

-- ---- all records

unfoldable pub all_ok : List ℕ → List Place → Bool
all_ok bytes ps = cond (all_lie_in (length bytes) ps) (are_writable (map (record_at bytes) ps)) false

swap-tests : (a b c d : Bool) → cond (cond a b false) (cond c d false) false ≡ cond (cond a c false) (cond b d false) false
swap-tests true b true d = refl
swap-tests true true false d = refl
swap-tests true false false d = refl
swap-tests false b c d = refl

pub ok-more : (bytes : List ℕ) (p : Place) (ps : List Place) → all_ok bytes (p ∷ ps) ≡ cond (ok bytes p) (all_ok bytes ps) false
unfolding all_ok ok all_lie_in are_writable
ok-more bytes p ps = swap-tests (lies_in (length bytes) p) (all_lie_in (length bytes) ps) (is_writable (record_at bytes p)) (are_writable (map (record_at bytes) ps))

-- the length of a message: that of its records, whose flags do not matter
unfoldable pub total : List Record → ℕ
total [] = 0
total (r ∷ rs) = length (record_bytes 0 0 r) + total rs

same_length : (first last : ℕ) (r : Record) → length (record_bytes first last r) ≡ length (record_bytes 0 0 r)
same_length first last (ndef tnf type id payload) =
    omega (
      arith,
      record-long first last tnf type id payload,
      record-long 0 0 tnf type id payload,
      header-long (first * 128 + last * 64 + tnf) (length type) (length id) (length payload),
      header-long (0 * 128 + 0 * 64 + tnf) (length type) (length id) (length payload),
    )

pub message-long : (first : ℕ) (rs : List Record) → length (message_bytes first rs) ≡ total rs
unfolding message_bytes total
message-long first [] = refl
message-long first (r ∷ rs) =
    let last : ℕ = cond (eqb (length rs) 0) 1 0 in
    omega (arith, length-append (record_bytes first last r) (message_bytes 0 rs), same_length first last r, message-long 0 rs)

-- ---- the rows of a table

pub named-many : (bytes : List ℕ) (rows : List (List ℕ)) → length (named bytes rows) ≡ length rows
named-many bytes rows = length-map (places rows) (record_at bytes) ∙ length-map rows first_place

first-of-row : (t : List ℕ) → first_place (take 7 t) ≡ first_place t
unfolding first_place
first-of-row t = rw (get_or-take 7 t 0 0 (omega arith), get_or-take 7 t 1 0 (omega arith), get_or-take 7 t 2 0 (omega arith), get_or-take 7 t 3 0 (omega arith), get_or-take 7 t 4 0 (omega arith), get_or-take 7 t 5 0 (omega arith), get_or-take 7 t 6 0 (omega arith))

-- the places of a table are those of its rows
pub rows-are : (n : ℕ) (t : List ℕ) → places_in n t ≡ places (first_chunks 7 n t)
unfolding places_in
rows-are zero t = refl
rows-are (suc n) t = rw (first-of-row t, rows-are n (drop 7 t))

-- what a read past the last row would give
abbrev pub blank : List ℕ
blank = []

module _ (bytes : List ℕ) (rows : List (List ℕ)) where
  -- the first `count` rows are looked at
  pub record Measured (sum count : ℕ) : Type 0 where
    pub same_ok : all_ok bytes (places rows) ≡ all_ok bytes (places (drop count rows))
    pub sum_is : total (named bytes rows) ≡ sum + total (named bytes (drop count rows))
    pub small : sum ≤ count * 8589934592

  abbrev pub place-at : ℕ → Place
  place-at count = first_place (get_or rows count blank)

  pub left_is : (count : ℕ) → count < length rows → places (drop count rows) ≡ place-at count ∷ places (drop (count + 1) rows)
  left_is count l = rw (add-one, drop-cons rows count blank l)

  module _ (some : length rows ≡ 0 → ⊥) (few : length rows ≤ 16) where
    -- the tests of a table that has one to sixteen places
    tests-are : is_list_of bytes rows ≡ all_ok bytes (places rows)
    unfolding is_writable_list all_ok
    tests-are = rw (ne_eqb (length (named bytes rows)) 0 (omega (arith, named-many bytes rows)), le-leb (length (named bytes rows)) 16 (omega (arith, named-many bytes rows)))

    module _ {sum count : ℕ} (w : Measured sum count) where
      module _ (l : count < length rows) where
        turn-ok : all_ok bytes (places rows) ≡ cond (ok bytes (place-at count)) (all_ok bytes (places (drop (count + 1) rows))) false
        turn-ok = w.same_ok ∙ rw (left_is count l) (ok-more bytes (place-at count) (places (drop (count + 1) rows)))

        pub bad-place : size_for (length bytes) (place-at count) ≡ None → is_list_of bytes rows ≡ false
        bad-place z = tests-are ∙ turn-ok ∙ rw (unfit bytes (place-at count) z)

        pub good-place : (n : ℕ) → size_for (length bytes) (place-at count) ≡ Some n → n < 8589934592 → Measured (sum + n) (count + 1)
        unfolding total
        good-place n e s =
            let p = place-at count in
            let rest = named bytes (drop (count + 1) rows) in
            let size : n ≡ length (record_bytes 0 0 (record_at bytes p)) = sized bytes p n e 0 0 in
            let whole : total (named bytes rows) ≡ sum + (length (record_bytes 0 0 (record_at bytes p)) + total rest) = w.sum_is ∙ rw (left_is count l) in
            record {
              same_ok = turn-ok ∙ rw (sound-place bytes p n e);
              sum_is = omega (arith, whole, size);
              small = omega (arith, w.small);
            }

      pub all-measured : length rows ≤ count → Sized bytes rows sum
      unfolding total all_ok all_lie_in are_writable
      all-measured l =
          let done : drop count rows ≡ [] = drop_of_length-le rows {i = count} l in
          let sum-all : total (named bytes rows) ≡ sum = w.sum_is ∙ rw done (omega arith) in
          record {
            given = tests-are ∙ w.same_ok ∙ rw done;
            size_is = sym sum-all ∙ sym (message-long 1 (named bytes rows));
          }

  -- ---- tables that are refused before the loop

  never : (b : Bool) → cond b false false ≡ false
  never true = refl
  never false = refl

  pub no_record : length rows ≡ 0 → is_list_of bytes rows ≡ false
  unfolding is_writable_list
  no_record e = rw (eq-eqb (length (named bytes rows)) 0 (omega (arith, named-many bytes rows))) (never (all_lie_in (length bytes) (places rows)))

  pub too_many : 16 < length rows → is_list_of bytes rows ≡ false
  unfolding is_writable_list
  too_many l =
      rw (ne_eqb (length (named bytes rows)) 0 (omega (arith, named-many bytes rows)), lt-leb (length (named bytes rows)) 16 (omega (arith, named-many bytes rows)))
      (never (all_lie_in (length bytes) (places rows)))
