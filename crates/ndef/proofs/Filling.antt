-- Filling in the table of places, header by header.
-- Assumes nothing.
use mathlib.Core.Path.{◌≡◌, refl, sym, ap, ◌∙◌}
use mathlib.Core.List.{List, [], ◌∷◌, ◌++◌, append-nil, append_assoc}
use Prim.Native.Nat.{ℕ, ◌+◌, ◌*◌, ◌≤◌, ◌<◌}
use native.Mathlib.Omega.{arith}
use native.Mathlib.Numerals.{add-one}
use lib.ListN.{length, drop, get_or, length-append, drop_of_length-le}
use lib.Seq.{sets, drop-cons}
use Rattle.tag.specs.Bytes.{overwrite}
use Rattle.tag.proofs.Storing.{sets-append, sets-front}
use Rattle.ndef.specs.declared.Place.{Place}
use Rattle.ndef.specs.declared.headers.Header.{Header}
use Rattle.ndef.specs.Places.{numbers_of, table_of}
use Rattle.ndef.specs.Views.Headers.{length_for, span_of, place_for, places_by}
use Rattle.ndef.proofs.Tables.{table-long}

-- what a read past the end of a list of headers would give
abbrev pub blank : Header
blank = record { flags = record { 0 = 0 }; len = 0; rtype = 0; id = 0; payload = 0 }

table-behind : (ps : List Place) (p : Place) → table_of (ps ++ (p ∷ [])) ≡ table_of ps ++ numbers_of p
unfolding table_of
table-behind [] p = append-nil (numbers_of p)
table-behind (q ∷ ps) p = ap (λ t. numbers_of q ++ t) (table-behind ps p) ∙ sym (append_assoc (numbers_of q) (table_of ps) (numbers_of p))

module _ (hs : List Header) (size : ℕ) (table₀ : List ℕ) where
  -- the places of the first `count` records are in the table, and `at` bytes of the message are theirs
  pub record Filled (table : List ℕ) (count at : ℕ) : Type 0 where
    pub front : List Place
    pub long : length front ≡ count
    pub all : places_by 0 hs ≡ front ++ places_by at (drop count hs)
    pub put : table ≡ sets table₀ 0 (table_of front)
    pub taken : at + span_of (drop count hs) ≡ size

  pub none_filled : span_of hs ≡ size → Filled table₀ 0 0
  unfolding table_of
  none_filled e = record { front = []; long = refl; all = refl; put = refl; taken = omega (arith, e) }

  module _ {table : List ℕ} {count at : ℕ} (w : Filled table count at) where
    module _ (l : count < length hs) where
      abbrev h : Header
      h = get_or hs count blank

      next : drop count hs ≡ h ∷ drop (count + 1) hs
      next = rw (add-one, drop-cons hs count blank l)

      -- the record lies in the message
      pub fits : at + length_for h ≤ size
      fits = omega (arith, w.taken, ap span_of next)

      pub one_filled : Filled (sets table (7 * count) (numbers_of (place_for h at))) (count + 1) (at + length_for h)
      one_filled = record {
        front = w.front ++ (place_for h at ∷ []);
        long = length-append w.front (place_for h at ∷ []) ∙ ap (λ n. n + 1) w.long;
        all = w.all ∙ rw next (sym (append_assoc w.front (place_for h at ∷ []) _));
        put = ap (λ t. sets t (7 * count) (numbers_of (place_for h at))) w.put
            ∙ rw (table-behind w.front (place_for h at), ← start) (sym (sets-append (table_of w.front) (numbers_of (place_for h at)) table₀ 0));
        taken = omega (arith, w.taken, ap span_of next);
      }
        where
          start : 0 + length (table_of w.front) ≡ 7 * count
          start = omega (arith, table-long w.front, w.long)

    pub all_filled : length hs ≤ count → 7 * count ≤ length table₀ → table ≡ overwrite (table_of (places_by 0 hs)) table₀
    all_filled l k =
        let done : places_by 0 hs ≡ w.front = w.all ∙ rw (drop_of_length-le hs {i = count} l, append-nil) in
        w.put ∙ rw done (sets-front (table_of w.front) table₀ (omega (arith, table-long w.front, w.long)))
