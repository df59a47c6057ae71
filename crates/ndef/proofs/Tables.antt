-- The table of a message's places, with the message for its bytes, is the list of its records.
-- Assumes nothing.
use mathlib.Core.Path.{◌≡◌, refl, sym, ap, ap₂, ◌∙◌}
use mathlib.Core.Bool.{Bool, true, false, ◌&&◌}
use mathlib.Core.List.{List, [], ◌∷◌, map}
use Prim.Native.Nat.{ℕ, zero, suc, ◌+◌, ◌-◌, ◌*◌, ◌/◌, ◌%◌, ◌≤◌}
use native.Mathlib.Omega.{arith}
use native.Mathlib.Nat.{add_assoc}
use lib.ListN.{length, drop, length-map, length-append, length-drop}
use lib.Seq.{drop-drop}
use lib.Dec.{eqb, leb}
use borrow.Author.Tests.{eq-eqb, ne_eqb, eqb-true, eqb-false, le-leb}
use Rattle.tag.specs.Bytes.{byte}
use Rattle.tag.specs.Checks.{fine, first_of}
use Rattle.std.specs.Prelude.{Err}
use Rattle.tag.specs.declared.refusals.Refusal as named
use Rattle.tag.specs.TagType.{refused_output, output}
use Rattle.tag.specs.Answers.{number_of, count_of, count_as}
use Rattle.tag.proofs.Logic.{nope}
use Rattle.ndef.specs.declared.Place.{Place}
use Rattle.ndef.specs.Record.{Record}
use Rattle.ndef.specs.Header.{header_length, id_length, payload_length, record_length}
use Rattle.ndef.specs.Message.{Parsed, records, refused, part, record_checks, record_by, record_of, records_of, message_of}
use Rattle.ndef.specs.Places.{record_at, lies_in, numbers_of, table_of, first_place, places_in, place_of, places_of, read_by, read}
use Rattle.ndef.specs.Writing.{all_lie_in, places_of_table, is_list, records_in}
use Rattle.ndef.proofs.Turns.{too_many, no-message, some-message, whole, Step, step, none_read}

-- ---- one turn

pub no-places : (n at : ℕ) (s : List ℕ) → length s ≡ 0 → places_of n at s ≡ []
unfolding places_of
no-places zero at s e = refl
no-places (suc n) at s e = rw (places_of, eq-eqb (length s) 0 e)

pub one_place : (n at : ℕ) (s : List ℕ) → (length s ≡ 0 → ⊥) → places_of (suc n) at s ≡ place_of at s ∷ places_of n (at + record_length s) (drop (record_length s) s)
unfolding places_of
one_place n at s f = rw (places_of, ne_eqb (length s) 0 f)

-- the place of a record names its parts
pub record-at : (s : List ℕ) (at : ℕ) → record_at s (place_of at (drop at s)) ≡ record_of (drop at s)
unfolding record_at place_of record_of record_by part
record-at s at = rw (drop-drop, drop-drop, drop-drop) (simp add_assoc)

and-three : (a b c : Bool) → a ≡ true → b ≡ true → c ≡ true → a && b && c ≡ true
and-three a b c p q r = rw (p, q, r)

pub lies : (s : List ℕ) (at first : ℕ) → at ≤ length s → first_of (record_checks first (drop at s)) ≡ fine → lies_in (length s) (place_of at (drop at s)) ≡ true
unfolding lies_in place_of record_length
lies s at first a e =
    let d = drop at s in
    let h : ℕ = header_length (byte d 0) in
    let i : ℕ = id_length (byte d 0) d in
    let p : ℕ = payload_length (byte d 0) d in
    let w : h + byte d 1 + i + p ≤ length s - at = rw (← length-drop at s) (whole first d e) in
    and-three (leb (at + h + byte d 1) (length s)) (leb (at + h + byte d 1 + i) (length s)) (leb (at + h + byte d 1 + i + p) (length s))
    (le-leb (at + h + byte d 1) (length s) (omega arith)) (le-leb (at + h + byte d 1 + i) (length s) (omega arith)) (le-leb (at + h + byte d 1 + i + p) (length s) (omega arith))

-- ---- the places of a list

module _ (s : List ℕ) where
  -- the records from `at` on: their places name them, and lie in s
  abbrev Cut : ℕ → ℕ → List Record → Type 0
  Cut n at rs = (map (record_at s) (places_of n at (drop at s)) ≡ rs) × (all_lie_in (length s) (places_of n at (drop at s)) ≡ true)

  cut-none : (n at first : ℕ) (rs : List Record) → length (drop at s) ≡ 0 → records_of first n (drop at s) ≡ records rs → Cut n at rs
  unfolding all_lie_in
  cut-none n at first rs z e = rw (no-places n at (drop at s) z) (sym (none_read first n (drop at s) rs z e), refl)

  cut-more : (n at first : ℕ) (rs : List Record) → at ≤ length s → (length (drop at s) ≡ 0 → ⊥) → (t : Step first n (drop at s) rs)
      → Cut n (at + record_length (drop at s)) t.more → Cut (suc n) at rs
  unfolding all_lie_in
  cut-more n at first rs a f t ih =
      let next : drop (record_length (drop at s)) (drop at s) ≡ drop (at + record_length (drop at s)) s = drop-drop (record_length (drop at s)) at s in
      rw (one_place n at (drop at s) f, next, lies s at first a t.passes) (ap₂ ◌∷◌ (record-at s at) ih.0 ∙ sym t.list-is, ih.1)

  cut : (n at first : ℕ) (rs : List Record) → at ≤ length s → records_of first n (drop at s) ≡ records rs → Cut n at rs
  cut zero at first rs a e = go (eqb (length (drop at s)) 0) refl
    where
      go : (b : Bool) → eqb (length (drop at s)) 0 ≡ b → Cut 0 at rs
      go true q = cut-none 0 at first rs (eqb-true (length (drop at s)) 0 q) e
      go false q = absurd (nope (cc (too_many first (drop at s) (eqb-false (length (drop at s)) 0 q))))
  cut (suc n) at first rs a e = go (eqb (length (drop at s)) 0) refl (λ more l q. cut n (at + record_length (drop at s)) 0 more l q)
    where
      go : (b : Bool) → eqb (length (drop at s)) 0 ≡ b
          → ((more : List Record) → at + record_length (drop at s) ≤ length s → records_of 0 n (drop (at + record_length (drop at s)) s) ≡ records more
          → Cut n (at + record_length (drop at s)) more) → Cut (suc n) at rs
      go true q ih = cut-none (suc n) at first rs (eqb-true (length (drop at s)) 0 q) e
      go false q ih =
          let f : length (drop at s) ≡ 0 → ⊥ = eqb-false (length (drop at s)) 0 q in
          let t = step first n (drop at s) rs f e in
          let l : record_length (drop at s) ≤ length s - at = rw (← length-drop at s) (whole first (drop at s) t.passes) in
          cut-more n at first rs a f t (ih t.more (omega arith) (rw (drop-drop (record_length (drop at s)) at s) at t.reads_more))

-- ---- tables

pub table-long : (ps : List Place) → length (table_of ps) ≡ 7 * length ps
unfolding table_of numbers_of
table-long [] = refl
table-long (p ∷ ps) = omega (arith, length-append (numbers_of p) (table_of ps), table-long ps)

places-back : (ps : List Place) → places_in (length ps) (table_of ps) ≡ ps
unfolding places_in table_of numbers_of first_place
places-back [] = refl
places-back (p ∷ ps) = ap (λ qs. p ∷ qs) (places-back ps)

pub table-places : (ps : List Place) → places_of_table (table_of ps) ≡ ps
table-places ps = let e : length (table_of ps) / 7 ≡ length ps = omega (arith, table-long ps) in rw e (places-back ps)

-- ---- what reading gives

-- a message that reads: the list, and the table
pub record Given (m : List ℕ) (n : ℕ) (t : List ℕ) : Type 0 where
  pub list : List Record
  pub reads : message_of m ≡ records list
  pub counted : n ≡ length list
  pub table_is : t ≡ table_of (places_of 16 0 m)

pub given : (m : List ℕ) (n : ℕ) (t : List ℕ) → read m ≡ output n t → Given m n t
unfolding read read_by
given m n t e = go (message_of m) refl e
  where
    go : (p : Parsed) → message_of m ≡ p → read_by m p ≡ output n t → Given m n t
    go (records rs) q e = record { list = rs; reads = q; counted = cc; table_is = cc }
    go (refused r) q e = absurd (nope (cc))

pub reads-output : (m : List ℕ) (rs : List Record) → message_of m ≡ records rs → read m ≡ output (length rs) (table_of (places_of 16 0 m))
unfolding read read_by
reads-output m rs e = rw e

pub reads-refused : (m : List ℕ) (r : ℕ) → message_of m ≡ refused r → read m ≡ refused_output r
unfolding read read_by
reads-refused m r e = rw e

pub refused-reads : (m : List ℕ) (r : ℕ) → read m ≡ refused_output r → message_of m ≡ refused r
unfolding read read_by
refused-reads m r e = go (message_of m) refl e
  where
    go : (p : Parsed) → message_of m ≡ p → read_by m p ≡ refused_output r → message_of m ≡ refused r
    go (records rs) q e = absurd (nope (cc))
    go (refused k) q e = q ∙ ap refused (cc)

-- ---- the answer as the code gives it

pub answers-refused : (m : List ℕ) (f : named.Refusal) → message_of m ≡ refused (number_of f) → count_as (Err f) ≡ count_of (read m)
answers-refused m f e = ap count_of (sym (reads-refused m (number_of f) e))

-- ---- the list

-- a message that reads is not empty, and its records are those that the walk from its first byte gives
pub from_start : (m : List ℕ) (rs : List Record) → message_of m ≡ records rs → records_of 1 16 m ≡ records rs
from_start m rs e = go (eqb (length m) 0) refl
  where
    go : (b : Bool) → eqb (length m) 0 ≡ b → records_of 1 16 m ≡ records rs
    go true q = absurd (nope (cc (no-message m (eqb-true (length m) 0 q))))
    go false q = sym (some-message m (eqb-false (length m) 0 q)) ∙ e

module _ (m : List ℕ) (rs : List Record) (e : message_of m ≡ records rs) where
  whole-cut : (map (record_at m) (places_of 16 0 m) ≡ rs) × (all_lie_in (length m) (places_of 16 0 m) ≡ true)
  whole-cut = cut m 16 0 1 rs (omega arith) (from_start m rs e)

  pub table-list : records_in (table_of (places_of 16 0 m)) m ≡ rs
  table-list = rw (table-places (places_of 16 0 m)) whole-cut.0

  pub places-many : length (places_of 16 0 m) ≡ length rs
  places-many = sym (length-map (places_of 16 0 m) (record_at m)) ∙ ap length whole-cut.0

  pub table-is-list : is_list (table_of (places_of 16 0 m)) m ≡ true
  unfolding is_list
  table-is-list =
      rw (eq-eqb (length (table_of (places_of 16 0 m)) % 7) 0 (omega (arith, table-long (places_of 16 0 m))), table-places (places_of 16 0 m)) whole-cut.1
