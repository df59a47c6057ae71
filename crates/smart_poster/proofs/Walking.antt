-- Looking at the records of a message one after the other: what a loop over their headers has reached.
-- Assumes nothing.
use mathlib.Core.Path.{◌≡◌, refl, sym, ap, ◌∙◌}
use mathlib.Core.Bool.{Bool, true, false}
use mathlib.Core.List.{List, [], ◌∷◌}
use Prim.Native.Nat.{ℕ, zero, suc, ◌+◌, ◌-◌, ◌≤◌, ◌<◌}
use native.Mathlib.Omega.{arith}
use lib.ListN.{length, drop, get_or, length-take, length-drop}
use lib.Seq.{drop-drop}
use lib.Dec.{eqb}
use borrow.Author.Tests.{eqb-true, eqb-false}
use Rattle.std.specs.Prelude.{Ok, Option, None}
use Rattle.std.specs.Borrow.{Bor}
use Rattle.std.specs.Option.{option_or}
use Rattle.tag.specs.Bytes.{byte}
use Rattle.tag.proofs.Logic.{nope}
use Rattle.ndef.specs.declared.Place.{Place}
use Rattle.ndef.specs.declared.headers.Header.{Header}
use Rattle.ndef.specs.Record.{Record}
use Rattle.ndef.specs.Header.{record_length}
use Rattle.ndef.specs.Message.{part, records, record_of, records_of, message_of}
use Rattle.ndef.specs.Places.{part_at, record_at, place_of}
use Rattle.ndef.specs.Views.Headers.{header_of, headers_of, length_for, place_for, Headed}
use Rattle.ndef.proofs.Turns.{too_many, whole, Step, step, none_read}
use Rattle.ndef.proofs.Testing.{header-some}
use Rattle.ndef.proofs.Placing.{Aligned, aligned-start, one-headed, aligned-some, aligned-header, aligned-turn, length-is, place_is}
use Rattle.ndef.proofs.Filling.{blank}
use Rattle.ndef.proofs.Tables.{record-at, from_start}
use Rattle.smart_poster.specs.Records.{Kind, kind_of}
use Rattle.smart_poster.specs.Uris.{Uris, of_kind, of_record, of_records, of_parsed}
use Rattle.smart_poster.specs.First.{Found, refused, first_in}
use Rattle.smart_poster.specs.Views.Findings.{found_of, Stands}
use Rattle.smart_poster.proofs.Folding.{joined, joined-none, joined-joined, first_then}
use Rattle.smart_poster.proofs.Findings.{joined-refused, found-earlier, stands-earlier}

-- a record's type and payload lie in a message of so many bytes
pub record Lies (size : ℕ) (p : Place) : Type 0 where
  pub type_inside : p.rtype.at + p.rtype.len ≤ size
  pub payload_inside : p.payload.at + p.payload.len ≤ size

module _ (inner : List ℕ → Uris) (s : List ℕ) (hs : List Header) where
  -- what the message gives is what was found before `at`, in `count` records, and then what the records from there on give
  pub record Reached (count at : ℕ) (x : Option (Bor (List ℕ))) : Type 0 where
    pub headed : Headed s hs
    pub first : ℕ
    pub rest : List Record
    pub inside : at ≤ length s
    pub aligned : Aligned s count at
    pub left : records_of first (16 - count) (drop at s) ≡ records rest
    pub same : first_in (of_parsed inner (message_of s)) ≡ joined (found_of (Ok x)) (first_in (of_records inner rest))
    pub stands : Stands (Ok x)

  pub started : Headed s hs → Reached 0 0 None
  unfolding of_parsed
  started w = record {
    headed = w;
    first = 1;
    rest = w.list;
    inside = omega arith;
    aligned = aligned-start s;
    left = from_start s w.list w.reads;
    same = rw w.reads refl;
    stands = tt;
  }

module _ {inner : List ℕ → Uris} {s : List ℕ} {hs : List Header} {count at : ℕ} {x : Option (Bor (List ℕ))} (w : Reached inner s hs count at x) where
  none_left : length hs ≤ count → length (drop at s) ≡ 0
  none_left l = go (eqb (length (drop at s)) 0) refl (16 - count) refl
    where
      go : (b : Bool) → eqb (length (drop at s)) 0 ≡ b → (k : ℕ) → 16 - count ≡ k → length (drop at s) ≡ 0
      go true q k e = eqb-true (length (drop at s)) 0 q
      go false q zero e = absurd (nope (cc (too_many w.first (drop at s) (eqb-false (length (drop at s)) 0 q), rw e at w.left)))
      go false q (suc k) e =
          let more : drop count (headers_of 16 s) ≡ header_of (drop at s) ∷ headers_of k (drop (record_length (drop at s)) (drop at s)) =
          w.aligned ∙ ap (λ n. headers_of n (drop at s)) e ∙ one-headed k (drop at s) (eqb-false (length (drop at s)) 0 q) in
          absurd (omega (arith, length-drop count (headers_of 16 s), ap length more, ap length w.headed.headers_are, l))

  pub ended : length hs ≤ count → found_of (Ok x) ≡ first_in (of_parsed inner (message_of s))
  unfolding of_records first_in
  ended l =
      let all : w.rest ≡ [] = none_read w.first (16 - count) (drop at s) w.rest (none_left l) w.left in
      sym (w.same ∙ ap (λ rs. joined (found_of (Ok x)) (first_in (of_records inner rs))) all ∙ joined-none (found_of (Ok x)))

  module _ (l : count < length hs) where
    abbrev d : List ℕ
    d = drop at s

    abbrev header : Header
    header = get_or hs count blank

    within : count < length (headers_of 16 s)
    within = omega (arith, l, ap length w.headed.headers_are)

    some_left : length d ≡ 0 → ⊥
    some_left = aligned-some s count at w.aligned within

    -- a record is still allowed
    one_less : 16 - count ≡ suc (16 - (count + 1))
    one_less = go (16 - count) refl
      where
        go : (k : ℕ) → 16 - count ≡ k → 16 - count ≡ suc (16 - (count + 1))
        go zero q = absurd (nope (cc (too_many w.first d some_left, rw q at w.left)))
        go (suc k) q = omega arith

    -- the record there, and those behind it
    taken : Step w.first (16 - (count + 1)) d w.rest
    taken = step w.first (16 - (count + 1)) d w.rest some_left (rw one_less at w.left)

    long : record_length d ≤ length s - at
    long = rw (← length-drop at s) (whole w.first d taken.passes)

    header-is : header ≡ header_of d
    header-is = ap (λ l. get_or l count blank) w.headed.headers_are ∙ aligned-header s count at w.aligned within blank

    next : at + length_for header ≡ at + record_length d
    next = ap (λ h. at + length_for h) header-is ∙ ap (λ n. at + n) (length-is d)

    -- the record lies in the message
    pub fits : at + length_for header ≤ length s
    fits = omega (arith, next, long, w.inside)

    module _ (p : Place) (f : p ≡ place_for header at) where
      place-is : p ≡ place_of at d
      place-is = f ∙ ap (λ h. place_for h at) header-is ∙ place_is d at

      pub lies : Lies (length s) p
      unfolding place_of record_length
      lies = rw place-is record { type_inside = omega (arith, long, w.inside); payload_inside = omega (arith, long, w.inside) }

      -- a header stands in front of the payload
      pub shorter : (payload : List ℕ) → payload ≡ part_at s p.payload → length payload < length s
      unfolding place_of record_length part
      shorter payload h = rw (h, place-is, length-take, length-drop) (omega (arith, header-some (byte d 0), long, w.inside))

      module _ (k : Kind) (g : k ≡ kind_of p.tnf (part_at s p.rtype)) (payload : List ℕ) (h : payload ≡ part_at s p.payload) where
        -- what the records from `at` on give
        onward : (f : Found) → f ≡ first_in (of_kind inner k payload) → first_in (of_records inner w.rest) ≡ joined f (first_in (of_records inner taken.more))
        unfolding of_records of_record record_at
        onward f q =
            let this : record_at s p ≡ record_of d = ap (record_at s) place-is ∙ record-at s at in
            let gives : f ≡ first_in (of_record inner (record_at s p)) = q ∙ rw (g, h) refl in
            ap (λ rs. first_in (of_records inner rs)) taken.list-is
            ∙ first_then (of_record inner (record_of d)) (of_records inner taken.more)
            ∙ ap (λ f. joined f (first_in (of_records inner taken.more))) (ap (λ r. first_in (of_record inner r)) (sym this) ∙ sym gives)

        -- a fault there is the message's
        pub failed : (r : ℕ) → refused r ≡ first_in (of_kind inner k payload) → refused r ≡ first_in (of_parsed inner (message_of s))
        failed r q = sym (w.same ∙ rw (onward (refused r) q, joined-refused x r w.stands))

        pub turned : (y : Option (Bor (List ℕ))) → found_of (Ok y) ≡ first_in (of_kind inner k payload) → Stands (Ok y)
            → Reached inner s hs (count + 1) (at + length_for header) (option_or x y)
        turned y q v = record {
          headed = w.headed;
          first = 0;
          rest = taken.more;
          inside = fits;
          aligned = rw next (aligned-turn s count at w.aligned within);
          left = rw (next, ← drop-drop (record_length d) at s) taken.reads_more;
          same = w.same
              ∙ ap (joined (found_of (Ok x))) (onward (found_of (Ok y)) q)
              ∙ sym (joined-joined (found_of (Ok x)) (found_of (Ok y)) (first_in (of_records inner taken.more)))
              ∙ ap (λ f. joined f (first_in (of_records inner taken.more))) (sym (found-earlier x y w.stands v));
          stands = stands-earlier x y w.stands v;
        }
