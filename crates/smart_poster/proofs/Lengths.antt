-- How long the URIs of a message are: a payload is no longer than the message around it, and no prefix is longer than 26 bytes.
-- Assumes nothing.
use mathlib.Core.Path.{◌≡◌, refl, ap, subst}
use mathlib.Core.Logic.{inl, inr}
use mathlib.Core.Bool.{Bool, true, false}
use mathlib.Core.List.{List, [], ◌∷◌}
use Prim.Native.Nat.{ℕ, zero, suc, ◌+◌, ◌≤◌, max}
use native.Mathlib.Omega.{arith}
use lib.Dec.{eqb}
use lib.ListN.{length, drop, get_or, length-append, length-take, length-drop}
use borrow.Author.Tests.{eqb-true, eqb-false}
use Rattle.tag.proofs.Logic.{nope}
use Rattle.ndef.specs.Record.{Record}
use Rattle.ndef.specs.Header.{record_length}
use Rattle.ndef.specs.Message.{records, part, record_by, record_of, records_of}
use Rattle.ndef.proofs.Turns.{too_many, Step, step, none_read}
use Rattle.ndef.proofs.Tables.{from_start}
use Rattle.uri.specs.Prefixes.{prefixes, prefix}
use Rattle.uri.specs.Payload.{uri, uri_of}
use Rattle.uri.proofs.Theorems.{refuses-exactly}
use Rattle.smart_poster.specs.Claims.{OneOf, payload_of_record, RecordOf, StandsIn}

-- ---- payloads

-- of the record at the front of s
front-short : (s : List ℕ) → length (payload_of_record (record_of s)) ≤ length s
unfolding record_of record_by part
front-short s = rw (length-take, length-drop) (omega arith)

module _ (r : Record) where
  -- of that record, or of one behind it
  step-short : (first n : ℕ) (s : List ℕ) (rs : List Record) (t : Step first n s rs) → OneOf r rs
      → (OneOf r t.more → length (payload_of_record r) ≤ length (drop (record_length s) s)) → length (payload_of_record r) ≤ length s
  step-short first n s rs t w later = go (subst (OneOf r) t.list-is w)
    where
      go : OneOf r (record_of s ∷ t.more) → length (payload_of_record r) ≤ length s
      go (inl q) = rw q (front-short s)
      go (inr v) = omega (arith, later v, length-drop (record_length s) s)

  in_list : (first n : ℕ) (s : List ℕ) (rs : List Record) → records_of first n s ≡ records rs → OneOf r rs → length (payload_of_record r) ≤ length s
  in_list first zero s rs e w = go (eqb (length s) 0) refl
    where
      go : (b : Bool) → eqb (length s) 0 ≡ b → length (payload_of_record r) ≤ length s
      go true q = absurd (subst (OneOf r) (none_read first 0 s rs (eqb-true (length s) 0 q) e) w)
      go false q = absurd (nope (cc (too_many first s (eqb-false (length s) 0 q))))
  in_list first (suc n) s rs e w = go (eqb (length s) 0) refl (λ more. in_list 0 n (drop (record_length s) s) more)
    where
      go : (b : Bool) → eqb (length s) 0 ≡ b
          → ((more : List Record) → records_of 0 n (drop (record_length s) s) ≡ records more → OneOf r more
          → length (payload_of_record r) ≤ length (drop (record_length s) s)) → length (payload_of_record r) ≤ length s
      go true q ih = absurd (subst (OneOf r) (none_read first (suc n) s rs (eqb-true (length s) 0 q) e) w)
      go false q ih = let t = step first n s rs (eqb-false (length s) 0 q) e in step-short first n s rs t w (ih t.more t.reads_more)

  own-short : (s : List ℕ) → RecordOf r s → length (payload_of_record r) ≤ length s
  own-short s (rs, q, w) = in_list 1 16 s rs (from_start s rs q) w

-- in posters too
pub payload-short : (n : ℕ) (r : Record) (s : List ℕ) → StandsIn n r s → length (payload_of_record r) ≤ length s
payload-short zero r s w = own-short r s w
payload-short (suc n) r s (p, w, k, v) = omega (arith, own-short p s w, payload-short n r (payload_of_record p) v)

-- ---- URIs

abbrev longest_in : List (List ℕ) → ℕ
longest_in [] = 0
longest_in (p ∷ ps) = max (length p) (longest_in ps)

no_longer : (ps : List (List ℕ)) (k : ℕ) → length (get_or ps k []) ≤ longest_in ps
no_longer [] k = omega arith
no_longer (p ∷ ps) zero = omega arith
no_longer (p ∷ ps) (suc k) = omega (arith, no_longer ps k)

-- one test, which the checker computes over the whole table
longest-prefix : longest_in prefixes ≡ 26
unfolding prefixes
longest-prefix = refl

pub uri-short : (p u : List ℕ) → uri_of p ≡ uri u → length u ≤ length p + 26
uri-short p u e =
    let (code, rest, p-is, h, u-is) = (refuses-exactly.stands p u).0 e in
    omega (arith, ap length p-is, ap length u-is, length-append (prefix code) rest, no_longer prefixes code, longest-prefix)
