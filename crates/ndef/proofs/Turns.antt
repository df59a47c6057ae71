-- Reading record by record: what one turn gives.
-- Assumes nothing.
use mathlib.Core.Path.{◌≡◌, refl, sym, ap, ◌∙◌}
use mathlib.Core.List.{List, [], ◌∷◌, ◌++◌, append_assoc}
use Prim.Native.Nat.{ℕ, zero, suc, ◌≤◌}
use lib.ListN.{length, drop}
use borrow.Author.Tests.{eq-eqb, ne_eqb}
use Rattle.tag.specs.Bytes.{byte}
use Rattle.tag.specs.Checks.{Checked, fine, fault, first_of}
use Rattle.tag.proofs.Logic.{nope}
use Rattle.ndef.specs.Record.{Record}
use Rattle.ndef.specs.Header.{header_length, id_length, payload_length, record_length}
use Rattle.ndef.specs.Message.{Parsed, records, refused, record_checks, record_of, onto, records_of, message_of}
use Rattle.ndef.proofs.Sound.{sound}

-- ---- one turn of the definition

pub at-end : (first n : ℕ) (s : List ℕ) → length s ≡ 0 → records_of first n s ≡ records []
unfolding records_of
at-end first zero s e = rw (records_of, eq-eqb (length s) 0 e)
at-end first (suc n) s e = rw (records_of, eq-eqb (length s) 0 e)

pub too_many : (first : ℕ) (s : List ℕ) → (length s ≡ 0 → ⊥) → records_of first 0 s ≡ refused 30
unfolding records_of
too_many first s f = rw (records_of, ne_eqb (length s) 0 f)

pub at-fault : (first n : ℕ) (s : List ℕ) (r : ℕ) → (length s ≡ 0 → ⊥) → first_of (record_checks first s) ≡ fault r → records_of first (suc n) s ≡ refused r
unfolding records_of
at-fault first n s r f e = rw (records_of, ne_eqb (length s) 0 f, e)

pub one-record : (first n : ℕ) (s : List ℕ) → (length s ≡ 0 → ⊥) → first_of (record_checks first s) ≡ fine
    → records_of first (suc n) s ≡ onto (record_of s ∷ []) (records_of 0 n (drop (record_length s) s))
unfolding records_of
one-record first n s f e = rw (records_of, ne_eqb (length s) 0 f, e)

pub no-message : (s : List ℕ) → length s ≡ 0 → message_of s ≡ refused 32
unfolding message_of
no-message s e = rw (message_of, eq-eqb (length s) 0 e)

pub some-message : (s : List ℕ) → (length s ≡ 0 → ⊥) → message_of s ≡ records_of 1 16 s
unfolding message_of
some-message s f = rw (message_of, ne_eqb (length s) 0 f)

pub onto-none : (p : Parsed) → onto [] p ≡ p
unfolding onto
onto-none (records rs) = refl
onto-none (refused r) = refl

pub onto-onto : (xs ys : List Record) (p : Parsed) → onto xs (onto ys p) ≡ onto (xs ++ ys) p
unfolding onto
onto-onto xs ys (records rs) = ap records (sym (append_assoc xs ys rs))
onto-onto xs ys (refused r) = refl

-- a record that passes its tests is whole
pub whole : (first : ℕ) (s : List ℕ) → first_of (record_checks first s) ≡ fine → record_length s ≤ length s
unfolding record_checks record_length
whole first s e = (sound (byte s 0) (header_length (byte s 0)) (byte s 1) (id_length (byte s 0) s) (payload_length (byte s 0) s) (length s) first e).whole

-- ---- a list that was read, taken apart

-- the record at the front of s, and the list that follows it
pub record Step (first n : ℕ) (s : List ℕ) (rs : List Record) : Type 0 where
  pub passes : first_of (record_checks first s) ≡ fine
  pub more : List Record
  pub reads_more : records_of 0 n (drop (record_length s) s) ≡ records more
  pub list-is : rs ≡ record_of s ∷ more

onto-records : (r : Record) (p : Parsed) (rs : List Record) → onto (r ∷ []) p ≡ records rs → (more : List Record) × (p ≡ records more) × (rs ≡ r ∷ more)
unfolding onto
onto-records r (records more) rs e = (more, refl, cc)
onto-records r (refused k) rs e = absurd (nope (cc))

pub step : (first n : ℕ) (s : List ℕ) (rs : List Record) → (length s ≡ 0 → ⊥) → records_of first (suc n) s ≡ records rs → Step first n s rs
step first n s rs f e = go (first_of (record_checks first s)) refl
  where
    go : (c : Checked) → first_of (record_checks first s) ≡ c → Step first n s rs
    go (fault r) q = absurd (nope (cc (at-fault first n s r f q)))
    go fine q =
        let w = onto-records (record_of s) (records_of 0 n (drop (record_length s) s)) rs (sym (one-record first n s f q) ∙ e) in
        record { passes = q; more = w.0; reads_more = w.1; list-is = w.2 }

-- the list is empty exactly if s is
pub none_read : (first n : ℕ) (s : List ℕ) (rs : List Record) → length s ≡ 0 → records_of first n s ≡ records rs → rs ≡ []
none_read first n s rs z e = let q : records [] ≡ records rs = sym (at-end first n s z) ∙ e in cc
