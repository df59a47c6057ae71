-- What a loop over the records of a message has reached: the records before what is left, and their headers.
-- Assumes nothing.
use mathlib.Core.Path.{◌≡◌, refl, sym, ap, ◌∙◌}
use mathlib.Core.Bool.{cond}
use mathlib.Core.List.{List, [], ◌∷◌, ◌++◌, append-nil, append_assoc}
use Prim.Native.Nat.{ℕ, suc, ◌+◌, ◌-◌, ◌<◌}
use native.Mathlib.Omega.{arith}
use lib.ListN.{length, drop, length-append, length-drop}
use lib.Dec.{eqb}
use borrow.Author.Tests.{ne_eqb}
use Rattle.tag.specs.Checks.{fine, fault, first_of}
use Rattle.ndef.specs.declared.headers.Header.{Header}
use Rattle.ndef.specs.Record.{Record}
use Rattle.ndef.specs.Header.{record_length}
use Rattle.ndef.specs.Message.{refused, record_checks, record_of, onto, records_of}
use Rattle.ndef.specs.Views.Headers.{header_of, headers_of, length_for, span_of, Headed}
use Rattle.ndef.proofs.Turns.{at-end, too_many, at-fault, one-record, some-message, whole, onto-none, onto-onto}
use Rattle.ndef.proofs.Placing.{length-is, none-headed, one-headed}

-- 1 before the first record
abbrev pub first_after : List Header → ℕ
first_after hs = cond (eqb (length hs) 0) 1 0

span-behind : (hs : List Header) (h : Header) → span_of (hs ++ (h ∷ [])) ≡ span_of hs + length_for h
span-behind [] h = omega arith
span-behind (g ∷ hs) h = omega (arith, span-behind hs h)

module _ (s : List ℕ) where
  pub record Reached (hs : List Header) (rest : List ℕ) : Type 0 where
    pub before : List Record
    pub same : records_of 1 16 s ≡ onto before (records_of (first_after hs) (16 - length hs) rest)
    pub headers : headers_of 16 s ≡ hs ++ headers_of (16 - length hs) rest
    pub taken : span_of hs + length rest ≡ length s

  pub reached-start : Reached [] s
  reached-start = record { before = []; same = sym (onto-none _); headers = refl; taken = omega arith }

  module _ {hs : List Header} {rest : List ℕ} (w : Reached hs rest) where
    pub ended : (length s ≡ 0 → ⊥) → length rest ≡ 0 → Headed s hs
    unfolding onto
    ended some e = record {
      list = w.before;
      reads = some-message s some ∙ w.same ∙ rw (at-end (first_after hs) (16 - length hs) rest e, append-nil);
      headers_are = sym (w.headers ∙ rw (none-headed (16 - length hs) rest e, append-nil));
      all_taken = omega (arith, w.taken);
    }

    module _ (left : length rest ≡ 0 → ⊥) where
      pub overfull : length hs ≡ 16 → records_of 1 16 s ≡ refused 30
      unfolding onto records_of
      overfull e = w.same ∙ rw (e, too_many (first_after hs) rest left)

      module _ (room : length hs < 16) where
        one_less : 16 - length hs ≡ suc (16 - (length hs + 1))
        one_less = omega arith

        pub faulty : (r : ℕ) → first_of (record_checks (first_after hs) rest) ≡ fault r → records_of 1 16 s ≡ refused r
        unfolding onto
        faulty r e = w.same ∙ rw (one_less, at-fault (first_after hs) (16 - (length hs + 1)) rest r left e)

        pub turned : first_of (record_checks (first_after hs) rest) ≡ fine → Reached (hs ++ (header_of rest ∷ [])) (drop (record_length rest) rest)
        turned e =
            let longer : length (hs ++ (header_of rest ∷ [])) ≡ length hs + 1 = length-append hs (header_of rest ∷ []) in
            let later : first_after (hs ++ (header_of rest ∷ [])) ≡ 0 = rw (ne_eqb (length (hs ++ (header_of rest ∷ []))) 0 (omega arith)) in
            record {
              before = w.before ++ (record_of rest ∷ []);
              same = w.same
                  ∙ ap (onto w.before) (rw one_less (one-record (first_after hs) (16 - (length hs + 1)) rest left e))
                  ∙ onto-onto w.before (record_of rest ∷ []) (records_of 0 (16 - (length hs + 1)) (drop (record_length rest) rest))
                  ∙ rw (later, longer);
              headers = w.headers
                  ∙ rw (one_less, one-headed (16 - (length hs + 1)) rest left)
                  (rw longer (sym (append_assoc hs (header_of rest ∷ []) _)));
              taken = omega (arith, span-behind hs (header_of rest), length-drop (record_length rest) rest, length-is rest, whole (first_after hs) rest e, w.taken);
            }
