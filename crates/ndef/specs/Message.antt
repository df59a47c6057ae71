-- Reading an NDEF message as a list of records. Refused are, at the first record at fault and in this order: a seventeenth record (30);
-- a chunk flag or TNF 6 (31); a record cut short, a TNF with lengths that it does not allow, MB not exactly on the first record, ME not
-- exactly on the one that ends the message (32). An empty message is 32 too.
-- Assumes nothing.
use Rattle.std.specs.Prelude.{true, false, not, cond, List, [], ◌∷◌, ◌++◌, ℕ, zero, suc, ◌+◌, eqb, leb, length, take, drop}
use Rattle.tag.specs.Bytes.{byte}
use Rattle.tag.specs.Refusals.{too_many_records, chunked_record, malformed_record}
use Rattle.tag.specs.Checks.{Check, check, fine, fault, first_of}
use Rattle.ndef.specs.Record.{Record, ndef, most, tnf_allows}
use Rattle.ndef.specs.Header.{mb, me, cf, tnf, header_length, payload_length, id_length, record_length}

-- what reading gives: the records, or a refusal
pub data Parsed : Type 0 where
  records : List Record → Parsed
  refused : ℕ → Parsed

-- ---- one record

-- the tests of a record, by its flags, the lengths of header, type, ID and payload, the number of bytes from its first one on, and
-- whether it is the first record (1 or 0)
unfoldable pub checks_by : ℕ → ℕ → ℕ → ℕ → ℕ → ℕ → ℕ → List Check
checks_by flags header type id payload size first =
    check (eqb (cf flags) 0) chunked_record
    ∷ check (not (eqb (tnf flags) 6)) chunked_record
    ∷ check (leb (header + type + id + payload) size) malformed_record
    ∷ check (tnf_allows (tnf flags) type id payload) malformed_record
    ∷ check (eqb (mb flags) first) malformed_record
    ∷ check (eqb (me flags) (cond (eqb (header + type + id + payload) size) 1 0)) malformed_record
    ∷ []

unfoldable pub record_checks : ℕ → List ℕ → List Check
record_checks first s = checks_by (byte s 0) (header_length (byte s 0)) (byte s 1) (id_length (byte s 0) s) (payload_length (byte s 0) s) (length s) first

-- n bytes of s from `at` on
unfoldable pub part : ℕ → ℕ → List ℕ → List ℕ
part at n s = take n (drop at s)

unfoldable pub record_by : ℕ → ℕ → ℕ → ℕ → ℕ → List ℕ → Record
record_by flags header type id payload s = ndef (tnf flags) (part header type s) (part (header + type) id s) (part (header + type + id) payload s)

-- the record at the front of s
unfoldable pub record_of : List ℕ → Record
record_of s = record_by (byte s 0) (header_length (byte s 0)) (byte s 1) (id_length (byte s 0) s) (payload_length (byte s 0) s) s

-- ---- the list

-- rs in front of what is read
unfoldable pub onto : List Record → Parsed → Parsed
onto rs (records more) = records (rs ++ more)
onto rs (refused r) = refused r

-- the records of s; n more are allowed
unfoldable pub records_of : ℕ → ℕ → List ℕ → Parsed
records_of first zero s = elim (eqb (length s) 0) [ true ↦ records [] | false ↦ refused too_many_records ]
records_of first (suc n) s =
    elim (eqb (length s) 0) [
      | true ↦ records []
      | false ↦ elim (first_of (record_checks first s)) [
        | fine ↦ onto (record_of s ∷ []) (records_of 0 n (drop (record_length s) s))
        | fault r ↦ refused r
      ]
    ]

unfoldable pub message_of : List ℕ → Parsed
message_of s = elim (eqb (length s) 0) [ true ↦ refused malformed_record | false ↦ records_of 1 most s ]
