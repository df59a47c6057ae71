-- What is written reads as what was written: one record, then a list.
-- Assumes nothing.
use mathlib.Core.Path.{◌≡◌, refl, ◌∙◌}
use mathlib.Core.Bool.{Bool, true, false, cond}
use mathlib.Core.List.{List, [], ◌∷◌, ◌++◌, append_assoc}
use Prim.Native.Nat.{ℕ, zero, suc, ◌+◌, ◌*◌, ◌≤◌, ◌<◌, ◌^◌}
use native.Mathlib.Omega.{arith}
use lib.ListN.{length, length-append}
use lib.Seq.{drop-append_seam}
use lib.Dec.{eqb, ltb, leb}
use borrow.Author.Tests.{lt-ltb, eq-eqb, ne_eqb, ltb-true, eqb-true, eqb-false, leb-true, le-leb}
use Rattle.tag.specs.Bytes.{byte}
use Rattle.tag.specs.Checks.{fine, first_of}
use Rattle.tag.proofs.Logic.{nope, one_at_most}
use Rattle.ndef.specs.Record.{Record, ndef, tnf_allows}
use Rattle.ndef.specs.Header.{record_length}
use Rattle.ndef.specs.Message.{records, record_checks, onto, records_of, message_of}
use Rattle.ndef.specs.Shortest.{header_bytes, record_bytes, message_bytes}
use Rattle.ndef.specs.Writing.{header_holds, is_writable, are_writable, is_writable_list}
use Rattle.ndef.proofs.Sound.{passes, both, tnf_small}
use Rattle.ndef.proofs.Turns.{at-end, one-record, some-message}
use Rattle.ndef.proofs.HeaderForms.{record-long, record-some}
use Rattle.ndef.proofs.HeaderBack.{Back, back, record-back}

-- ---- the tests of writing, as facts

-- lengths and a TNF that can be written
pub record Fit (tnf type id payload : ℕ) : Type 0 where
  pub allowed : tnf_allows tnf type id payload ≡ true
  pub type_small : type < 256
  pub id_small : id < 256
  pub payload_small : payload < 2 ^ 32

pub lengths-small : (type id payload : ℕ) → header_holds type id payload ≡ true → (type < 256) × (id < 256) × (payload < 2 ^ 32)
unfolding header_holds
lengths-small type id payload h =
    let v = both (ltb type 256) _ h in
    let u = both (ltb id 256) _ v.1 in
    (ltb-true type 256 v.0, ltb-true id 256 u.0, ltb-true payload 4294967296 u.1)

pub fit : (tnf : ℕ) (type id payload : List ℕ) → is_writable (ndef tnf type id payload) ≡ true → Fit tnf (length type) (length id) (length payload)
unfolding is_writable
fit tnf type id payload h =
    let w = both (tnf_allows tnf (length type) (length id) (length payload)) _ h in
    let (a, b, c) = lengths-small (length type) (length id) (length payload) w.1 in
    record { allowed = w.0; type_small = a; id_small = b; payload_small = c }

pub fits-so : (tnf : ℕ) (type id payload : List ℕ) → Fit tnf (length type) (length id) (length payload) → is_writable (ndef tnf type id payload) ≡ true
unfolding is_writable header_holds
fits-so tnf type id payload w =
    rw (w.allowed, lt-ltb (length type) 256 w.type_small, lt-ltb (length id) 256 w.id_small, lt-ltb (length payload) 4294967296 w.payload_small)

-- ---- one record

module _ (first last tnf : ℕ) (type id payload rest : List ℕ) (f : first ≤ 1) (l : last ≤ 1) (w : Fit tnf (length type) (length id) (length payload)) where
  abbrev r : Record
  r = ndef tnf type id payload

  abbrev h : List ℕ
  h = header_bytes (first * 128 + last * 64 + tnf) (length type) (length id) (length payload)

  small : tnf < 6
  small = tnf_small tnf (length type) (length id) (length payload) w.allowed

  said : Back first last tnf (length h) (length type) (length id) (length payload) (record_bytes first last r ++ rest)
  unfolding record_bytes
  said =
      let joined : (h ++ (type ++ (id ++ payload))) ++ rest ≡ h ++ (type ++ (id ++ (payload ++ rest))) = simp append_assoc in
      rw joined (back first last tnf (length type) (length id) (length payload) f l (omega (arith, small)) w.payload_small (type ++ (id ++ (payload ++ rest))))

  pub length_back : record_length (record_bytes first last r ++ rest) ≡ length (record_bytes first last r)
  unfolding record_length
  length_back = rw (said.header_is, said.type_is, said.id_is, said.payload_is) (omega (arith, record-long first last tnf type id payload))

  pub checks-back : last ≡ cond (eqb (length rest) 0) 1 0 → first_of (record_checks first (record_bytes first last r ++ rest)) ≡ fine
  unfolding record_checks
  checks-back e =
      let s : List ℕ = record_bytes first last r ++ rest in
      let size : length s ≡ length h + length type + length id + length payload + length rest =
      omega (arith, length-append (record_bytes first last r) rest, record-long first last tnf type id payload) in
      rw (said.header_is, said.type_is, said.id_is, said.payload_is)
      (passes (byte s 0) (length h) (length type) (length id) (length payload) (length s) first (record {
        unchunked = said.unchunked;
        whole = omega arith;
        allowed = rw said.tnf-is w.allowed;
        begins = said.begins;
        ends = said.ends ∙ e ∙ last-is (length rest) (length h + length type + length id + length payload) (length s) size;
      }))
    where
      last-is : (n a b : ℕ) → b ≡ a + n → ◌≡◌ {A = ℕ} (cond (eqb n 0) 1 0) (cond (eqb a b) 1 0)
      last-is n a b q = go (eqb n 0) refl
        where
          go : (c : Bool) → eqb n 0 ≡ c → ◌≡◌ {A = ℕ} (cond (eqb n 0) 1 0) (cond (eqb a b) 1 0)
          go true z = rw (z, eq-eqb a b (omega (arith, eqb-true n 0 z)))
          go false z = rw (z, ne_eqb a b (λ y. eqb-false n 0 z (omega arith)))

-- ---- the list

-- a list is empty exactly if its bytes are
bytes-none : (rs : List Record) → ◌≡◌ {A = ℕ} (cond (eqb (length rs) 0) 1 0) (cond (eqb (length (message_bytes 0 rs)) 0) 1 0)
unfolding message_bytes
bytes-none [] = refl
bytes-none (r ∷ rs) =
    let last : ℕ = cond (eqb (length rs) 0) 1 0 in
    rw (
      ne_eqb (length (r ∷ rs)) 0 (omega arith),
      ne_eqb (length (record_bytes 0 last r ++ message_bytes 0 rs)) 0 (omega (arith, length-append (record_bytes 0 last r) (message_bytes 0 rs), record-some 0 last r)),
    )

front : (first last n : ℕ) (r : Record) (rs : List Record) (rest : List ℕ) → first ≤ 1 → last ≤ 1 → is_writable r ≡ true → last ≡ cond (eqb (length rest) 0) 1 0
    → records_of 0 n rest ≡ records rs → records_of first (suc n) (record_bytes first last r ++ rest) ≡ records (r ∷ rs)
unfolding onto
front first last n (ndef tnf type id payload) rs rest f l t e ih =
    let w = fit tnf type id payload t in
    let r : Record = ndef tnf type id payload in
    let s : List ℕ = record_bytes first last r ++ rest in
    let small : tnf < 6 = tnf_small tnf (length type) (length id) (length payload) w.allowed in
    one-record first n s (omega (arith, length-append (record_bytes first last r) rest, record-some first last r)) (checks-back first last tnf type id payload rest f l w e)
    ∙ rw (record-back first last tnf type id payload rest f l (omega arith) w.payload_small, length_back first last tnf type id payload rest f l w, drop-append_seam, ih)

all_back : (first n : ℕ) (rs : List Record) → first ≤ 1 → length rs ≤ n → are_writable rs ≡ true → records_of first n (message_bytes first rs) ≡ records rs
unfolding message_bytes are_writable
all_back first n [] f l t = at-end first n [] refl
all_back first zero (r ∷ rs) f l t = absurd (omega arith)
all_back first (suc n) (r ∷ rs) f l t =
    let w = both (is_writable r) (are_writable rs) t in
    front first (cond (eqb (length rs) 0) 1 0) n r rs (message_bytes 0 rs) f (one_at_most (eqb (length rs) 0)).0 w.0 (bytes-none rs)
    (all_back 0 n rs (omega arith) (omega arith) w.1)

-- a list that can be written
pub record Listed (rs : List Record) : Type 0 where
  pub some : 0 < length rs
  pub few : length rs ≤ 16
  pub each : are_writable rs ≡ true

pub listed : (rs : List Record) → is_writable_list rs ≡ true → Listed rs
unfolding is_writable_list
listed rs t = go (eqb (length rs) 0) refl t
  where
    go : (b : Bool) → eqb (length rs) 0 ≡ b → cond b false (cond (leb (length rs) 16) (are_writable rs) false) ≡ true → Listed rs
    go true q t = absurd (nope (cc))
    go false q t =
        let w = both (leb (length rs) 16) (are_writable rs) t in
        let n : length rs ≡ 0 → ⊥ = eqb-false (length rs) 0 q in
        record { some = omega arith; few = leb-true (length rs) 16 w.0; each = w.1 }

pub lists : (rs : List Record) → Listed rs → is_writable_list rs ≡ true
unfolding is_writable_list
lists rs w = rw (ne_eqb (length rs) 0 (omega (arith, w.some)), le-leb (length rs) 16 w.few, w.each)

some_bytes : (first : ℕ) (rs : List Record) → 0 < length rs → length (message_bytes first rs) ≡ 0 → ⊥
unfolding message_bytes
some_bytes first [] h e = omega arith
some_bytes first (r ∷ rs) h e =
    let last : ℕ = cond (eqb (length rs) 0) 1 0 in
    omega (arith, length-append (record_bytes first last r) (message_bytes 0 rs), record-some first last r)

pub list_back : (rs : List Record) → Listed rs → message_of (message_bytes 1 rs) ≡ records rs
list_back rs w = some-message (message_bytes 1 rs) (some_bytes 1 rs w.some) ∙ all_back 1 16 rs (omega arith) w.few w.each
