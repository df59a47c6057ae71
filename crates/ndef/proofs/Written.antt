-- What writing a list gives, from its tests; and that the message of a list of bytes is made of bytes.
-- Assumes nothing.
use mathlib.Core.Path.{◌≡◌, refl}
use mathlib.Core.Bool.{Bool, true, false, cond}
use mathlib.Core.List.{List, [], ◌∷◌, ◌++◌}
use Prim.Native.Nat.{ℕ, ◌+◌, ◌*◌, ◌≤◌, ◌<◌}
use native.Mathlib.Omega.{arith}
use lib.ListN.{length}
use lib.Dec.{eqb, leb}
use borrow.Author.Tests.{le-leb, lt-leb, leb-false}
use Rattle.tag.specs.Bytes.{Octets}
use Rattle.tag.specs.TagType.{refused_output, output}
use Rattle.tag.proofs.Logic.{nope, one_at_most}
use Rattle.tag.proofs.Octets.{octets-append}
use Rattle.ndef.specs.Record.{Record, ndef, OctetRecord, OctetRecords}
use Rattle.ndef.specs.Shortest.{header_bytes, record_bytes, message_bytes}
use Rattle.ndef.specs.Writing.{is_writable, are_writable, is_writable_list, write_list}
use Rattle.ndef.proofs.Sound.{both, tnf_small}
use Rattle.ndef.proofs.HeaderForms.{each-form}
use Rattle.ndef.proofs.ListBack.{fit, Listed, listed, lists}

-- ---- what is written is a list of bytes

header-octets : (flags type id payload : ℕ) → flags < 232 → type < 256 → id < 256 → Octets (header_bytes flags type id payload)
header-octets flags type id payload f k i =
    each-form flags type id payload Octets (λ h e. omega arith) (λ h e. omega arith) (λ h e. omega arith) (λ h e. omega arith)

record-octets : (first last : ℕ) (r : Record) → first ≤ 1 → last ≤ 1 → is_writable r ≡ true → OctetRecord r → Octets (record_bytes first last r)
unfolding record_bytes
record-octets first last (ndef tnf type id payload) f l t o =
    let w = fit tnf type id payload t in
    let flags : ℕ = first * 128 + last * 64 + tnf in
    let small : tnf < 6 = tnf_small tnf (length type) (length id) (length payload) w.allowed in
    octets-append (header_bytes flags (length type) (length id) (length payload)) (type ++ (id ++ payload))
    (header-octets flags (length type) (length id) (length payload) (omega arith) w.type_small w.id_small)
    (octets-append type (id ++ payload) o.0 (octets-append id payload o.1 o.2))

pub all-octets : (first : ℕ) (rs : List Record) → first ≤ 1 → are_writable rs ≡ true → OctetRecords rs → Octets (message_bytes first rs)
unfolding message_bytes are_writable
all-octets first [] f t o = tt
all-octets first (r ∷ rs) f t o =
    let w = both (is_writable r) (are_writable rs) t in
    let last : ℕ = cond (eqb (length rs) 0) 1 0 in
    octets-append (record_bytes first last r) (message_bytes 0 rs)
    (record-octets first last r f (one_at_most (eqb (length rs) 0)).0 w.0 o.0) (all-octets 0 rs (omega arith) w.1 o.1)

-- ---- what writing says

-- whatever the two tests are
wrote_by : (a b : Bool) (k n : ℕ) (xs bs : List ℕ) → cond a (cond b (output k xs) (refused_output 12)) (refused_output 33) ≡ output n bs → (a ≡ true) × (k ≡ n) × (xs ≡ bs)
wrote_by true true k n xs bs e = (refl, cc, cc)
wrote_by true false k n xs bs e = absurd (nope (cc))
wrote_by false b k n xs bs e = absurd (nope (cc))

unwritten-by : (a b : Bool) (k : ℕ) (xs : List ℕ) → cond a (cond b (output k xs) (refused_output 12)) (refused_output 33) ≡ refused_output 33 → a ≡ false
unwritten-by true true k xs e = absurd (nope (cc))
unwritten-by true false k xs e = absurd (let z : ◌≡◌ {A = ℕ} 12 33 = cc in omega arith)
unwritten-by false b k xs e = refl

too-long-by : (a b : Bool) (k : ℕ) (xs : List ℕ) → cond a (cond b (output k xs) (refused_output 12)) (refused_output 33) ≡ refused_output 12 → (a ≡ true) × (b ≡ false)
too-long-by true true k xs e = absurd (nope (cc))
too-long-by true false k xs e = (refl, refl)
too-long-by false b k xs e = absurd (let z : ◌≡◌ {A = ℕ} 33 12 = cc in omega arith)

module _ (room : ℕ) (rs : List Record) where
  abbrev bytes : List ℕ
  bytes = message_bytes 1 rs

  pub wrote : (n : ℕ) (bs : List ℕ) → write_list room rs ≡ output n bs → Listed rs × (length bytes ≡ n) × (bytes ≡ bs)
  unfolding write_list
  wrote n bs e =
      let w = wrote_by (is_writable_list rs) (leb (length bytes) room) (length bytes) n bytes bs e in
      (listed rs w.0, w.1, w.2)

  pub unwritten : write_list room rs ≡ refused_output 33 → is_writable_list rs ≡ false
  unfolding write_list
  unwritten e = unwritten-by (is_writable_list rs) (leb (length bytes) room) (length bytes) bytes e

  pub overlong : write_list room rs ≡ refused_output 12 → (is_writable_list rs ≡ true) × (room < length bytes)
  unfolding write_list
  overlong e =
      let w = too-long-by (is_writable_list rs) (leb (length bytes) room) (length bytes) bytes e in
      (w.0, leb-false (length bytes) room w.1)

  pub writes : Listed rs → length bytes ≤ room → write_list room rs ≡ output (length bytes) bytes
  unfolding write_list
  writes w l = rw (lists rs w, le-leb (length bytes) room l)

  pub writes-none : is_writable_list rs ≡ false → write_list room rs ≡ refused_output 33
  unfolding write_list
  writes-none q = rw q

  pub writes-not : is_writable_list rs ≡ true → room < length bytes → write_list room rs ≡ refused_output 12
  unfolding write_list
  writes-not q l = rw (q, lt-leb (length bytes) room l)
