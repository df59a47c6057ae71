-- A header that is written says what was written, and the record behind it is the one that was written.
-- Assumes nothing.
use mathlib.Core.Path.{◌≡◌, refl, sym}
use mathlib.Core.List.{List, ◌∷◌, ◌++◌, append_assoc}
use Prim.Native.Nat.{ℕ, ◌+◌, ◌*◌, ◌/◌, ◌%◌, ◌≤◌, ◌<◌, ◌^◌}
use native.Mathlib.Omega.{arith}
use lib.ListN.{length, take, drop}
use lib.Seq.{take-append_seam, drop-append_seam, drop-drop}
use borrow.Author.Tests.{eq-eqb, ne_eqb}
use Rattle.tag.specs.Bytes.{byte}
use Rattle.ndef.specs.Record.{ndef}
use Rattle.ndef.specs.Header.{mb, me, cf, tnf, header_length, id_length, payload_length}
use Rattle.ndef.specs.Message.{part, record_by, record_of}
use Rattle.ndef.specs.Shortest.{header_bytes, record_bytes}
use Rattle.ndef.proofs.HeaderForms.{each-form}

-- what the header at the front of s says
pub record Back (first last tnf₀ header type id payload : ℕ) (s : List ℕ) : Type 0 where
  pub begins : mb (byte s 0) ≡ first
  pub ends : me (byte s 0) ≡ last
  pub unchunked : cf (byte s 0) ≡ 0
  pub tnf-is : tnf (byte s 0) ≡ tnf₀
  pub header_is : header_length (byte s 0) ≡ header
  pub type_is : byte s 1 ≡ type
  pub id_is : id_length (byte s 0) s ≡ id
  pub payload_is : payload_length (byte s 0) s ≡ payload

module _ (first last tnf₀ type id payload : ℕ) (f : first ≤ 1) (l : last ≤ 1) (t : tnf₀ < 8) (p : payload < 2 ^ 32) (z : List ℕ) where
  abbrev flags : ℕ
  flags = first * 128 + last * 64 + tnf₀

  back-3 : id ≡ 0 → Back first last tnf₀ 3 type id payload ((flags + 16) ∷ type ∷ payload ∷ z)
  unfolding header_length id_length payload_length
  back-3 e = record {
    begins = omega arith;
    ends = omega arith;
    unchunked = omega arith;
    tnf-is = omega arith;
    header_is = rw (eq-eqb ((flags + 16) / 16 % 2) 1 (omega arith), ne_eqb ((flags + 16) / 8 % 2) 1 (omega arith));
    type_is = refl;
    id_is = rw (ne_eqb ((flags + 16) / 8 % 2) 1 (omega arith)) (sym e);
    payload_is = rw (eq-eqb ((flags + 16) / 16 % 2) 1 (omega arith));
  }

  back-4 : Back first last tnf₀ 4 type id payload ((flags + 24) ∷ type ∷ payload ∷ id ∷ z)
  unfolding header_length id_length payload_length
  back-4 = record {
    begins = omega arith;
    ends = omega arith;
    unchunked = omega arith;
    tnf-is = omega arith;
    header_is = rw (eq-eqb ((flags + 24) / 16 % 2) 1 (omega arith), eq-eqb ((flags + 24) / 8 % 2) 1 (omega arith));
    type_is = refl;
    id_is = rw (eq-eqb ((flags + 24) / 16 % 2) 1 (omega arith), eq-eqb ((flags + 24) / 8 % 2) 1 (omega arith));
    payload_is = rw (eq-eqb ((flags + 24) / 16 % 2) 1 (omega arith));
  }

  back-6 : id ≡ 0
      → Back first last tnf₀ 6 type id payload (flags ∷ type ∷ (payload / 256 / 256 / 256 % 256) ∷ (payload / 256 / 256 % 256) ∷ (payload / 256 % 256) ∷ (payload % 256) ∷ z)
  unfolding header_length id_length payload_length
  back-6 e = record {
    begins = omega arith;
    ends = omega arith;
    unchunked = omega arith;
    tnf-is = omega arith;
    header_is = rw (ne_eqb (flags / 16 % 2) 1 (omega arith), ne_eqb (flags / 8 % 2) 1 (omega arith));
    type_is = refl;
    id_is = rw (ne_eqb (flags / 8 % 2) 1 (omega arith)) (sym e);
    payload_is = rw (ne_eqb (flags / 16 % 2) 1 (omega arith)) (omega arith);
  }

  back-7 : Back first last tnf₀ 7 type id payload ((flags + 8) ∷ type ∷ (payload / 256 / 256 / 256 % 256) ∷ (payload / 256 / 256 % 256) ∷ (payload / 256 % 256) ∷ (payload % 256) ∷ id ∷ z)
  unfolding header_length id_length payload_length
  back-7 = record {
    begins = omega arith;
    ends = omega arith;
    unchunked = omega arith;
    tnf-is = omega arith;
    header_is = rw (ne_eqb ((flags + 8) / 16 % 2) 1 (omega arith), eq-eqb ((flags + 8) / 8 % 2) 1 (omega arith));
    type_is = refl;
    id_is = rw (ne_eqb ((flags + 8) / 16 % 2) 1 (omega arith), eq-eqb ((flags + 8) / 8 % 2) 1 (omega arith));
    payload_is = rw (ne_eqb ((flags + 8) / 16 % 2) 1 (omega arith)) (omega arith);
  }

  -- whichever form it has
  pub back : Back first last tnf₀ (length (header_bytes flags type id payload)) type id payload (header_bytes flags type id payload ++ z)
  back = each-form flags type id payload (λ b. Back first last tnf₀ (length b) type id payload (b ++ z)) (λ h e. back-3 e) (λ h e. back-4) (λ h e. back-6 e) (λ h e. back-7)

-- the parts behind a header
cuts : (tnf₀ : ℕ) (h k i p r : List ℕ)
    → ndef tnf₀ (take (length k) (drop (length h) (h ++ (k ++ (i ++ (p ++ r)))))) (take (length i) (drop (length h + length k) (h ++ (k ++ (i ++ (p ++ r))))))
    (take (length p) (drop (length h + length k + length i) (h ++ (k ++ (i ++ (p ++ r))))))
    ≡ ndef tnf₀ k i p
cuts tnf₀ h k i p r =
    rw (← drop-drop (length i) (length h + length k) (h ++ (k ++ (i ++ (p ++ r)))), ← drop-drop (length k) (length h) (h ++ (k ++ (i ++ (p ++ r)))))
    (simp (drop-append_seam, take-append_seam))

-- the record at the front of what is written
pub record-back : (first last tnf₀ : ℕ) (type id payload rest : List ℕ) → first ≤ 1 → last ≤ 1 → tnf₀ < 8 → length payload < 2 ^ 32
    → record_of (record_bytes first last (ndef tnf₀ type id payload) ++ rest) ≡ ndef tnf₀ type id payload
unfolding record_of record_by record_bytes part
record-back first last tnf₀ type id payload rest f l t p =
    let h : List ℕ = header_bytes (first * 128 + last * 64 + tnf₀) (length type) (length id) (length payload) in
    let s : List ℕ = h ++ (type ++ (id ++ (payload ++ rest))) in
    let joined : (h ++ (type ++ (id ++ payload))) ++ rest ≡ s = simp append_assoc in
    let w : Back first last tnf₀ (length h) (length type) (length id) (length payload) s =
    back first last tnf₀ (length type) (length id) (length payload) f l t p (type ++ (id ++ (payload ++ rest))) in
    rw (joined, w.tnf-is, w.header_is, w.type_is, w.id_is, w.payload_is) (cuts tnf₀ h type id payload rest)
