-- The four forms of the header that is written: three bytes, one more with an ID, three more for a payload of 256 bytes or more.
-- Assumes nothing.
use mathlib.Core.Path.{◌≡◌, refl}
use mathlib.Core.Bool.{Bool, true, false, cond}
use mathlib.Core.List.{List, [], ◌∷◌}
use Prim.Native.Nat.{ℕ, ◌+◌, ◌*◌, ◌/◌, ◌%◌, ◌<◌, ◌≤◌}
use native.Mathlib.Omega.{arith}
use lib.ListN.{length, length-append}
use lib.Dec.{eqb, ltb}
use borrow.Author.Tests.{lt-ltb, le-ltb, eq-eqb, ne_eqb, ltb-true, ltb-false, eqb-true, eqb-false}
use Rattle.ndef.specs.Record.{Record, ndef}
use Rattle.ndef.specs.Shortest.{header_bytes, record_bytes}

module _ (flags type id payload : ℕ) where
  pub header-3 : payload < 256 → id ≡ 0 → header_bytes flags type id payload ≡ (flags + 16) ∷ type ∷ payload ∷ []
  unfolding header_bytes
  header-3 h e = rw (lt-ltb payload 256 h, eq-eqb id 0 e)

  pub header-4 : payload < 256 → (id ≡ 0 → ⊥) → header_bytes flags type id payload ≡ (flags + 24) ∷ type ∷ payload ∷ id ∷ []
  unfolding header_bytes
  header-4 h e = rw (lt-ltb payload 256 h, ne_eqb id 0 e)

  pub header-6 : 256 ≤ payload → id ≡ 0
      → header_bytes flags type id payload ≡ flags ∷ type ∷ (payload / 256 / 256 / 256 % 256) ∷ (payload / 256 / 256 % 256) ∷ (payload / 256 % 256) ∷ (payload % 256) ∷ []
  unfolding header_bytes
  header-6 h e = rw (le-ltb payload 256 h, eq-eqb id 0 e)

  pub header-7 : 256 ≤ payload → (id ≡ 0 → ⊥)
      → header_bytes flags type id payload ≡ (flags + 8) ∷ type ∷ (payload / 256 / 256 / 256 % 256) ∷ (payload / 256 / 256 % 256) ∷ (payload / 256 % 256) ∷ (payload % 256) ∷ id ∷ []
  unfolding header_bytes
  header-7 h e = rw (le-ltb payload 256 h, ne_eqb id 0 e)

  -- what holds in each of the four forms holds of the header
  pub each-form : (P : List ℕ → Type 0)
      → (payload < 256 → id ≡ 0 → P ((flags + 16) ∷ type ∷ payload ∷ []))
      → (payload < 256 → (id ≡ 0 → ⊥) → P ((flags + 24) ∷ type ∷ payload ∷ id ∷ []))
      → (256 ≤ payload → id ≡ 0 → P (flags ∷ type ∷ (payload / 256 / 256 / 256 % 256) ∷ (payload / 256 / 256 % 256) ∷ (payload / 256 % 256) ∷ (payload % 256) ∷ []))
      → (256 ≤ payload → (id ≡ 0 → ⊥) → P ((flags + 8) ∷ type ∷ (payload / 256 / 256 / 256 % 256) ∷ (payload / 256 / 256 % 256) ∷ (payload / 256 % 256) ∷ (payload % 256) ∷ id ∷ []))
      → P (header_bytes flags type id payload)
  each-form P p3 p4 p6 p7 = go (ltb payload 256) refl (eqb id 0) refl
    where
      go : (a : Bool) → ltb payload 256 ≡ a → (b : Bool) → eqb id 0 ≡ b → P (header_bytes flags type id payload)
      go true q true w = rw (header-3 (ltb-true payload 256 q) (eqb-true id 0 w)) (p3 (ltb-true payload 256 q) (eqb-true id 0 w))
      go true q false w = rw (header-4 (ltb-true payload 256 q) (eqb-false id 0 w)) (p4 (ltb-true payload 256 q) (eqb-false id 0 w))
      go false q true w = rw (header-6 (ltb-false payload 256 q) (eqb-true id 0 w)) (p6 (ltb-false payload 256 q) (eqb-true id 0 w))
      go false q false w = rw (header-7 (ltb-false payload 256 q) (eqb-false id 0 w)) (p7 (ltb-false payload 256 q) (eqb-false id 0 w))

  pub header-long : length (header_bytes flags type id payload) ≡ cond (ltb payload 256) (cond (eqb id 0) 3 4) (cond (eqb id 0) 6 7)
  header-long =
      each-form (λ b. length b ≡ cond (ltb payload 256) (cond (eqb id 0) 3 4) (cond (eqb id 0) 6 7))
      (λ h e. rw (lt-ltb payload 256 h, eq-eqb id 0 e)) (λ h e. rw (lt-ltb payload 256 h, ne_eqb id 0 e))
      (λ h e. rw (le-ltb payload 256 h, eq-eqb id 0 e)) (λ h e. rw (le-ltb payload 256 h, ne_eqb id 0 e))

  pub header-some : 3 ≤ length (header_bytes flags type id payload)
  header-some = each-form (λ b. 3 ≤ length b) (λ h e. omega arith) (λ h e. omega arith) (λ h e. omega arith) (λ h e. omega arith)

pub record-long : (first last tnf : ℕ) (type id payload : List ℕ)
    → length (record_bytes first last (ndef tnf type id payload))
    ≡ length (header_bytes (first * 128 + last * 64 + tnf) (length type) (length id) (length payload)) + (length type + (length id + length payload))
unfolding record_bytes
record-long first last tnf type id payload = rw (length-append, length-append, length-append)

pub record-some : (first last : ℕ) (r : Record) → 3 ≤ length (record_bytes first last r)
record-some first last (ndef tnf type id payload) =
    omega (arith, record-long first last tnf type id payload, header-some (first * 128 + last * 64 + tnf) (length type) (length id) (length payload))
