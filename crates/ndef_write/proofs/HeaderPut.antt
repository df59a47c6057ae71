-- The four forms of a header, with its numbers as the code has them.
-- Assumes nothing.
use mathlib.Core.Path.{◌≡◌, refl}
use mathlib.Core.Bool.{Bool, true, false, cond}
use mathlib.Core.List.{[], ◌∷◌}
use Prim.Native.Nat.{ℕ, ◌+◌, ◌/◌, ◌%◌, ◌<◌, ◌≤◌}
use native.Mathlib.Omega.{arith}
use mir.Val.{bool_byte}
use Rattle.ndef.specs.Shortest.{header_bytes}
use Rattle.ndef.proofs.HeaderForms.{header-3, header-4, header-6, header-7}

pub bit_is : (b : Bool) → bool_byte b ≡ cond b 1 0
bit_is true = refl
bit_is false = refl

module _ (flags type id payload : ℕ) where
  pub short : payload < 256 → id ≡ 0 → header_bytes flags type id payload ≡ (flags + 16) ∷ type ∷ (payload % 256) ∷ []
  short h e = let low : payload % 256 ≡ payload = omega arith in rw low (header-3 flags type id payload h e)

  pub short-id : payload < 256 → (id ≡ 0 → ⊥) → header_bytes flags type id payload ≡ (flags + 16 + 8) ∷ type ∷ (payload % 256) ∷ id ∷ []
  short-id h f =
      let low : payload % 256 ≡ payload = omega arith in
      let both : flags + 16 + 8 ≡ flags + 24 = omega arith in
      rw (low, both) (header-4 flags type id payload h f)

  three : payload / 16777216 ≡ payload / 256 / 256 / 256
  three = omega arith

  two : payload / 65536 ≡ payload / 256 / 256
  two = omega arith

  pub long : 256 ≤ payload → id ≡ 0
      → header_bytes flags type id payload ≡ flags ∷ type ∷ (payload / 16777216 % 256) ∷ (payload / 65536 % 256) ∷ (payload / 256 % 256) ∷ (payload % 256) ∷ []
  long h e = rw (three, two) (header-6 flags type id payload h e)

  pub long-id : 256 ≤ payload → (id ≡ 0 → ⊥)
      → header_bytes flags type id payload ≡ (flags + 8) ∷ type ∷ (payload / 16777216 % 256) ∷ (payload / 65536 % 256) ∷ (payload / 256 % 256) ∷ (payload % 256) ∷ id ∷ []
  long-id h f = rw (three, two) (header-7 flags type id payload h f)
