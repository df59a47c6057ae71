-- The bytes that writing sets: the length field by its two forms, how many bytes there are, and that they are set in three parts.
-- Assumes nothing.
use mathlib.Core.Path.{◌≡◌}
use mathlib.Core.List.{List, [], ◌∷◌, ◌++◌}
use Prim.Native.Nat.{ℕ, ◌/◌, ◌%◌, ◌<◌, ◌≤◌}
use native.Mathlib.Omega.{arith}
use borrow.Author.Tests.{le-leb, lt-leb}
use lib.ListN.{length, length-append}
use Rattle.tlv.proofs.Usable.{ahead-rising}
use Rattle.tlv_value.proofs.Overlays.{overlay-parts}
use Rattle.tlv_tag.specs.Update.{length_field, tlv_bytes}
use Rattle.tlv_tag.specs.Views.Update.{tlv_bytes_length}

pub length-short : (n : ℕ) → n ≤ 254 → n ∷ [] ≡ length_field n
unfolding length_field
length-short n h = rw (le-leb n 254 h)

pub length-long : (n : ℕ) → 254 < n → 0xFF ∷ n / 256 ∷ n % 256 ∷ [] ≡ length_field n
unfolding length_field
length-long n h = rw (lt-leb n 254 h)

pub length-tlv-bytes : (m : List ℕ) → length (tlv_bytes m) ≡ tlv_bytes_length (length m)
length-tlv-bytes m =
    omega (arith, length-append (length_field (length m)) (m ++ 0xFE ∷ []), length-append m (0xFE ∷ []))

-- each part is set at the addresses that the one before it left
pub ruleset in_parts = (overlay-parts, ahead-rising)
