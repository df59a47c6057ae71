-- The answers of Type 2's codec, and four bytes taken one by one, on which its code relies.
-- Assumes nothing.
use mathlib.Core.Path.{◌≡◌, refl}
use mathlib.Core.Bool.{true, false}
use mathlib.Core.List.{List, [], ◌∷◌}
use Prim.Native.Nat.{ℕ, ◌<◌}
use native.Mathlib.Omega.{arith}
use borrow.Author.Tests.{lt-leb}
use lib.ListN.{length, drop}
use Rattle.tag.specs.Bytes.{byte}
use Rattle.tag.specs.Refusals.{positioned, malformed_command, short_buffer}
use Rattle.tag.specs.TagType.{refused_output}
use Rattle.type2.specs.Codec.{nameable, command_bytes, encode, well_formed, undecoded, decoded, decode}

-- the four bytes of a command of six
pub carried : (bs : List ℕ) → length bs ≡ 6 → byte bs 2 ∷ byte bs 3 ∷ byte bs 4 ∷ byte bs 5 ∷ [] ≡ drop 2 bs
carried (t ∷ c ∷ b0 ∷ b1 ∷ b2 ∷ b3 ∷ []) h = refl
carried _ h = absurd (omega arith)

-- ---- the refusals of encoding

pub encode-unnamed : (blocks b : ℕ) (bytes : List ℕ) (room : ℕ) → nameable blocks b ≡ false
    → encode blocks b bytes room ≡ refused_output malformed_command
encode-unnamed blocks b bytes room n = rw n

pub encode-short : (blocks b : ℕ) (bytes : List ℕ) (room : ℕ) → nameable blocks b ≡ true → length bytes ≡ 4 → room < 6
    → encode blocks b bytes room ≡ refused_output short_buffer
encode-short blocks b bytes room n l h = rw (n, lt-leb (length (command_bytes b bytes)) room (omega arith))

-- ---- the two answers of decoding

pub decode-formed : (blocks : ℕ) (bs : List ℕ) → well_formed blocks bs ≡ true → decode blocks bs ≡ decoded (byte bs 1) (drop 2 bs)
unfolding decode
decode-formed blocks bs h = rw h

pub decode-malformed : (blocks : ℕ) (bs : List ℕ) → well_formed blocks bs ≡ false → decode blocks bs ≡ undecoded (positioned malformed_command 0)
unfolding decode
decode-malformed blocks bs h = rw h
