-- What the code of Type 6's codec relies on: the bounds behind its tests. And the refusals of encoding.
-- Assumes nothing.
use mathlib.Core.Path.{◌≡◌, ap, ◌∙◌}
use mathlib.Core.Bool.{true, false, and-false}
use mathlib.Core.List.{List}
use Prim.Native.Nat.{ℕ, suc, ◌+◌, ◌*◌, ◌<◌, ◌≤◌}
use native.Mathlib.Nat.{mul-le-mul_left}
use native.Mathlib.Omega.{arith}
use borrow.Author.Tests.{leb-true, ltb-true, lt-leb}
use lib.Dec.{leb, ltb}
use lib.ListN.{length, take, drop, replicate, length-drop}
use lib.Seq.{length-take-le, take-append_seam}
use Rattle.tag.specs.Bytes.{byte, overwrite}
use Rattle.tag.specs.Refusals.{malformed_command, short_buffer}
use Rattle.tag.specs.TagType.{refused_output, fitted}
use Rattle.tag.proofs.Logic.{and_l, and_r}
use Rattle.type6.specs.Codec.{size_defined, nameable, command_bytes, encode, well_formed}
use Rattle.type6.proofs.Codec.{formed, defined-bounds}

pub name-bounds : (blocks b : ℕ) → nameable blocks b ≡ true → (b < blocks) × (b ≤ 255)
name-bounds blocks b h = (ltb-true b blocks (and_l (ltb b blocks) (leb b 255) h), leb-true b 255 (and_r (ltb b blocks) (leb b 255) h))

-- what the model needs of a well-formed command: its block lies in the image
pub record Stored (z blocks : ℕ) (bs : List ℕ) : Type 0 where
  pub long : length bs ≡ 3 + z
  pub small : z ≤ 32
  pub a_byte : byte bs 2 ≤ 255
  pub inside : z * byte bs 2 + z ≤ z * blocks

pub stored-bounds : (z blocks : ℕ) (bs : List ℕ) → well_formed z blocks bs ≡ true → Stored z blocks bs
stored-bounds z blocks bs h =
    let f = formed z blocks bs h in
    let (below, a_byte) = name-bounds blocks (byte bs 2) f.named in
    let more : z * suc (byte bs 2) ≤ z * blocks = mul-le-mul_left z below in
    record {
      long = f.long;
      small = (defined-bounds z f.defined).1;
      a_byte = a_byte;
      inside = omega arith;
    }

-- the front of the array that a command's bytes are stored in
pub carried-front : (z : ℕ) (bs : List ℕ) → length bs ≡ 3 + z → take z (overwrite (drop 3 bs) (replicate 32 0)) ≡ drop 3 bs
carried-front z bs l =
    let n : z ≡ length (drop 3 bs) = omega (arith, length-drop 3 bs) in
    ap (λ k. take k (overwrite (drop 3 bs) (replicate 32 0))) n ∙ take-append_seam (drop 3 bs) (drop (length (drop 3 bs)) (replicate 32 0))

-- ---- the refusals of encoding

module _ (z blocks b : ℕ) (bytes : List ℕ) (room : ℕ) where
  pub encode-undefined : size_defined z ≡ false → encode z blocks b bytes room ≡ refused_output malformed_command
  encode-undefined e = rw e

  pub encode-unnamed : nameable blocks b ≡ false → encode z blocks b bytes room ≡ refused_output malformed_command
  encode-unnamed e = rw (e, and-false (size_defined z))

pub fitted_short : (z b : ℕ) (bytes : List ℕ) (room : ℕ) → z ≤ length bytes → room < 3 + z
    → fitted room (3 + z) (command_bytes b (take z bytes)) ≡ refused_output short_buffer
fitted_short z b bytes room l h = rw (lt-leb (length (command_bytes b (take z bytes))) room (omega (arith, length-take-le z bytes l)))
