-- Type 2's memory has the laws of a tag with a TLV area. The bytes that the checks and the data area's size depend on are 12 to 15,
-- before the data area.
-- Assumes nothing.
use mathlib.Core.Path.{◌≡◌, refl}
use mathlib.Core.Bool.{true}
use mathlib.Core.List.{List}
use Prim.Native.Nat.{ℕ, ◌+◌, ◌*◌, ◌/◌, ◌≤◌}
use native.Mathlib.Omega.{arith}
use borrow.Author.Tests.{leb-true}
use lib.ListN.{length}
use Rattle.tag.specs.Bytes.{byte}
use Rattle.tag.specs.Checks.{fine, first_of}
use Rattle.tag.proofs.Logic.{lengths}
use Rattle.tag.proofs.Checks.{AllPass, fine-all}
use Rattle.tlv_tag.proofs.Tag.{TlvLaws}
use Rattle.type2.specs.Memory.{image_length, memory}

length-is : (n : ℕ) → image_length n ≡ true → (n ≡ 4 * (n / 4)) × (n ≤ 1024)
length-is n e =
    let (whole, low, high) = lengths 4 64 1024 n e in
    (omega arith, high)

passes : (i : List ℕ) → first_of (memory.checks i) ≡ fine → AllPass (memory.checks i)
passes i e = fine-all (memory.checks i) e

pub memory-laws : TlvLaws memory
memory-laws = record {
  block-pos = omega arith;
  before = 15;
  first_is = refl;
  bound = λ i e.
      let c = passes i e in
      let l = length-is (length i) c.0 in
      let v : 16 + 8 * byte i 14 ≤ length i = leb-true (16 + 8 * byte i 14) (length i) c.1.1.1.1.0 in
      (l.0, omega arith, omega arith);
  numbered = λ i. (
    (omega arith, omega arith),
    ((omega arith, omega arith), ((omega arith, omega arith), ((omega arith, omega arith), ((omega arith, omega arith), tt)))),
  );
  local = λ i j l h.
      let e12 : byte j 12 ≡ byte i 12 = h 12 (omega arith) in
      let e13 : byte j 13 ≡ byte i 13 = h 13 (omega arith) in
      let e14 : byte j 14 ≡ byte i 14 = h 14 (omega arith) in
      let e15 : byte j 15 ≡ byte i 15 = h 15 (omega arith) in
      (rw (l, e12, e13, e14, e15), rw e14, rw e15);
}

-- the data area begins at 16
pub before-is : memory-laws.before ≡ 15
unfolding memory-laws
before-is = refl

-- the image is whole blocks
pub whole-blocks : (i : List ℕ) → first_of (memory.checks i) ≡ fine → length i ≡ 4 * (length i / 4)
whole-blocks i e = (memory-laws.bound i e).0

-- and has at most 1,024 bytes
pub short-image : (i : List ℕ) → first_of (memory.checks i) ≡ fine → length i ≤ 1024
short-image i e = (length-is (length i) (passes i e).0).1
