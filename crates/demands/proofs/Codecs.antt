-- The codecs lose nothing: decoding undoes encoding, and encoding undoes decoding.
-- Assumes nothing.
use mathlib.Core.Path.{◌≡◌, refl, sym, ap, ◌∙◌}
use mathlib.Core.Bool.{Bool, true, false, ◌&&◌}
use mathlib.Core.List.{List}
use Prim.Native.Nat.{ℕ, ◌+◌, ◌*◌, ◌≤◌}
use native.Mathlib.Omega.{arith}
use borrow.Author.Tests.{leb-true, le-leb}
use lib.Dec.{leb}
use lib.ListN.{length, take}
use lib.Seq.{length-take-le, take_all}
use Rattle.tag.specs.Refusals.{malformed_command}
use Rattle.tag.specs.TagType.{refused_output, output, fitted}
use Rattle.tag.proofs.Logic.{and_l, and_r, and_both, nope}
use Rattle.type2.specs.Codec as codec2
use Rattle.type2.proofs.Codec as laws2
use Rattle.type3.specs.Codec as codec3
use Rattle.type3.proofs.Codec as laws3
use Rattle.type6.specs.Codec as codec6
use Rattle.type6.proofs.Codec as laws6
use Rattle.demands.specs.Demand2.{Codec2, Codec3, Codec6}
use Rattle.demands.proofs.Demand2.{fitted-is}

pub codec-2 : Codec2
codec-2 = record { decode_encode = there; encode_decode = back }
  where
    there : (blocks b : ℕ) (bytes : List ℕ) (room n : ℕ) (all : List ℕ) → length bytes ≡ 4
        → codec2.encode blocks b bytes room ≡ output n all → (codec2.decode blocks all ≡ codec2.decoded b bytes) × (n ≡ length all)
    there blocks b bytes room n all l e = go (codec2.nameable blocks b) refl
      where
        go : (t : Bool) → codec2.nameable blocks b ≡ t → (codec2.decode blocks all ≡ codec2.decoded b bytes) × (n ≡ length all)
        go false q = let f : refused_output malformed_command ≡ output n all = rw q at e in absurd (nope (cc))
        go true q =
            let f : fitted room 6 (codec2.command_bytes b bytes) ≡ output n all = rw q at e in
            let (k, u) = fitted-is room 6 n (codec2.command_bytes b bytes) all f in
            (rw (← u) (laws2.decode_encode blocks b bytes q l), omega (arith, ap length u))

    back : (blocks : ℕ) (all : List ℕ) (b : ℕ) (bytes : List ℕ) (room : ℕ) → length all ≤ room
        → codec2.decode blocks all ≡ codec2.decoded b bytes → codec2.encode blocks b bytes room ≡ output (length all) all
    back blocks all b bytes room l e =
        let (q, n, u) = laws2.encode_decode blocks all b bytes e in
        let k : length (codec2.command_bytes b bytes) ≤ room = omega (arith, ap length u) in
        let six : 6 ≡ length all = omega (arith, ap length u) in
        rw (q, le-leb (length (codec2.command_bytes b bytes)) room k) (ap (λ x. output 6 x) (sym u) ∙ ap (λ x. output x all) six)

pub codec-3 : (idm : List ℕ) → length idm ≡ 8 → Codec3 idm
codec-3 idm eight = record { decode_encode = there; encode_decode = back }
  where
    there : (nbw nmaxb b : ℕ) (bs bytes : List ℕ) (room n : ℕ) (all : List ℕ) → 16 * b ≤ length bytes
        → codec3.encode idm nbw nmaxb b bs bytes room ≡ output n all
        → (codec3.decode idm nbw nmaxb all ≡ codec3.decoded (take b bs) (take (16 * b) bytes)) × (n ≡ length all)
    there nbw nmaxb b bs bytes room n all l e = go (leb b (length bs)) refl (codec3.well_listed nbw nmaxb (take b bs)) refl
      where
        go : (s : Bool) → leb b (length bs) ≡ s → (t : Bool) → codec3.well_listed nbw nmaxb (take b bs) ≡ t
            → (codec3.decode idm nbw nmaxb all ≡ codec3.decoded (take b bs) (take (16 * b) bytes)) × (n ≡ length all)
        go false p t q = let f : refused_output malformed_command ≡ output n all = rw p at e in absurd (nope (cc))
        go true p false q = let f : refused_output malformed_command ≡ output n all = rw (p, q) at e in absurd (nope (cc))
        go true p true q =
            let count : length (take b bs) ≡ b = length-take-le b bs (leb-true b (length bs) p) in
            let whole : length (take (16 * b) bytes) ≡ 16 * length (take b bs) = length-take-le (16 * b) bytes l ∙ ap (λ k. 16 * k) (sym count) in
            let f : fitted room (13 + 18 * length (take b bs)) (codec3.command_bytes idm (take b bs) (take (16 * b) bytes)) ≡ output n all = rw (p, q) at e in
            let (k, u) = fitted-is room (13 + 18 * length (take b bs)) n (codec3.command_bytes idm (take b bs) (take (16 * b) bytes)) all f in (
              rw (← u) (laws3.decode_encode idm nbw nmaxb (take b bs) (take (16 * b) bytes) eight q whole),
              sym k ∙ sym (laws3.length-command idm (take b bs) (take (16 * b) bytes) eight whole) ∙ ap length u,
            )

    back : (nbw nmaxb : ℕ) (all bs bytes : List ℕ) (room : ℕ) → length all ≤ room
        → codec3.decode idm nbw nmaxb all ≡ codec3.decoded bs bytes → codec3.encode idm nbw nmaxb (length bs) bs bytes room ≡ output (length all) all
    back nbw nmaxb all bs bytes room l e =
        let (q, n, u, z) = laws3.encode_decode idm nbw nmaxb all bs bytes e in
        let k : length (codec3.command_bytes idm bs bytes) ≡ 13 + 18 * length bs = laws3.length-command idm bs bytes eight n in
        let m : length (codec3.command_bytes idm bs bytes) ≤ room = omega (arith, ap length u) in
        let all_blocks : take (length bs) bs ≡ bs = take_all (length bs) bs (omega arith) in
        let all-bytes : take (16 * length bs) bytes ≡ bytes = take_all (16 * length bs) bytes (omega (arith, n)) in
        rw (le-leb (length bs) (length bs) (omega arith), all_blocks, all-bytes, q, le-leb (length (codec3.command_bytes idm bs bytes)) room m)
        (ap (λ x. output (13 + 18 * length bs) x) (sym u) ∙ ap (λ x. output x all) (sym k ∙ ap length (sym u)))

pub codec-6 : Codec6
codec-6 = record { decode_encode = there; encode_decode = back }
  where
    there : (z blocks b : ℕ) (bytes : List ℕ) (room n : ℕ) (all : List ℕ) → z ≤ length bytes
        → codec6.encode z blocks b bytes room ≡ output n all
        → (codec6.decode z blocks all ≡ codec6.decoded b (take z bytes)) × (n ≡ length all)
    there z blocks b bytes room n all l e = go (codec6.size_defined z && codec6.nameable blocks b) refl
      where
        go : (t : Bool) → codec6.size_defined z && codec6.nameable blocks b ≡ t
            → (codec6.decode z blocks all ≡ codec6.decoded b (take z bytes)) × (n ≡ length all)
        go false q = let f : refused_output malformed_command ≡ output n all = rw q at e in absurd (nope (cc))
        go true q =
            let size = and_l (codec6.size_defined z) (codec6.nameable blocks b) q in
            let named = and_r (codec6.size_defined z) (codec6.nameable blocks b) q in
            let whole : length (take z bytes) ≡ z = length-take-le z bytes l in
            let f : fitted room (3 + z) (codec6.command_bytes b (take z bytes)) ≡ output n all = rw q at e in
            let (k, u) = fitted-is room (3 + z) n (codec6.command_bytes b (take z bytes)) all f in
            (rw (← u) (laws6.decode_encode z blocks b (take z bytes) size named whole), omega (arith, ap length u))

    back : (z blocks : ℕ) (all : List ℕ) (b : ℕ) (bytes : List ℕ) (room : ℕ) → length all ≤ room
        → codec6.decode z blocks all ≡ codec6.decoded b bytes → codec6.encode z blocks b bytes room ≡ output (length all) all
    back z blocks all b bytes room l e =
        let (size, named, n, u) = laws6.encode_decode z blocks all b bytes e in
        let k : length (codec6.command_bytes b bytes) ≤ room = omega (arith, ap length u) in
        let count : 3 + z ≡ length all = omega (arith, ap length u) in
        let every : take z bytes ≡ bytes = take_all z bytes (omega arith) in
        rw (every, and_both size named, le-leb (length (codec6.command_bytes b bytes)) room k)
        (ap (λ x. output (3 + z) x) (sym u) ∙ ap (λ x. output x all) count)
