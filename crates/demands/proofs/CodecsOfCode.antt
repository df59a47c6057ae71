-- Calls of `encode` and `decode` that meet their contracts lose nothing, for each type.
-- Assumes nothing.
use mathlib.Core.Path.{◌≡◌, refl, sym, ap, ap₂, ◌∙◌}
use mathlib.Core.Bool.{Bool, true, false, ◌&&◌}
use mathlib.Core.List.{List}
use Prim.Native.Nat.{ℕ, ◌*◌, ◌≤◌}
use native.Mathlib.Omega.{arith}
use borrow.Author.Tests.{leb-true, le-leb}
use lib.Dec.{leb}
use lib.ListN.{length, take, drop, replicate, length-map, length-take}
use lib.Seq.{take_all, length-take-le, take-append_seam}
use Rattle.std.specs.Prelude.{Result, Ok, Err}
use Rattle.tag.specs.declared.refusals.Refusal.{Refusal}
use Rattle.tag.specs.Bytes.{overwrite}
use Rattle.tag.specs.Refusals.{refusal_at, malformed_command}
use Rattle.tag.specs.TagType.{refused_output, output}
use Rattle.tag.specs.Answers.{number_of}
use Rattle.tag.proofs.Logic.{and_l, nope}
use Rattle.type2.specs.declared.Command as command2
use Rattle.type2.specs.Codec as two
use Rattle.type2.specs.CodecContracts as views2
use Rattle.type3_commands.specs.declared.Command as command3
use Rattle.type3.specs.Codec as three
use Rattle.type3_commands.specs.CodecContracts as views3
use Rattle.type6.specs.declared.Command as command6
use Rattle.type6.specs.Codec as six
use Rattle.type6.specs.CodecContracts as views6
use Rattle.type6.proofs.Codec.{defined-bounds}
use Rattle.demands.specs.Code2.{codec3, codec6}
use Rattle.tag.proofs.Outputs.{put_all, put-counted}
use Rattle.demands.proofs.Codecs.{codec-2, codec-3, codec-6}

-- the front of a buffer is what was written over it
front : (n : ℕ) (all buffer out : List ℕ) → out ≡ overwrite all buffer → n ≡ length all → take n out ≡ all
front n all buffer out e k = ap (take n) e ∙ ap (λ x. take x (overwrite all buffer)) k ∙ take-append_seam all (drop (length all) buffer)

-- ---- Type 2

module _ (blocks : ℕ) where
  -- bytes that hold a command decode to it
  decoded-2 : (bytes : List ℕ) (d : Result command2.Command Refusal) → views2.DecodedTo blocks bytes d
      → (c : command2.Command) → two.decode blocks bytes ≡ two.decoded c.block.0 c.bytes → d ≡ Ok c
  decoded-2 bytes (Ok x) e c q =
      let z : two.decoded x.block.0 x.bytes ≡ two.decoded c.block.0 c.bytes = e ∙ q in
      let block : x.block.0 ≡ c.block.0 = cc in
      let held : x.bytes ≡ c.bytes = cc in
      ap₂ (λ b bs. Ok (record { block = record { 0 = b }; bytes = bs })) block held
  decoded-2 bytes (Err f) e c q = let z : two.undecoded (refusal_at (number_of f) 0) ≡ two.decoded c.block.0 c.bytes = e ∙ q in absurd (nope (cc))

  pub back-2 : (all : List ℕ) (c : command2.Command) → views2.DecodedTo blocks all (Ok c)
      → (buffer out : List ℕ) (r : Result ℕ Refusal) → length all ≤ length buffer → views2.EncodedTo blocks c buffer r out
      → (r ≡ Ok (length all)) × (out ≡ overwrite all buffer)
  back-2 all c e buffer out r l encoded =
      put_all (two.encode blocks c.block.0 c.bytes) buffer out r (length all) all encoded
      (codec-2.encode_decode blocks all c.block.0 c.bytes (length buffer) l (sym e))

  pub there-2 : (c : command2.Command) → length c.bytes ≡ 4 → (buffer out : List ℕ) (n : ℕ) → views2.EncodedTo blocks c buffer (Ok n) out
      → (d : Result command2.Command Refusal) → views2.DecodedTo blocks (take n out) d → d ≡ Ok c
  there-2 c long buffer out n encoded d decodes =
      let (all, o, b) = put-counted (two.encode blocks c.block.0 c.bytes) buffer out n encoded in
      let (was, long) = codec-2.decode_encode blocks c.block.0 c.bytes (length buffer) n all long o in
      let read : two.decode blocks (take n out) ≡ two.decoded c.block.0 c.bytes = ap (two.decode blocks) (front n all buffer out b long) ∙ was in
      decoded-2 (take n out) d decodes c read

-- ---- Type 3

module _ (idm : List ℕ) (eight : length idm ≡ 8) (nbw nmaxb : ℕ) where
  -- only the part of the arrays that is used matters to encoding
  padded : (c : ℕ) (bs bytes : List ℕ) (room : ℕ) → length (take c bs) ≡ c
      → three.encode idm nbw nmaxb c bs bytes room ≡ three.encode idm nbw nmaxb (length (take c bs)) (take c bs) (take (16 * c) bytes) room
  padded c bs bytes room n =
      let used = take c bs in
      let carried = take (16 * c) bytes in
      let some : leb c (length bs) ≡ true = le-leb c (length bs) (omega (arith, length-take c bs)) in
      let all : leb (length used) (length used) ≡ true = le-leb (length used) (length used) (omega arith) in
      let named : take (length used) used ≡ used = take_all (length used) used (omega arith) in
      let filled : take (16 * length used) carried ≡ carried = take_all (16 * length used) carried (omega (arith, length-take (16 * c) bytes)) in
      rw (some, all, named, filled)

  -- bytes that hold a command decode to it
  decoded-3 : (bytes : List ℕ) (d : Result command3.Command Refusal) → views3.DecodedTo idm nbw nmaxb bytes d
      → (bs carried : List ℕ) → three.decode idm nbw nmaxb bytes ≡ three.decoded bs carried → d ≡ Ok (views3.command_as (three.decoded bs carried))
  decoded-3 bytes (Ok c) (e, k) bs carried q = ap Ok (k ∙ ap views3.command_as q)
  decoded-3 bytes (Err f) (e, k) bs carried q = let y : three.undecoded (refusal_at (number_of f) 0) ≡ three.decoded bs carried = e ∙ q in absurd (nope (cc))

  pub back-3 : (all : List ℕ) (c : command3.Command) → views3.DecodedTo idm nbw nmaxb all (Ok c)
      → (buffer out : List ℕ) (r : Result ℕ Refusal) → length all ≤ length buffer → views3.EncodedTo idm nbw nmaxb c buffer r out
      → (r ≡ Ok (length all)) × (out ≡ overwrite all buffer)
  back-3 all c (e, k) buffer out r l encoded =
      let numbers = views3.block_numbers c.blocks in
      let used = take c.count numbers in
      let carried = take (16 * c.count) c.bytes in
      let read : three.decode idm nbw nmaxb all ≡ three.decoded used carried = sym e in
      let count-is : c.count ≡ length used = ap (λ x. x.count) (k ∙ ap views3.command_as read) in
      put_all (three.encode idm nbw nmaxb c.count numbers c.bytes) buffer out r (length all) all encoded
      (
      padded c.count numbers c.bytes (length buffer) (sym count-is)
      ∙ (codec-3 idm eight).encode_decode nbw nmaxb all used carried (length buffer) l read
      )

  pub there-3 : (c : command3.Command) → (length c.blocks ≡ 8) × (length c.bytes ≡ 128)
      → (buffer out : List ℕ) (n : ℕ) → views3.EncodedTo idm nbw nmaxb c buffer (Ok n) out
      → (d : Result command3.Command Refusal) → views3.DecodedTo idm nbw nmaxb (take n out) d → d ≡ Ok ((codec3 idm nbw nmaxb).used c)
  there-3 c (blocks-8, bytes-128) buffer out n encoded d decodes =
      let numbers = views3.block_numbers c.blocks in
      let (all, o, b) = put-counted (three.encode idm nbw nmaxb c.count numbers c.bytes) buffer out n encoded in
      go all o b (leb c.count (length numbers)) refl
    where
      go : (all : List ℕ) → three.encode idm nbw nmaxb c.count (views3.block_numbers c.blocks) c.bytes (length buffer) ≡ output n all → out ≡ overwrite all buffer
          → (x : Bool) → leb c.count (length (views3.block_numbers c.blocks)) ≡ x
          → d ≡ Ok ((codec3 idm nbw nmaxb).used c)
      go all o b false q = let z : refused_output malformed_command ≡ output n all = rw q at o in absurd (nope (cc))
      go all o b true q =
          let numbers = views3.block_numbers c.blocks in
          let used = take c.count numbers in
          let carried = take (16 * c.count) c.bytes in
          let few : c.count ≤ length numbers = leb-true c.count (length numbers) q in
          let long : 16 * c.count ≤ length c.bytes = omega (arith, length-map c.blocks (λ x. x.0)) in
          let (was, size) = (codec-3 idm eight).decode_encode nbw nmaxb c.count numbers c.bytes (length buffer) n all long o in
          let read : three.decode idm nbw nmaxb (take n out) ≡ three.decoded used carried = ap (three.decode idm nbw nmaxb) (front n all buffer out b size) ∙ was in
          let counted-as : length used ≡ c.count = length-take-le c.count numbers few in
          decoded-3 (take n out) d decodes used carried read
          ∙ ap
          (λ x. Ok (record { count = x; blocks = views3.blocks_of (overwrite used (replicate 8 0)); bytes = overwrite carried (replicate 128 0) }))
          counted-as

-- ---- Type 6

module _ (z blocks : ℕ) where
  -- bytes that hold a command decode to it
  decoded-6 : (bytes : List ℕ) (d : Result command6.Command Refusal) → views6.DecodedTo z blocks bytes d
      → (b : ℕ) (carried : List ℕ) → six.decode z blocks bytes ≡ six.decoded b carried → d ≡ Ok (views6.command_as (six.decoded b carried))
  decoded-6 bytes (Ok c) (e, k) b carried q = ap Ok (k ∙ ap views6.command_as q)
  decoded-6 bytes (Err f) (e, k) b carried q = let y : six.undecoded (refusal_at (number_of f) 0) ≡ six.decoded b carried = e ∙ q in absurd (nope (cc))

  pub back-6 : (all : List ℕ) (c : command6.Command) → views6.DecodedTo z blocks all (Ok c)
      → (buffer out : List ℕ) (r : Result ℕ Refusal) → length all ≤ length buffer → views6.EncodedTo z blocks c buffer r out
      → (r ≡ Ok (length all)) × (out ≡ overwrite all buffer)
  back-6 all c (e, k) buffer out r l encoded =
      let b = c.block.0 in
      let carried = take z c.bytes in
      let first : take z carried ≡ carried = take_all z carried (omega (arith, length-take z c.bytes)) in
      let o : six.encode z blocks b carried (length buffer) ≡ output (length all) all
      = codec-6.encode_decode z blocks all b carried (length buffer) l (sym e) in
      put_all (six.encode z blocks b c.bytes) buffer out r (length all) all encoded (rw first at o)

  pub there-6 : (c : command6.Command) → length c.bytes ≡ 32
      → (buffer out : List ℕ) (n : ℕ) → views6.EncodedTo z blocks c buffer (Ok n) out
      → (d : Result command6.Command Refusal) → views6.DecodedTo z blocks (take n out) d → d ≡ Ok ((codec6 z blocks).used c)
  there-6 c long buffer out n encoded d decodes =
      let (all, o, b) = put-counted (six.encode z blocks c.block.0 c.bytes) buffer out n encoded in
      go all o b (six.size_defined z && six.nameable blocks c.block.0) refl
    where
      go : (all : List ℕ) → six.encode z blocks c.block.0 c.bytes (length buffer) ≡ output n all → out ≡ overwrite all buffer
          → (x : Bool) → six.size_defined z && six.nameable blocks c.block.0 ≡ x
          → d ≡ Ok ((codec6 z blocks).used c)
      go all o b false q = let y : refused_output malformed_command ≡ output n all = rw q at o in absurd (nope (cc))
      go all o b true q =
          let carried = take z c.bytes in
          let small : z ≤ 32 = (defined-bounds z (and_l (six.size_defined z) (six.nameable blocks c.block.0) q)).1 in
          let (was, size) = codec-6.decode_encode z blocks c.block.0 c.bytes (length buffer) n all (omega arith) o in
          let read : six.decode z blocks (take n out) ≡ six.decoded c.block.0 carried
          = ap (six.decode z blocks) (front n all buffer out b size) ∙ was in
          decoded-6 (take n out) d decodes c.block.0 carried read
