-- Type 2 has the laws of a type of tag.
-- Assumes nothing.
use mathlib.Core.Path.{◌≡◌, refl, sym, ap}
use mathlib.Core.Bool.{true}
use mathlib.Core.List.{List, [], ◌∷◌}
use Prim.Native.Nat.{ℕ, ◌*◌, ◌/◌, ◌<◌, ◌≤◌}
use native.Mathlib.Omega.{arith}
use borrow.Author.Tests.{le-leb, lt-ltb}
use lib.ListN.{length}
use Rattle.tag.specs.Stores.{Store}
use Rattle.tag.specs.Plan.{list}
use Rattle.tag.specs.Cuts.{Ready}
use Rattle.tag.proofs.Logic.{and_both}
use Rattle.tag.proofs.Addresses.{Above}
use Rattle.tag.proofs.Each.{Each, each_of}
use Rattle.tag.proofs.Blocks.{in_block, in-block, block-of}
use Rattle.tag.proofs.Sending.{Named, Sized, Nameable, list-good, touch-bounds}
use Rattle.tag.proofs.Laws.{Laws, Sent}
use Rattle.tlv_tag.specs.Message.{locate}
use Rattle.tlv_tag.specs.Update.{usable, tlv_bytes, length_at, plan}
use Rattle.tlv_tag.proofs.Tag as tlv
use Rattle.tlv_tag.proofs.Writes as writes
use Rattle.tlv_tag.proofs.Shown.{wordless, in_place}
use Rattle.tlv_tag.proofs.Refusals.{numbered}
use Rattle.type2.specs.Memory.{memory}
use Rattle.type2.specs.Codec.{nameable, decode, command_of, encoded}
use Rattle.type2.specs.Type2.{command, span, type2}
use Rattle.type2.proofs.Memory.{memory-laws, before-is, short-image}
use Rattle.type2.proofs.Codec.{Sendable, sent, length-sent}

module _ (i m : List ℕ) (r : Ready type2 i m) where
  -- the usable addresses after the type byte, and what is known of the message TLV
  abbrev us : List ℕ
  us = usable (locate memory i)

  place : tlv.TlvPlaced memory i (usable (locate memory i))
  place = (writes.prepared memory memory-laws command span encoded i m r).placed

  whole : length i ≡ 4 * (length i / 4)
  whole = writes.whole memory memory-laws command span encoded i m r

  -- a block of the image that holds an address after 16 may be named
  name-block : (b y : ℕ) → 16 < y → y < length i → in_block 4 b y ≡ true → nameable (length i / 4) b ≡ true
  name-block b y l u e =
      let (lo, up) = (in-block 4 b y).0 e in
      let short : length i ≤ 1024 = short-image i place.sound in
      and_both (and_both (le-leb 4 b (omega arith)) (lt-ltb b (length i / 4) (omega (arith, whole)))) (le-leb b 255 (omega arith))

  beyond : (16 ≤ place.at) × Above (length i) place.at us
  beyond = let b = tlv.beyond memory memory-laws i us place in (omega (arith, before-is, b.0), b.1)

  names : Nameable (plan memory i m) i (λ b. nameable (length i / 4) b ≡ true)
  names =
      let (lo, up) = tlv.front memory memory-laws i us place (writes.some memory memory-laws command span encoded i m r) in
      record {
        guard_good = name-block (length_at us / 4) (length_at us) (omega (arith, beyond.0)) up (block-of 4 (length_at us) (omega arith));
        touched-good = λ b l g e.
            let (y, after, before, q) = touch-bounds 4 (length i) place.at us (tlv_bytes m) b beyond.1 e in
            name-block b y (omega (arith, beyond.0)) before q;
      }

  -- a command of the list stores one block
  one_block : (ss : List Store) → Each (Named 4 (λ b. nameable (length i / 4) b ≡ true)) ss × Sized 4 1 (length i / 4) ss → Sendable (length i / 4) ss
  one_block [] h = absurd (omega (arith, h.1.0))
  one_block (s ∷ []) h = h.0.0
  one_block (s ∷ t ∷ ss) h = absurd (omega (arith, h.1.1))

  all-sent : Each (Sent type2 i) (list (plan memory i m) i)
  all-sent =
      each_of _ (Sent type2 i) (list (plan memory i m) i)
      (λ ss h.
      let g : Sendable (length i / 4) ss = one_block ss h in
      record { taken = sent (length i / 4) ss g; some_bytes = omega (arith, length-sent (length i / 4) ss g); whole = λ r. sym (length-sent (length i / 4) ss g) })
      (list-good (plan memory i m) i (writes.sound memory memory-laws command span encoded i m r).blockwise (λ b. nameable (length i / 4) b ≡ true) names)

pub type2-laws : Laws type2
type2-laws = record {
  sound = writes.sound memory memory-laws command span encoded;
  still-ready = λ i m j r n. writes.still-ready memory memory-laws command span encoded i m r j n;
  same-addresses = λ i m j r n. writes.same-room memory memory-laws command span encoded i m r j n;
  same-values = λ i m j r n. refl;
  same-command = λ i m j r n bs. ap (λ k. command_of (decode (k / 4) bs)) n.same_length;
  numbered = numbered memory memory-laws;
  wordless = wordless memory memory-laws;
  in_place = in_place memory memory-laws;
  sent = all-sent;
}
