-- Type 3 obeys the laws of a type of tag, so demand 3 holds for it. What a plan sets and how a command is read use only those
-- bytes of block 0 that writing keeps. The blocks written are at most Nmaxb; therefore our commands are well formed.
-- Assumes nothing.
use mathlib.Core.Path.{◌≡◌, refl, sym, ap, ◌∙◌}
use mathlib.Core.Bool.{true}
use mathlib.Core.List.{List}
use Prim.Native.Nat.{ℕ, ◌+◌, ◌*◌, ◌/◌, ◌<◌, ◌≤◌}
use native.Mathlib.Omega.{arith}
use borrow.Author.Tests.{leb-true, le-leb}
use lib.Dec.{leb, eqb}
use lib.ListN.{length, length-map}
use Rattle.tag.specs.Bytes.{byte}
use Rattle.tag.specs.Reading.{Reading, unreadable, reads}
use Rattle.tag.specs.Stores.{Store}
use Rattle.tag.specs.Plan.{list}
use Rattle.tag.specs.Cuts.{Ready}
use Rattle.tag.proofs.Logic.{and_r, and_both}
use Rattle.tag.proofs.Each.{Each, each_map, each_of}
use Rattle.tag.proofs.Blocks.{in-block}
use Rattle.tag.proofs.There.{touches}
use Rattle.tag.proofs.Writes.{Sound}
use Rattle.tag.proofs.Sending.{block_number, Named, Sized, touch-bounds, Nameable, list-good}
use Rattle.tag.proofs.Laws.{Sent, Near, Laws, ready-reads}
use Rattle.type3.specs.AttributeInformation.{nmaxb_of, may_write}
use Rattle.type3.specs.Message.{reading}
use Rattle.type3.specs.Update.{blocks_for, blocks_per_command, addresses, ln_sum, values_by, body, values, plan}
use Rattle.type3.specs.Codec.{decode, command_of}
use Rattle.type3.specs.Type3.{type3}
use Rattle.type3.proofs.Codec.{rising-listable, blocks_of, Sendable, sent, span-sent, some-sent}
use Rattle.type3.proofs.Message.{bounds, Agrees, same_sum, same-nmaxb, numbered, reads-writable, reads-capacity, reads-passes}
use Rattle.type3.proofs.Shown.{wordless, in_place}
use Rattle.type3.proofs.Update.{quiet, closed-length, closed-kept, above-addresses, kept-agrees, HasRoom, few-blocks, inside, reads-new}

-- ---- a tag that is ready

module _ (idm i m : List ℕ) (r : Ready (type3 idm) i m) where
  pub ready-room : HasRoom i m
  ready-room = record {
    passes = reads-passes i (ready-reads (type3 idm) i m r);
    some_bytes = r.some_bytes;
    room = omega (arith, reads-capacity i r.report r.reads_as, r.room);
  }

  ready-writable : may_write i ≡ true
  ready-writable = sym (reads-writable i r.report r.reads_as) ∙ r.writable

  pub some_width : 0 < blocks_per_command (byte i 2)
  some_width = omega (arith, leb-true 1 (byte i 2) (and_r (eqb (byte i 10) 0x01) (leb 1 (byte i 2)) ready-writable))

  plan-sound : Sound (type3 idm) i m (plan i m)
  plan-sound = record {
    blockwise = record {
      some_size = omega arith;
      some_width = some_width;
      whole = (bounds i ready-room.passes).whole;
      inside = omega (arith, inside i m ready-room);
      closed-length = closed-length i;
    };
    closed-kept = λ a l q. closed-kept i m a q;
    quiet = λ j h. quiet i m j _ ready-room.passes h;
    new-reads = reads-new i m ready-room;
  }

-- ---- its commands are well formed

-- a touched block is at most k
pub touched-most : (i m : List ℕ) (b : ℕ) → touches 16 (addresses m) (values i m) b ≡ true → b ≤ blocks_for (length m)
touched-most i m b e =
    let hi = 16 * (1 + blocks_for (length m)) in
    let (y, past, below, q) = touch-bounds 16 hi 8 (addresses m) (values i m) b (above-addresses m hi (omega arith)) e in
    omega (arith, ((in-block 16 b y).0 q).0)

-- a command of whole blocks at most Nmaxb, one to w of them, rising
sendable : (nbw nmaxb hi : ℕ) (ss : List Store) → nmaxb ≤ 255 → Each (Named 16 (λ b. b ≤ nmaxb)) ss → Sized 16 (blocks_per_command nbw) hi ss → Sendable nbw nmaxb ss
sendable nbw nmaxb hi ss l w s = (
  each_of _ _ ss (λ x h. h.whole) w,
  and_both
      (and_both (le-leb 1 (length (blocks_of ss)) (omega (arith, count, s.0))) (le-leb (length (blocks_of ss)) (blocks_per_command nbw) (omega (arith, count, s.1))))
      (rising-listable hi nmaxb (blocks_of ss) s.2 (each_map (λ b. b ≤ nmaxb) (block_number 16) ss (each_of _ _ ss (λ x h. omega (arith, h.whole.at_block, h.good)) w)) l),
)
  where
    count : length (blocks_of ss) ≡ length ss
    count = length-map ss (block_number 16)

module _ (idm i m : List ℕ) (eight : length idm ≡ 8) (r : Ready (type3 idm) i m) where
  plan-listable : Nameable (plan i m) i (λ b. b ≤ nmaxb_of i)
  plan-listable = record {
    guard_good = omega arith;
    touched-good = λ b l n e. omega (arith, touched-most i m b e, few-blocks i m (ready-room idm i m r));
  }

  list-sent : Each (Sent (type3 idm) i) (list (plan i m) i)
  list-sent = each_of _ _ (list (plan i m) i) command-sent
      (list-good (plan i m) i (plan-sound idm i m r).blockwise (λ b. b ≤ nmaxb_of i) plan-listable)
    where
      command-sent : (ss : List Store) → Each (Named 16 (λ b. b ≤ nmaxb_of i)) ss × Sized 16 (blocks_per_command (byte i 2)) (length i / 16) ss → Sent (type3 idm) i ss
      command-sent ss h =
          let b = bounds i (ready-room idm i m r).passes in
          let s : Sendable (byte i 2) (nmaxb_of i) ss = sendable (byte i 2) (nmaxb_of i) (length i / 16) ss (omega (arith, b.short, b.reach)) h.0 h.1 in
          record {
            taken = sent idm (byte i 2) (nmaxb_of i) ss eight s;
            some_bytes = some-sent idm ss;
            whole = span-sent idm (byte i 2) (nmaxb_of i) ss eight s;
          }

-- ---- a tag that a list may leave

module _ (idm i m j : List ℕ) (r : Ready (type3 idm) i m) (n : Near (type3 idm) i m j) where
  near-agrees : Agrees j i
  near-agrees = kept-agrees i m j (omega (arith, inside i m (ready-room idm i m r))) n.kept

  near-ready : Ready (type3 idm) j m
  near-ready = go (reading j) refl
    where
      go : (v : Reading) → reading j ≡ v → Ready (type3 idm) j m
      go (unreadable f) q = absurd (n.readable (rw q))
      go (reads p) q =
          let same-2 : byte j 2 ≡ byte i 2 = near-agrees 2 refl in
          let same-10 : byte j 10 ≡ byte i 10 = near-agrees 10 refl in
          record {
            report = p;
            reads_as = q;
            writable = reads-writable j p q ∙ rw (same-2, same-10) (ready-writable idm i m r);
            some_bytes = r.some_bytes;
            large_blocks = refl;
            room = omega (arith, reads-capacity j p q, same-nmaxb j i near-agrees, (ready-room idm i m r).room);
          }

  near-values : values j m ≡ values i m
  near-values = ap (λ s. values_by (length m) (s + ln_sum (length m)) (body m)) (same_sum j i near-agrees)

  near-command : (bytes : List ℕ) → command_of (decode idm (byte j 2) (nmaxb_of j) bytes) ≡ command_of (decode idm (byte i 2) (nmaxb_of i) bytes)
  near-command bytes = let same-2 : byte j 2 ≡ byte i 2 = near-agrees 2 refl in rw (same-2, same-nmaxb j i near-agrees)

pub type3-laws : (idm : List ℕ) → length idm ≡ 8 → Laws (type3 idm)
type3-laws idm eight = record {
  sound = plan-sound idm;
  still-ready = λ i m j r n. near-ready idm i m j r n;
  same-addresses = λ i m j r n. refl;
  same-values = λ i m j r n. near-values idm i m j r n;
  same-command = λ i m j r n. near-command idm i m j r n;
  numbered = numbered;
  wordless = wordless;
  in_place = in_place;
  sent = λ i m r. list-sent idm i m eight r;
}
