-- Type 6 has the laws of a type of tag, so demand 3 holds of it, with blocks of two bytes or more. A plan and the form of a command
-- depend on bytes of the container, which writing keeps.
-- Assumes nothing.
use mathlib.Core.Path.{◌≡◌, refl, sym, ap, ◌∙◌}
use mathlib.Core.Bool.{true}
use mathlib.Core.Logic.{◌↔◌}
use mathlib.Core.List.{List, [], ◌∷◌}
use Prim.Native.Nat.{ℕ, suc, ◌+◌, ◌*◌, ◌/◌, ◌<◌, ◌≤◌}
use native.Mathlib.Omega.{arith}
use borrow.Author.Tests.{leb-true, le-leb, lt-ltb}
use lib.ListN.{length}
use Rattle.tag.specs.Bytes.{byte}
use Rattle.tag.specs.Reading.{Reading, unreadable, reads}
use Rattle.tag.specs.Stores.{Store}
use Rattle.tag.specs.Plan.{list}
use Rattle.tag.specs.Cuts.{Ready}
use Rattle.tag.proofs.Logic.{and_both}
use Rattle.tag.proofs.Each.{Each, each_of}
use Rattle.tag.proofs.Writes.{Sound}
use Rattle.tag.proofs.Sending.{Named, Sized, Nameable, list-good}
use Rattle.tag.proofs.Laws.{Sent, Near, Laws, ready-reads}
use Rattle.type6.specs.Container.{tag_block_size, block_count, file_at, capacity, may_write}
use Rattle.type6.specs.Message.{reading}
use Rattle.type6.specs.Update.{block_size_suffices, addresses, plan}
use Rattle.type6.specs.Codec.{nameable}
use Rattle.type6.specs.Type6.{command_by, type6}
use Rattle.type6.proofs.Codec.{Sendable, sent, length-sent}
use Rattle.type6.proofs.Message.{size-defined, Passes, Bounds, bounds, Agrees, same-file, numbered, reads-writable, reads-capacity, reads-passes}
use Rattle.type6.proofs.Shown.{wordless, in_place}
use Rattle.type6.proofs.Update.{closed-length, closed-kept, kept-agrees, quiet, HasRoom, reads-new}

-- there is no 14 exactly if the block size is 2 or more
pub suffice-exactly : (i : List ℕ) → (block_size_suffices i ≡ true) ↔ (2 ≤ tag_block_size i)
suffice-exactly i = (leb-true 2 (tag_block_size i), le-leb 2 (tag_block_size i))

-- with blocks of one byte a tag has at most 256 bytes, so where it reads, NLEN's high byte is 00h
pub high_zero : (i : List ℕ) → Passes i → tag_block_size i ≡ 1 → byte i (suc (file_at i)) ≡ 0
high_zero i c e =
    let b = bounds i c in
    let n : length i ≡ 1 * block_count i = b.whole ∙ ap (λ k. tag_block_size i * k) b.blocks_are ∙ ap (λ z. z * block_count i) e in
    omega (arith, n, b.inside, b.past, b.room, b.nlen_fits)

-- ---- a tag that is ready

module _ (i m : List ℕ) (r : Ready type6 i m) where
  pub ready-room : HasRoom i m
  ready-room = record {
    passes = reads-passes i (ready-reads type6 i m r);
    some_bytes = r.some_bytes;
    room = omega (arith, reads-capacity i r.report r.reads_as, r.room);
  }

  known : Bounds i
  known = bounds i ready-room.passes

  ready-writable : may_write i ≡ true
  ready-writable = sym (reads-writable i r.report r.reads_as) ∙ r.writable

  plan-sound : Sound type6 i m (plan i m)
  plan-sound = record {
    blockwise = record {
      some_size = known.some_size;
      some_width = omega arith;
      whole = known.whole;
      inside = rw known.blocks_are known.guard-inside;
      closed-length = closed-length (file_at i) i;
    };
    closed-kept = λ a l q. closed-kept i m a q;
    quiet = λ j h. quiet i m j ready-room.passes ((suffice-exactly i).0 r.large_blocks) h;
    new-reads = reads-new i m ready-room;
  }

  -- ---- its commands are well formed

  name-block : (b : ℕ) → b < block_count i → nameable (block_count i) b ≡ true
  name-block b l = and_both (lt-ltb b (block_count i) l) (le-leb b 255 (omega arith))

  names : Nameable (plan i m) i (λ b. nameable (block_count i) b ≡ true)
  names = record {
    guard_good = name-block _ known.guard-inside;
    touched-good = λ b l g e. name-block b (omega (arith, l, known.blocks_are));
  }

  -- a command of the list stores one block
  one_block : (hi : ℕ) (ss : List Store) → Each (Named (tag_block_size i) (λ b. nameable (block_count i) b ≡ true)) ss × Sized (tag_block_size i) 1 hi ss
      → Sendable (tag_block_size i) (block_count i) ss
  one_block hi [] h = absurd (omega (arith, h.1.0))
  one_block hi (s ∷ []) h = h.0.0
  one_block hi (s ∷ t ∷ ss) h = absurd (omega (arith, h.1.1))

  list-sent : Each (Sent type6 i) (list (plan i m) i)
  list-sent =
      each_of _ (Sent type6 i) (list (plan i m) i)
      (λ ss h.
      let g : Sendable (tag_block_size i) (block_count i) ss = one_block (length i / tag_block_size i) ss h in
      let l : length (type6.encoded ss) ≡ 3 + tag_block_size i = length-sent (tag_block_size i) (block_count i) ss g in
      record { taken = sent (tag_block_size i) (block_count i) ss (size-defined (byte i 5)) g; some_bytes = omega (arith, l); whole = λ x. sym l })
      (list-good (plan i m) i plan-sound.blockwise (λ b. nameable (block_count i) b ≡ true) names)

-- ---- a tag that a list may leave

module _ (i m j : List ℕ) (r : Ready type6 i m) (n : Near type6 i m j) where
  near-agrees : Agrees j i
  near-agrees = kept-agrees i m j (ready-room i m r).passes n.kept

  near-ready : Ready type6 j m
  near-ready = go (reading j) refl
    where
      e5 : byte j 5 ≡ byte i 5
      e5 = near-agrees 5 (omega arith)

      e6 : byte j 6 ≡ byte i 6
      e6 = near-agrees 6 (omega arith)

      e7 : byte j 7 ≡ byte i 7
      e7 = near-agrees 7 (omega arith)

      go : (v : Reading) → reading j ≡ v → Ready type6 j m
      go (unreadable f) q = absurd (n.readable (rw q))
      go (reads p) q = record {
        report = p;
        reads_as = q;
        writable = reads-writable j p q ∙ rw e6 (ready-writable i m r);
        some_bytes = r.some_bytes;
        large_blocks = rw e5 r.large_blocks;
        room =
            let same : capacity j ≡ capacity i = rw (e5, e7) in
            omega (arith, reads-capacity j p q, same, (ready-room i m r).room);
      }

  near-command : (bytes : List ℕ) → command_by (tag_block_size j) (block_count j) bytes ≡ command_by (tag_block_size i) (block_count i) bytes
  near-command bytes =
      let e4 : byte j 4 ≡ byte i 4 = near-agrees 4 (omega arith) in
      let e5 : byte j 5 ≡ byte i 5 = near-agrees 5 (omega arith) in
      rw (e4, e5)

pub type6-laws : Laws type6
type6-laws = record {
  sound = plan-sound;
  still-ready = near-ready;
  same-addresses = λ i m j r n. ap (λ f. addresses f m) (same-file j i (near-agrees i m j r n));
  same-values = λ i m j r n. refl;
  same-command = near-command;
  numbered = numbered;
  wordless = wordless;
  in_place = in_place;
  sent = list-sent;
}
