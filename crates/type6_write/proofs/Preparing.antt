-- What the list is laid from, for a tag that is ready, by the code's container: the list is the plan's.
-- Assumes nothing.
use mathlib.Core.Path.{◌≡◌, refl, sym, ap, ◌∙◌}
use mathlib.Core.List.{List, [], ◌∷◌}
use Prim.Native.Nat.{ℕ, suc, ◌+◌, ◌*◌, ◌/◌, ◌≤◌}
use native.Mathlib.Nat.{mul-div_cancel_left}
use native.Mathlib.Omega.{arith}
use lib.Dec.{eqb}
use lib.ListN.{length, drop, length-drop}
use lib.Seq.{length-take-le}
use Rattle.tag.specs.Bytes.{byte, overlay}
use Rattle.tag.specs.Checks.{fine, fault, first_of}
use Rattle.tag.specs.TagType.{refused_output, written, writing, write_by, write}
use Rattle.tag.specs.Cuts.{Ready}
use Rattle.tag.proofs.Images.{length-overlay}
use Rattle.tag.proofs.Laws.{written-ready}
use Rattle.type6.specs.declared.container.Container.{Container}
use Rattle.type6.specs.Container.{tag_block_size, file_block, file_at, nlen, checks}
use Rattle.type6.specs.Update.{addresses, values, closed_at, plan}
use Rattle.type6.specs.Codec.{command_bytes}
use Rattle.type6.specs.Type6.{type6}
use Rattle.type6.specs.Views.Container.{Readable}
use Rattle.type6.specs.Views.Space.{space_checks}
use Rattle.type6.proofs.Message.{size-bounds, Bounds, bounds}
use Rattle.type6.proofs.Laws.{suffice-exactly, ready-room, type6-laws}
use Rattle.type6.proofs.Deciding.{writing-unread, writing-refused, writing-planned}
use Rattle.one_block_write.specs.Views.Listing.{guarded_output, Listed}
use Rattle.one_block_write.proofs.Laying.{block_inside}
use Rattle.one_block_write.proofs.Plans.{plan-output}
use Rattle.type6_write.specs.Views.Listing.{front, shut_bytes}

-- ---- refusals

module _ (i m : List ℕ) (r room : ℕ) where
  pub unread-output : first_of (checks i) ≡ fault r → write type6 room i m ≡ refused_output r
  unread-output e = ap (write_by type6 room i) (writing-unread i m r e)

  pub refused-output : (c : Container) → Readable i c → first_of (space_checks c (length m)) ≡ fault r → write type6 room i m ≡ refused_output r
  refused-output c k e = ap (write_by type6 room i) (writing-refused i m c k r e)

-- ---- the list

module _ (i m : List ℕ) (c : Container) (known : Readable i c) (fits : first_of (space_checks c (length m)) ≡ fine) where
  planned : writing type6 i m ≡ written (plan i m)
  planned = writing-planned i m c known fits

  ready : Ready type6 i m
  ready = (written-ready type6 i m (plan i m) planned).0

  b : Bounds i
  b = bounds i (ready-room i m ready).passes

  abbrev z : ℕ
  z = tag_block_size i

  block-is : file_at i / z ≡ file_block i
  block-is = mul-div_cancel_left (file_block i) b.some_size

  -- the guard block lies in the image
  inside-there : file_at i + z ≤ length i
  inside-there = omega (arith, block_inside z (file_block i) (length i / z) (length i) (omega (arith, b.blocks_are, b.guard-inside)) (omega (arith, b.whole)))

  pub large : 2 ≤ c.size
  large = rw known.known.says.size_is ((suffice-exactly i).0 ready.large_blocks)

  pub inside : c.file.0 + c.size ≤ length i
  inside = rw (known.known.says.size_is, known.known.says.file_is) inside-there

  module _ (new : List ℕ) (e : new ≡ overlay (addresses c.file.0 m) (values m) i) where
    pub listed : Listed front c.size i new (c.file.0 / c.size) (shut_bytes c.size c.file.0 i)
    listed =
        let l : length new ≡ length i = ap length e ∙ length-overlay (addresses c.file.0 m) (values m) i in
        let blocks : length new / z ≡ length i / z = ap (λ n. n / z) l in
        rw (known.known.says.size_is, known.known.says.file_is) (record {
          some_size = b.some_size;
          short = omega (arith, size-bounds (byte i 5));
          as_long = l;
          whole = l ∙ b.whole ∙ ap (λ n. z * n) (sym blocks);
          few = omega (arith, blocks, b.blocks_are);
          inside = omega (arith, blocks, block-is, b.blocks_are, b.guard-inside);
          shut_whole =
              length-take-le z (drop (file_at i) (closed_at (file_at i) i))
              (omega (
                arith,
                inside-there,
                length-drop (file_at i) (closed_at (file_at i) i),
                length-overlay (file_at i ∷ suc (file_at i) ∷ []) (0x00 ∷ 0x00 ∷ []) i,
              ));
        })

    -- the list is the plan's
    pub output : (room : ℕ)
        → guarded_output room front c.size i new (c.file.0 / c.size) (shut_bytes c.size c.file.0 i) (eqb c.nlen 0) ≡ write type6 room i m
    output room =
        let new-is : new ≡ overlay (addresses (file_at i) m) (values m) i = rw known.known.says.file_is at e in
        rw (known.known.says.size_is, known.known.says.file_is, known.known.says.nlen_is)
        (ap (λ k. guarded_output room front z i new k (shut_bytes z (file_at i) i) (eqb (nlen i) 0)) block-is
        ∙ plan-output type6 front (plan i m) i new (shut_bytes z (file_at i) i) (λ s full. ap (λ n. command_bytes (s.at / n) s.bytes) full)
        (type6-laws.sound i m ready).blockwise refl new-is refl room
        ∙ ap (write_by type6 room i) (sym planned))
