-- What writing to a Type 3 tag answers: a refusal, or the list that the code lays.
-- Assumes nothing.
use mathlib.Core.Path.{◌≡◌, sym, ap, subst, ◌∙◌}
use mathlib.Core.Bool.{Bool, cond}
use mathlib.Core.List.{List, ◌++◌}
use Prim.Native.Nat.{ℕ, ◌+◌, ◌-◌, ◌*◌, ◌/◌, ◌%◌, ◌<◌, ◌≤◌, min}
use native.Mathlib.Omega.{arith}
use borrow.Author.Tests.{le-leb, lt-leb}
use lib.Dec.{eqb}
use lib.ListN.{length, drop}
use Rattle.tag.specs.Bytes.{byte}
use Rattle.tag.specs.Refusals.{short_buffer}
use Rattle.tag.specs.Checks.{fine, first_of}
use Rattle.tag.specs.TagType.{refused_write, written, writing, refused_output, output, output_into, write_by, write, fitted}
use Rattle.tag.proofs.Laws.{written-ready}
use Rattle.type3.specs.declared.read.AttributeInformation.{AttributeInformation}
use Rattle.type3.specs.AttributeInformation.{attribute_information}
use Rattle.type3.specs.Update.{blocks_for, blocks_per_command, plan}
use Rattle.type3.specs.Type3.{type3}
use Rattle.type3.specs.Views.AttributeInformation.{Readable}
use Rattle.type3.specs.Views.Space.{space_checks}
use Rattle.type3.proofs.Deciding.{writing-planned}
use Rattle.type3.proofs.Message.{bounds}
use Rattle.type3.proofs.Update.{few-blocks, inside}
use Rattle.type3.proofs.Laws.{ready-room, some_width}
use Rattle.type3_list.specs.Views.Blocks.{changed_blocks, is_changed, Chosen}
use Rattle.type3_list.specs.Views.Listing.{list_as, list_length, Dealt}
use Rattle.type3_list.proofs.Comparing.{picked-most}
use Rattle.type3_list.proofs.Dealing.{dealt, rounded}
use Rattle.type3_list.proofs.MessageBlocks.{changed-chosen}
use Rattle.type3_list.proofs.ListBytes.{list_count, list-bytes, length-list-as}

pub write-refused : (idm i m : List ℕ) (room r : ℕ) → writing (type3 idm) i m ≡ refused_write r → write (type3 idm) room i m ≡ refused_output r
write-refused idm i m room r e = ap (write_by (type3 idm) room i) e

-- a message that may be written takes at most 255 blocks, which lie inside the tag, and a command may store at least one of them
planned-bounds : (idm i m : List ℕ) → writing (type3 idm) i m ≡ written (plan i m)
    → (blocks_for (length m) ≤ 255) × (16 * (1 + blocks_for (length m)) ≤ length i) × (0 < blocks_per_command (byte i 2))
planned-bounds idm i m e =
    let ready = (written-ready (type3 idm) i m (plan i m) e).0 in
    let r = ready-room idm i m ready in
    let b = bounds i r.passes in
    (omega (arith, few-blocks i m r, b.reach, b.short), omega (arith, inside i m r), some_width idm i m ready)

-- writing has a plan, whose list takes t commands for the message's blocks that change, bs, w to a command
pub record Planned (idm i m : List ℕ) (ln : ℕ) (is_shut : Bool) (w t : ℕ) (bs : List ℕ) : Type 0 where
  pub eight : length idm ≡ 8
  pub planned : writing (type3 idm) i m ≡ written (plan i m)
  pub ln_is : ln ≡ (attribute_information i).ln
  pub shut-is : is_shut ≡ eqb (byte i 9) 0x0F
  pub width_is : w ≡ blocks_per_command (byte i 2)
  pub changed-is : bs ≡ changed_blocks i m
  pub turns-is : t ≡ (length bs + (w - 1)) / w
  pub few : blocks_for (length m) ≤ 255
  pub dealt : Dealt (length bs) w t
  pub byte-12 : byte i 12 < 256
  pub byte-13 : byte i 13 < 256

-- what the code plans for a tag that reads and a message that it has room for
pub planned : (idm i m bs : List ℕ) (a : AttributeInformation) (w t : ℕ) → length idm ≡ 8 → Readable i a → first_of (space_checks a (length m)) ≡ fine
    → bs ≡ changed_blocks i m → w ≡ min a.nbw 8 → t ≡ length bs / w + min 1 (length bs % w) → byte i 12 < 256 → byte i 13 < 256
    → Planned idm i m a.ln a.busy w t bs
planned idm i m bs a w t eight reads room which wide turns b12 b13 =
    let says = reads.known.says in
    let is : writing (type3 idm) i m ≡ written (plan i m) = writing-planned idm i m a reads room in
    let b = planned-bounds idm i m is in
    let width : w ≡ blocks_per_command (byte i 2) = wide ∙ ap (λ x. min x 8) says.nbw_is in
    let some : 0 < w = omega (arith, width, b.2) in
    let narrow : w ≤ 8 = omega (arith, wide) in
    let most : length bs ≤ 255 = omega (arith, b.0, picked-most (is_changed i m) (blocks_for (length m)) bs which) in
    let up : t ≡ (length bs + (w - 1)) / w = turns ∙ rounded (length bs) w most some narrow in
    record {
      eight = eight;
      planned = is;
      ln_is = says.ln_is;
      shut-is = says.busy_is;
      width_is = width;
      changed-is = which;
      turns-is = up;
      few = b.0;
      dealt = subst (Dealt (length bs) w) (sym up) (dealt (length bs) w most some narrow);
      byte-12 = b12;
      byte-13 = b13;
    }

module _ (idm i m : List ℕ) (ln : ℕ) (is_shut : Bool) (w t : ℕ) (bs : List ℕ) (g : Planned idm i m ln is_shut w t bs) where
  abbrev bytes : List ℕ
  bytes = list_as idm i m ln is_shut w t bs

  written_is : (room : ℕ) → write (type3 idm) room i m ≡ fitted room (cond is_shut 0 1 + t + 1) bytes
  written_is room =
      let r = ready-room idm i m (written-ready (type3 idm) i m (plan i m) g.planned).0 in
      let turns = g.turns-is ∙ ap (λ x. (length x + (w - 1)) / w) g.changed-is in
      let count = list_count idm i m r w t g.width_is turns in
      let laid = list-bytes idm i m r w t g.width_is turns g.few g.byte-12 g.byte-13 in
      rw (g.ln_is, g.shut-is, g.changed-is) (ap (write_by (type3 idm) room i) g.planned ∙ cc (count, laid))

  long : length bytes ≡ list_length is_shut t (length bs)
  long = length-list-as idm i m ln is_shut w t bs g.eight g.dealt.enough

  pub chosen : Chosen m bs
  chosen = subst (Chosen m) (sym g.changed-is) (changed-chosen i m g.few)

  pub write-short : (room : ℕ) → room < list_length is_shut t (length bs) → write (type3 idm) room i m ≡ refused_output short_buffer
  write-short room l = written_is room ∙ rw (lt-leb (length bytes) room (omega (arith, long)))

  pub write-list : (room : ℕ) → list_length is_shut t (length bs) ≤ room → write (type3 idm) room i m ≡ output (cond is_shut 0 1 + t + 1) bytes
  write-list room l = written_is room ∙ rw (le-leb (length bytes) room (omega (arith, long)))

  -- the buffer with the list laid over it, as the code lays it
  pub write-laid : (list list' : List ℕ) → list_length is_shut t (length bs) ≤ length list
      → list' ≡ bytes ++ drop (list_length is_shut t (length bs)) list → list' ≡ output_into list (write (type3 idm) (length list) i m)
  write-laid list list' l q = q ∙ ap (λ n. bytes ++ drop n list) (sym long) ∙ sym (ap (output_into list) (write-list (length list) l))
