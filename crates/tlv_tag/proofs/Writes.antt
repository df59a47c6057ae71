-- Tags with a TLV area as types of tag: whatever their commands look like, the plan is sound, and the protected bytes determine it.
-- Assumes nothing.
use mathlib.Core.Path.{◌≡◌, refl, sym, ap, ◌∙◌}
use mathlib.Core.Bool.{Bool, true≢false}
use mathlib.Core.List.{List, [], ◌∷◌}
use Prim.Native.Nat.{ℕ, ◌*◌, ◌/◌, ◌<◌, ◌≤◌}
use native.Mathlib.Nat.{div-lt_iff_lt-mul}
use native.Mathlib.Omega.{arith}
use borrow.Author.Tests.{eqb-true}
use lib.ListN.{length, length-set}
use lib.Seq.{get_or-set_same, get_or-set_other}
use Rattle.tag.specs.Bytes.{byte, overlay}
use Rattle.tag.specs.Reading.{Report, reads, nothing}
use Rattle.tag.specs.Stores.{Store, Command}
use Rattle.tag.specs.TagType.{TagType}
use Rattle.tag.specs.Cuts.{Ready}
use Rattle.tag.proofs.Logic.{true-false}
use Rattle.tag.proofs.Addresses.{above-unset}
use Rattle.tag.proofs.Guarded.{Cell, shut, old, fresh, Between}
use Rattle.tag.proofs.Blocks.{in_block, block-of}
use Rattle.tag.proofs.Writes.{shut_image, shut-either, Sound}
use Rattle.tag.proofs.Laws.{Near}
use Rattle.tlv_tag.specs.Message.{TlvTag, locate, capacity_in, report_of, reading}
use Rattle.tlv_tag.specs.Update.{usable, tlv_bytes, length_at, plan}
use Rattle.tlv_tag.specs.Tag.{tag_of}
use Rattle.tlv_tag.proofs.Field.{first-set}
use Rattle.tlv_tag.proofs.Tag as tlv
use Rattle.tlv_tag.proofs.Tag.{TlvLaws, TlvPlaced, located-placed, reads-located, by-report, usable-is}

pub report-writable : (w : Bool) (c : ℕ) (i ms : List ℕ) → (report_of w c i ms).writable ≡ w
report-writable w c i [] = refl
report-writable w c i (a ∷ ms) = refl

pub report-capacity : (w : Bool) (c : ℕ) (i ms : List ℕ) → (report_of w c i ms).capacity ≡ c
report-capacity w c i [] = refl
report-capacity w c i (a ∷ ms) = refl

module _ (K : TlvTag) where
  -- the usable addresses after the type byte
  abbrev pub room : List ℕ → List ℕ
  room i = usable (locate K i)

  pub placed : (i : List ℕ) (p : Report) → reading K i ≡ reads p
      → TlvPlaced K i (room i) × (p.writable ≡ K.writable i) × (p.capacity ≡ capacity_in (length (room i)))
  placed i p e =
      let (us, ms, q, f) = by-report K i p e in
      let c = capacity_in (length us) in (
        rw q (located-placed K i us ms q),
        ap (λ r. r.writable) (sym f) ∙ report-writable (K.writable i) c i ms,
        rw q (ap (λ r. r.capacity) (sym f) ∙ report-capacity (K.writable i) c i ms),
      )

module _ (K : TlvTag) (laws : TlvLaws K) (command : List ℕ → List ℕ → Command) (span : List ℕ → List ℕ → ℕ) (encoded : List Store → List ℕ) where
  abbrev T : TagType
  T = tag_of K command span encoded

  pub prepared : (i m : List ℕ) → Ready T i m → tlv.TlvReady K i m (room K i)
  prepared i m r =
      let (at, writable, capacity) = placed K i r.report r.reads_as in
      record { placed = at; some_bytes = r.some_bytes; room = omega (arith, capacity, r.room) }

  module _ (i m : List ℕ) (r : Ready T i m) where
    abbrev us : List ℕ
    us = room K i

    abbrev at : TlvPlaced K i (room K i)
    at = (prepared i m r).placed

    pub some : 0 < length (room K i)
    some = tlv.some-room K laws i m (room K i) (prepared i m r)

    front : (at.at < length_at (room K i)) × (length_at (room K i) < length i)
    front = tlv.front K laws i (room K i) at some

    -- the tag with the guard block shut: the first length byte is 00h, and every other byte is as it was
    shut_else : (x : ℕ) → (x ≡ length_at us → ⊥) → byte (shut_image (plan K i m) i) x ≡ byte i x
    shut_else x n = shut-either (plan K i m) i (λ j. byte j x ≡ byte i x) (λ q. refl) (get_or-set_other i (length_at us) x 0 0 n)

    shut-first : byte (shut_image (plan K i m) i) (length_at us) ≡ 0
    shut-first = shut-either (plan K i m) i (λ j. byte j (length_at us) ≡ 0) (eqb-true (byte i (length_at us)) 0) (get_or-set_same i (length_at us) 0 0 front.1)

    -- up to the type byte every tag in between is as it was
    agrees : (j : List ℕ) → Between (in_block K.block_size (plan K i m).guard) i (shut_image (plan K i m) i) (overlay us (tlv_bytes m) i) j
        → (x : ℕ) → x ≤ at.at → byte j x ≡ byte i x
    agrees j b x l = go (b.1 x (omega (arith, front)))
      where
        go : Cell (in_block K.block_size (plan K i m).guard) i (shut_image (plan K i m) i) (overlay us (tlv_bytes m) i) j x → byte j x ≡ byte i x
        go (shut q e) = e ∙ shut_else x (omega (arith, front.0))
        go (old q e) = e
        go (fresh q e) = e ∙ tlv.new-agrees K laws i m us (prepared i m r) x l

    quiet : (j : List ℕ) → Between (in_block K.block_size (plan K i m).guard) i (shut_image (plan K i m) i) (overlay us (tlv_bytes m) i) j
        → Rattle.tag.specs.TagType.held T j ≡ nothing
    quiet j b = tlv.first-quiet K laws i us at j b.0 (agrees j b) some (go (b.1 (length_at us) front.1))
      where
        go : Cell (in_block K.block_size (plan K i m).guard) i (shut_image (plan K i m) i) (overlay us (tlv_bytes m) i) j (length_at us) → byte j (length_at us) ≡ 0
        go (shut q e) = e ∙ shut-first
        go (old q e) = absurd (true-false (block-of K.block_size (length_at us) laws.block-pos) q)
        go (fresh q e) = absurd (true-false (block-of K.block_size (length_at us) laws.block-pos) q)

    pub whole : length i ≡ K.block_size * (length i / K.block_size)
    whole = (tlv.bounds K laws i us at).0

    guard-inside : (plan K i m).guard < length i / K.block_size
    guard-inside = (div-lt_iff_lt-mul laws.block-pos).1 (omega (arith, front.1, whole))

    pub sound : Sound T i m (plan K i m)
    sound = record {
      blockwise = record {
        some_size = laws.block-pos;
        some_width = omega arith;
        whole = whole;
        inside = guard-inside;
        closed-length = length-set i (length_at us) 0;
      };
      closed-kept = λ a l q. get_or-set_other i (length_at us) a 0 0 (λ e. true≢false (sym q ∙ rw (e, first-set us m some)));
      quiet = quiet;
      new-reads = tlv.reads-new K laws i m us (prepared i m r);
    }

    -- ---- a tag whose protected bytes are unchanged, and that reads

    module _ (j : List ℕ) (n : Near T i m j) where
      near : (x : ℕ) → x ≤ at.at → byte j x ≡ byte i x
      near x l = n.kept x (omega (arith, front)) (above-unset (length i) us (tlv_bytes m) at.at x (tlv.beyond K laws i us at).1 l)

      pub same-room : room K j ≡ room K i
      same-room = usable-is K j us (tlv.same-placed K laws i us at j n.same_length near) n.readable

      pub still-ready : Ready T j m
      unfolding reading
      still-ready =
          let (vs, ms, q, p) = reads-located K j n.readable in
          record {
            report = report_of (K.writable j) (capacity_in (length vs)) j ms;
            reads_as = rw q;
            writable =
                report-writable (K.writable j) (capacity_in (length vs)) j ms ∙ tlv.same-writable K laws i us at j n.same_length near
                ∙ sym (placed K i r.report r.reads_as).1 ∙ r.writable;
            some_bytes = r.some_bytes;
            large_blocks = refl;
            room =
                let same : capacity_in (length vs) ≡ capacity_in (length us) = ap (λ ws. capacity_in (length ws)) (sym (ap usable q) ∙ same-room) in
                omega (arith, report-capacity (K.writable j) (capacity_in (length vs)) j ms, same, (prepared i m r).room);
          }
