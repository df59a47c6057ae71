-- The capacity that a reading carries: for every type it alone decides refusal 11, once the tests before have passed; and for each type it
-- is the greatest length that fits, in the words of the requirements.
-- Assumes nothing.
use mathlib.Core.Path.{◌≡◌, sym, ap, ◌∙◌}
use mathlib.Core.Bool.{true}
use mathlib.Core.Logic.{◌↔◌}
use mathlib.Core.List.{List}
use Prim.Native.Nat.{ℕ, ◌*◌, ◌<◌, ◌≤◌}
use native.Mathlib.Nat.{mul_comm}
use native.Mathlib.Omega.{arith}
use native.Mathlib.Decide.{dec_lt}
use borrow.Author.Tests.{ne_eqb, lt-leb}
use lib.ListN.{length}
use Rattle.tag.specs.Bytes.{byte}
use Rattle.tag.specs.Refusals.{message_too_long}
use Rattle.tag.specs.Reading.{Report, reads}
use Rattle.tag.specs.TagType.{TagType, writing, refused_write, written, planned, checks_of}
use Rattle.tag.specs.Checks.{fault, first_of}
use Rattle.tag.specs.Cuts.{Ready}
use Rattle.tag.proofs.Logic.{nope}
use Rattle.tag.proofs.Laws.{ready-written}
use Rattle.tlv.specs.Walk.{found}
use Rattle.tlv_tag.specs.Message.{locate}
use Rattle.tlv_tag.specs.Update.{usable}
use Rattle.tlv_tag.proofs.Field.{fits-capacity, capacity-fits}
use Rattle.tlv_tag.proofs.Tag.{some-usable}
use Rattle.tlv_tag.proofs.Writes.{placed}
use Rattle.type2.specs.Memory.{memory}
use Rattle.type2.specs.Type2.{type2}
use Rattle.type3.specs.Type3.{type3}
use Rattle.type3.proofs.Message as message3
use Rattle.type6.specs.Container.{tag_block_size}
use Rattle.type6.specs.Type6.{type6}
use Rattle.type6.proofs.Message as message6
use Rattle.demands.specs.Demand2.{Capacity, Fits2, Fits3, Fits6}

-- ---- for every type: only room decides

module _ (T : TagType) (i m : List ℕ) (p : Report) (reads_as : T.reading i ≡ reads p) (writable : p.writable ≡ true)
    (large_blocks : T.blocks_suffice i ≡ true) (some_bytes : length m ≡ 0 → ⊥) where
  pub roomy : length m ≤ p.capacity → Ready T i m
  roomy room = record { report = p; reads_as = reads_as; writable = writable; some_bytes = some_bytes; large_blocks = large_blocks; room = room }

  pub cramped : p.capacity < length m → writing T i m ≡ refused_write message_too_long
  unfolding writing
  cramped l =
      let e : first_of (checks_of T i m p) ≡ fault message_too_long
      = rw (ne_eqb (length m) 0 some_bytes) (rw writable (rw large_blocks (rw (lt-leb (length m) p.capacity l)))) in
      rw reads_as (ap (planned (T.plan i m)) e)

  -- 11 is given exactly if P holds, for any P that holds without room and fails with room
  pub exactly : (P : Type 0) → (p.capacity < length m → P) → (length m ≤ p.capacity → P → ⊥) → (writing T i m ≡ refused_write message_too_long) ↔ P
  exactly P without with-room = ((λ e. go e (dec_lt p.capacity (length m))), (λ x. back x (dec_lt p.capacity (length m))))
    where
      go : writing T i m ≡ refused_write message_too_long → Dec (p.capacity < length m) → P
      go e (yes l) = without l
      go e (no l) =
          let f : written (T.plan i m) ≡ refused_write message_too_long = sym (ready-written T i m (roomy (omega arith))) ∙ e in
          absurd (nope (cc))

      back : P → Dec (p.capacity < length m) → writing T i m ≡ refused_write message_too_long
      back x (yes l) = cramped l
      back x (no l) = absurd (with-room (omega arith) x)

  pub longer : (writing T i m ≡ refused_write message_too_long) ↔ (p.capacity < length m)
  longer = exactly (p.capacity < length m) (λ l. l) (λ room l. omega arith)

-- ---- for each type: what fits

pub capacity-2 : Capacity type2 Fits2
capacity-2 i p e n =
    let (at, w, c) = placed memory i p e in
    let us = usable (locate memory i) in (
      (λ f.
          let z : found at.at us ≡ found f.0 f.1 = sym at.tlv-at ∙ f.2 in
          let same : us ≡ f.1 = cc in
          omega (arith, c, ap length same, fits-capacity (length us) n (rw (← same) at f.3))),
      (λ l. (at.at, us, at.tlv-at, capacity-fits (length us) n (omega (arith, some-usable memory i p e)) (omega (arith, c)))),
    )

pub capacity-3 : (idm : List ℕ) → Capacity (type3 idm) Fits3
capacity-3 idm i p e n = ((λ l. omega (arith, message3.reads-capacity i p e)), (λ l. omega (arith, message3.reads-capacity i p e)))

pub capacity-6 : Capacity type6 Fits6
capacity-6 i p e n =
    let c = message6.reads-capacity i p e in
    let room = (message6.bounds i (message6.report-is i p e).0).room in
    let turned : byte i 7 * tag_block_size i ≡ tag_block_size i * byte i 7 = mul_comm (byte i 7) (tag_block_size i) in
    ((λ l. omega (arith, c, room, turned)), (λ l. omega (arith, c, room, turned)))
