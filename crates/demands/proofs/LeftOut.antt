-- What a list leaves out: the first command, and every other block, exactly if storing it would change nothing. For the first command
-- 02 names a condition for each type, and on every tag that reads it says just this. So every command but the last changes the tag.
-- Assumes nothing.
use mathlib.Core.Path.{◌≡◌, refl, sym, ap, ◌∙◌}
use mathlib.Core.Bool.{Bool, true, false, not}
use mathlib.Core.Logic.{◌↔◌}
use mathlib.Core.List.{List}
use Prim.Native.Nat.{ℕ, suc, ◌+◌, ◌*◌, ◌/◌, ◌%◌, ◌<◌, ◌≤◌}
use native.Mathlib.Nat.{mul-le-mul_left}
use native.Mathlib.Omega.{arith}
use native.Mathlib.Decide.{ℕ_discrete, dec_le}
use borrow.Author.Tests.{eqb-true, eq-eqb, ne_eqb}
use lib.Dec.{eqb}
use lib.ListN.{length, set, length-map, length-set}
use lib.Seq.{get_or-set_same, get_or-set_other}
use Rattle.tag.specs.Bytes.{byte, Octets}
use Rattle.tag.specs.Reading.{Report, reads}
use Rattle.tag.specs.Stores.{stores, put}
use Rattle.tag.specs.Plan.{Plan, new_image, block_of, is_there, between, first_store, list}
use Rattle.tag.specs.TagType.{TagType, commands}
use Rattle.tag.specs.Cuts.{Ready}
use Rattle.tag.proofs.Logic.{true-false}
use Rattle.tag.proofs.Images.{length-overlay}
use Rattle.tag.proofs.Blocks.{in_block, in-block, block-of}
use Rattle.tag.proofs.There.{there-new, new-there, unchanged}
use Rattle.tag.proofs.Changing.{list-changes}
use Rattle.tag.proofs.Laws.{Laws, reads_held}
use Rattle.tlv_tag.specs.Message.{locate}
use Rattle.tlv_tag.specs.Update as update2
use Rattle.tlv_tag.specs.Update.{usable, length_at}
use Rattle.tlv_tag.proofs.Tag as tlv
use Rattle.tlv_tag.proofs.Writes.{placed}
use Rattle.type2.specs.Memory.{memory}
use Rattle.type2.specs.Type2.{type2}
use Rattle.type2.proofs.Memory.{memory-laws}
use Rattle.type2.proofs.Laws.{type2-laws}
use Rattle.type3.specs.Type3.{type3}
use Rattle.type3.specs.Update as update3
use Rattle.type3.proofs.Message as message3
use Rattle.type3.proofs.Laws.{type3-laws}
use Rattle.type3.proofs.Update as written3
use Rattle.type6.specs.Container.{tag_block_size, file_block, file_at, nlen}
use Rattle.type6.specs.Type6.{type6}
use Rattle.type6.specs.Update as update6
use Rattle.type6.proofs.Message as message6
use Rattle.type6.proofs.Update as written6
use Rattle.type6.proofs.Laws.{high_zero, type6-laws}
use Rattle.demands.specs.Demand3.{cut_of, our_bytes}
use Rattle.demands.specs.Demand2.{LeftOut}
use Rattle.demands.proofs.Demand3.{our-commands}
use Rattle.tag.proofs.Octets.{octets-byte}

-- ---- every other block, for every type

module _ (T : TagType) (L : Laws T) (i m : List ℕ) (r : Ready T i m) where
  abbrev p : Plan
  p = T.plan i m

  -- a block that is not written is there already
  there : (b : ℕ) → (b ≡ p.guard → ⊥) → between p i b ≡ false → is_there p.block_size i (new_image p i) b ≡ true
  there b n q = go (is_there p.block_size i (new_image p i) b) refl
    where
      go : (c : Bool) → is_there p.block_size i (new_image p i) b ≡ c → is_there p.block_size i (new_image p i) b ≡ true
      go true e = e
      go false e = absurd (true-false (rw (ne_eqb b p.guard n, e)) q)

  other_block : (b : ℕ) → b < length i / p.block_size → (b ≡ p.guard → ⊥)
      → (between p i b ≡ false) ↔ (put i (block_of p.block_size (new_image p i) b) ≡ i)
  other_block b l n =
      let z = p.block_size in
      let new = new_image p i in
      let long : length new ≡ length i = length-overlay p.addresses p.values i in
      let room : z * suc b ≤ z * (length i / z) = mul-le-mul_left z l in
      let same = unchanged z b new i long (omega (arith, (L.sound i m r).blockwise.whole)) in (
        (λ q. same.1 (λ a h. sym (there-new z b i new (there b n q) a h))),
        (λ e. rw (ne_eqb b p.guard n) (ap not (new-there z b i new long (λ a h. sym (same.0 e a h))))),
      )

-- ---- the first command

-- a plan whose guard block lies in the tag
module _ (p : Plan) (i : List ℕ) (as_long : length p.closed ≡ length i) (room : p.block_size * p.guard + p.block_size ≤ length i)
    (shut : p.is_shut ≡ true → (a : ℕ) → byte p.closed a ≡ byte i a)
    (back : ((a : ℕ) → in_block p.block_size p.guard a ≡ true → byte p.closed a ≡ byte i a) → p.is_shut ≡ true) where
  by_bytes : (p.is_shut ≡ true) ↔ (put i (first_store p) ≡ i)
  by_bytes =
      let same = unchanged p.block_size p.guard p.closed i as_long room in
      ((λ q. same.1 (λ a l. shut q a)), (λ e. back (same.0 e)))

-- ---- Type 2: the first length byte is 00h

abbrev first : List ℕ → ℕ
first i = length_at (usable (locate memory i))

first-2 : (i m : List ℕ) (p : Report) → type2.reading i ≡ reads p → Octets i → ((type2.plan i m).is_shut ≡ true) ↔ (put i (first_store (type2.plan i m)) ≡ i)
first-2 i m p e o =
    by_bytes (update2.plan memory i m) i (length-set i (first i) 0) (omega (arith, whole, inside)) shut
    (λ h. eq-eqb (byte i (first i)) 0 (sym (h (first i) (block-of 4 (first i) (omega arith))) ∙ zero))
  where
    there : tlv.TlvPlaced memory i (usable (locate memory i))
    there = (placed memory i p e).0

    inside : first i < length i
    inside = (tlv.front memory memory-laws i (usable (locate memory i)) there (tlv.some-usable memory i p e)).1

    whole : length i ≡ 4 * (length i / 4)
    whole = (tlv.bounds memory memory-laws i (usable (locate memory i)) there).0

    zero : byte (set i (first i) 0) (first i) ≡ 0
    zero = get_or-set_same i (first i) 0 0 inside

    shut : eqb (byte i (first i)) 0 ≡ true → (a : ℕ) → byte (set i (first i) 0) a ≡ byte i a
    shut q a = go (ℕ_discrete a (first i))
      where
        go : Dec (a ≡ first i) → byte (set i (first i) 0) a ≡ byte i a
        go (yes u) = rw u (zero ∙ sym (eqb-true (byte i (first i)) 0 q))
        go (no n) = get_or-set_other i (first i) a 0 0 n

-- ---- Type 3: WriteFlag is 0Fh; the checksum is then right already, and it has one form because bytes are below 256

first-3 : (idm i m : List ℕ) (p : Report) → (type3 idm).reading i ≡ reads p → Octets i
    → (((type3 idm).plan i m).is_shut ≡ true) ↔ (put i (first_store ((type3 idm).plan i m)) ≡ i)
first-3 idm i m p e o =
    by_bytes (update3.plan i m) i (written3.closed-length i) long shut (λ h. eq-eqb (byte i 9) 0x0F (sym (h 9 refl) ∙ flag))
  where
    c : message3.Passes i
    c = message3.reads-passes i (reads_held (type3 idm) i p e)

    long : 16 ≤ length i
    long = omega (arith, (message3.bounds i c).reach)

    flag : byte (update3.closed i) 9 ≡ 0x0F
    flag = cc (written3.closed-reads i long)

    shut : eqb (byte i 9) 0x0F ≡ true → (a : ℕ) → byte (update3.closed i) a ≡ byte i a
    shut q a = go (ℕ_discrete a 9) (ℕ_discrete a 14) (ℕ_discrete a 15)
      where
        busy : byte i 9 ≡ 0x0F
        busy = eqb-true (byte i 9) 0x0F q

        high : update3.closed_sum i / 256 ≡ byte i 14
        high = omega (arith, busy, message3.sum-right i c, octets-byte i o 15)

        low : update3.closed_sum i % 256 ≡ byte i 15
        low = omega (arith, busy, message3.sum-right i c, octets-byte i o 15)

        go : Dec (a ≡ 9) → Dec (a ≡ 14) → Dec (a ≡ 15) → byte (update3.closed i) a ≡ byte i a
        go (yes u) d f = rw u (flag ∙ sym busy)
        go (no n) (yes u) f = let set : byte (update3.closed i) 14 ≡ update3.closed_sum i / 256 = cc (written3.closed-reads i long) in rw u (set ∙ high)
        go (no n) (no k) (yes u) = let set : byte (update3.closed i) 15 ≡ update3.closed_sum i % 256 = cc (written3.closed-reads i long) in rw u (set ∙ low)
        go (no n) (no k) (no l) =
            written3.closed-else i a (rw (ne_eqb 9 a (λ u. n (sym u)), ne_eqb 14 a (λ u. k (sym u)), ne_eqb 15 a (λ u. l (sym u))))

-- ---- Type 6: NLEN is zero; with blocks of one byte its high byte lies outside the guard block, and is 00h on every tag that reads

first-6 : (i m : List ℕ) (p : Report) → type6.reading i ≡ reads p → Octets i → ((type6.plan i m).is_shut ≡ true) ↔ (put i (first_store (type6.plan i m)) ≡ i)
first-6 i m p e o = by_bytes (update6.plan i m) i (written6.closed-length (file_at i) i) room shut back
  where
    c : message6.Passes i
    c = (message6.report-is i p e).0

    known : message6.Bounds i
    known = message6.bounds i c

    room : tag_block_size i * file_block i + tag_block_size i ≤ length i
    room =
        let l : tag_block_size i * suc (file_block i) ≤ tag_block_size i * (length i / tag_block_size i)
        = mul-le-mul_left (tag_block_size i) (omega (arith, known.blocks_are, known.guard-inside)) in
        omega (arith, known.whole)

    zeros : (byte (update6.closed_at (file_at i) i) (file_at i) ≡ 0) × (byte (update6.closed_at (file_at i) i) (suc (file_at i)) ≡ 0)
    zeros = written6.closed-reads (file_at i) i known.past (omega (arith, known.inside, known.room))

    shut : eqb (nlen i) 0 ≡ true → (a : ℕ) → byte (update6.closed_at (file_at i) i) a ≡ byte i a
    shut q a = go (ℕ_discrete a (file_at i)) (ℕ_discrete a (suc (file_at i)))
      where
        none : nlen i ≡ 0
        none = eqb-true (nlen i) 0 q

        go : Dec (a ≡ (file_at i)) → Dec (a ≡ suc (file_at i)) → byte (update6.closed_at (file_at i) i) a ≡ byte i a
        go (yes u) d = rw u (zeros.0 ∙ omega (arith, none))
        go (no n) (yes u) = rw u (zeros.1 ∙ omega (arith, none))
        go (no n) (no k) = written6.closed-else (file_at i) i a (rw (ne_eqb (file_at i) a (λ u. n (sym u)), ne_eqb (suc (file_at i)) a (λ u. k (sym u))))

    back : ((a : ℕ) → in_block (tag_block_size i) (file_block i) a ≡ true → byte (update6.closed_at (file_at i) i) a ≡ byte i a) → eqb (nlen i) 0 ≡ true
    back h = eq-eqb (nlen i) 0 (omega (arith, low, high (dec_le 2 (tag_block_size i))))
      where
        low : byte i (file_at i) ≡ 0
        low = sym (h (file_at i) ((in-block (tag_block_size i) (file_block i) (file_at i)).1 (omega arith, omega (arith, known.some_size)))) ∙ zeros.0

        high : Dec (2 ≤ tag_block_size i) → byte i (suc (file_at i)) ≡ 0
        high (yes l) = sym (h (suc (file_at i)) ((in-block (tag_block_size i) (file_block i) (suc (file_at i))).1 (omega arith, omega arith))) ∙ zeros.1
        high (no n) = high_zero i c (omega (arith, known.some_size, n))

-- ---- every command but the last changes the tag

module _ (T : TagType) (L : Laws T)
    (first-exactly : (i m : List ℕ) (p : Report) → T.reading i ≡ reads p → Octets i → ((T.plan i m).is_shut ≡ true) ↔ (put i (first_store (T.plan i m)) ≡ i)) where
  none_idle : (i m : List ℕ) → Ready T i m → Octets i → (k : ℕ) → suc k < length (commands T i (our_bytes T i m))
      → cut_of T i (our_bytes T i m) (suc k) ≡ cut_of T i (our_bytes T i m) k → ⊥
  none_idle i m r o k l e =
      let p = T.plan i m in
      let ours = our-commands T L i m r in
      list-changes p i (L.sound i m r).blockwise (λ q u. true-false ((first-exactly i m r.report r.reads_as o).1 u) q) k
      (omega (arith, ap length ours, length-map (list p i) stores)) (rw ours at e)

-- ---- all three

pub left-out-2 : LeftOut type2
left-out-2 = record { first = first-2; others = other_block type2 type2-laws; changes = none_idle type2 type2-laws first-2 }

pub left-out-3 : (idm : List ℕ) → length idm ≡ 8 → LeftOut (type3 idm)
left-out-3 idm eight = record {
  first = first-3 idm;
  others = other_block (type3 idm) (type3-laws idm eight);
  changes = none_idle (type3 idm) (type3-laws idm eight) (first-3 idm);
}

pub left-out-6 : LeftOut type6
left-out-6 = record { first = first-6; others = other_block type6 type6-laws; changes = none_idle type6 type6-laws first-6 }
