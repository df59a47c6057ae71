-- Refusal 11 comes exactly if no image that the requirements compare with reads as the message, for each type.
-- Assumes nothing.
use mathlib.Core.Path.{◌≡◌, refl, sym, ap, ◌∙◌}
use mathlib.Core.Bool.{Bool, true, false, not, ◌||◌}
use mathlib.Core.Logic.{◌↔◌, ⊎_elim}
use mathlib.Core.List.{List, [], ◌∷◌}
use Prim.Native.Nat.{ℕ, ◌+◌, ◌-◌, ◌*◌, ◌<◌, ◌≤◌}
use native.Mathlib.Omega.{arith}
use borrow.Author.Tests.{ne_eqb, eqb-true, leb-true, le-leb, eq-eqb}
use lib.Dec.{leb, eqb}
use lib.ListN.{length, replicate}
use Rattle.tag.specs.Bytes.{byte, has, overlay, is_set, Octets}
use Rattle.tag.specs.Refusals.{message_too_long}
use Rattle.tag.specs.Reading.{holds}
use Rattle.tag.specs.Plan.{new_image}
use Rattle.tag.specs.TagType.{TagType, held, writing, refused_write}
use Rattle.tag.proofs.Logic.{nope, or_l, or_cases}
use Rattle.tag.proofs.Addresses.{above-length}
use Rattle.tlv.specs.Walk.{found, message_tlv}
use Rattle.tlv_tag.specs.Message.{locate, capacity_in}
use Rattle.tlv_tag.specs.Update.{usable, length_field, tlv_bytes}
use Rattle.tlv_tag.proofs.Field.{fits-less}
use Rattle.tlv_tag.proofs.Tag as tlv
use Rattle.tlv_tag.proofs.Writes.{placed}
use Rattle.type2.specs.Memory.{layout, memory}
use Rattle.type2.specs.Type2.{type2}
use Rattle.type2.proofs.Memory.{memory-laws}
use Rattle.type3.specs.AttributeInformation.{steady_sum, capacity}
use Rattle.type3.specs.Update.{blocks_for, addresses, ln_sum, values, plan}
use Rattle.type3.specs.Type3.{type3}
use Rattle.type3.proofs.Message.{Agrees, bounds, reads-capacity}
use Rattle.type3.proofs.Laws as laws3
use Rattle.type3.proofs.Update as update3
use Rattle.type6.specs.Container.{file_at}
use Rattle.type6.specs.Update as six
use Rattle.type6.specs.Type6.{type6}
use Rattle.type6.proofs.Message as message6
use Rattle.type6.proofs.Laws as laws6
use Rattle.type6.proofs.Update as update6
use Rattle.demands.specs.Code2.{AlikeFound2}
use Rattle.demands.specs.Demand2.{Asked, Alike2, TooLong2, Alike3, TooLong3, Alike6, TooLong6}
use Rattle.demands.proofs.Capacity.{roomy, exactly}
use Rattle.tag.proofs.Octets.{octets-byte, octets-overlay, octets-append, octets-zeros}

asked-exactly : (T : TagType) (i m : List ℕ) (a : Asked T i m) (P : Type 0)
    → (a.report.capacity < length m → P) → (length m ≤ a.report.capacity → P → ⊥) → (writing T i m ≡ refused_write message_too_long) ↔ P
asked-exactly T i m a P = exactly T i m a.report a.reads_as a.writable a.large_blocks a.some_bytes P

-- ---- Type 2

has-unset : (us vs : List ℕ) (a : ℕ) → has a us ≡ false → not (is_set us vs a) ≡ true
has-unset [] vs a e = refl
has-unset (x ∷ us) [] a e = refl
has-unset (x ∷ us) (v ∷ vs) a e = go (eqb a x) refl (has-unset us vs a)
  where
    go : (b : Bool) → eqb a x ≡ b → (has a us ≡ false → not (is_set us vs a) ≡ true) → not (eqb x a || is_set us vs a) ≡ true
    go true q ih = let f : true ≡ false = rw q at e in absurd (nope (cc))
    go false q ih = rw (ne_eqb x a (λ p. let f : true ≡ false = sym (eq-eqb a x (sym p)) ∙ q in nope (cc))) (ih (rw q at e))

tlv-bytes-octets : (m : List ℕ) → length m ≤ 65534 → Octets m → Octets (tlv_bytes m)
unfolding length_field
tlv-bytes-octets m l h = go (leb (length m) 254) refl
  where
    go : (b : Bool) → leb (length m) 254 ≡ b → Octets (tlv_bytes m)
    go true q =
        let s : length m ≤ 254 = leb-true (length m) 254 q in
        rw (q, length_field) (omega arith, octets-append m (0xFE ∷ []) h (omega arith, tt))
    go false q = rw (q, length_field) (omega arith, (omega arith, (omega arith, octets-append m (0xFE ∷ []) h (omega arith, tt))))

module _ (i m : List ℕ) (a : Asked type2 i m) (t : ℕ) (us : List ℕ) (e : message_tlv layout i ≡ found t us) (end : ℕ) where
  at-tlv : tlv.TlvPlaced memory i (usable (locate memory i))
  at-tlv = (placed memory i a.report a.reads_as).0

  same-us : usable (locate memory i) ≡ us
  same-us = let z : found at-tlv.at (usable (locate memory i)) ≡ found t us = sym at-tlv.tlv-at ∙ e in cc

  place : tlv.TlvPlaced memory i us
  place = record { at = t; sound = at-tlv.sound; tlv-at = e }

  capacity_is : a.report.capacity ≡ capacity_in (length us)
  capacity_is = (placed memory i a.report a.reads_as).2 ∙ ap (λ vs. capacity_in (length vs)) same-us

  no_room : a.report.capacity < length m → (j : List ℕ) → Octets j → Alike2 end t us i j → held type2 j ≡ holds m → ⊥
  unfolding place
  no_room l j o k h = tlv.too_long memory memory-laws i us place j k.same_length k.same_start m (omega (arith, capacity_is)) h

  module _ (f : length m ≤ a.report.capacity) where
    ready : tlv.TlvReady memory i m us
    ready = record { placed = place; some_bytes = a.some_bytes; room = omega (arith, capacity_is) }

    new : List ℕ
    new = overlay us (tlv_bytes m) i

    short : length m ≤ 65534
    unfolding ready
    short =
        let b = tlv.bounds memory memory-laws i us place in
        let u = above-length (length i) place.at us (tlv.beyond memory memory-laws i us place).1 in
        omega (arith, b.1, u, fits-less (length us) (length m) a.some_bytes ready.room)

    alike : Alike2 end t us i new
    unfolding new ready place
    alike =
        let l = tlv.long-enough memory memory-laws i m us ready in
        record {
          same_length = l.0;
          same_start = λ x h. tlv.new-agrees memory memory-laws i m us ready x h;
          same_skipped = λ x lo hi h. l.1 x (has-unset us (tlv_bytes m) x h);
        }

    with-room : ((j : List ℕ) → Octets j → Alike2 end t us i j → held type2 j ≡ holds m → ⊥) → ⊥
    unfolding new
    with-room none =
        none new (octets-overlay us (tlv_bytes m) i (tlv-bytes-octets m short a.message_octets) a.image_octets) alike
        (tlv.reads-new memory memory-laws i m us ready)

pub too-long-2 : TooLong2
too-long-2 i m a t us e end =
    asked-exactly type2 i m a ((j : List ℕ) → Octets j → Alike2 end t us i j → held type2 j ≡ holds m → ⊥) (no_room i m a t us e end) (with-room i m a t us e end)

-- the same, with the message TLV that the walk finds in the image
pub alike-2 : (i m : List ℕ) → Asked type2 i m → (end : ℕ) → (writing type2 i m ≡ refused_write message_too_long) ↔ ((j : List ℕ) → Octets j → AlikeFound2 end i j → held type2 j ≡ holds m → ⊥)
alike-2 i m a end =
    let p = (placed memory i a.report a.reads_as).0 in
    let us = usable (locate memory i) in
    let e = too-long-2 i m a p.at us p.tlv-at end in (
      (λ w j o k h. e.0 w j o (k p.at us p.tlv-at) h),
      (λ none. e.1 (λ j o k h. none j o (λ t vs q. same-tlv t vs q k) h)),
    )
  where
    same-tlv : {j : List ℕ} (t : ℕ) (vs : List ℕ) → message_tlv layout i ≡ found t vs
        → Alike2 end (placed memory i a.report a.reads_as).0.at (usable (locate memory i)) i j → Alike2 end t vs i j
    same-tlv t vs q k =
        let p = (placed memory i a.report a.reads_as).0 in
        let z : found p.at (usable (locate memory i)) ≡ found t vs = sym p.tlv-at ∙ q in
        let at-t : p.at ≡ t = cc in
        let us-vs : usable (locate memory i) ≡ vs = cc in
        rw (at-t, us-vs) at k

-- ---- Type 3

module _ (idm i m : List ℕ) (a : Asked (type3 idm) i m) where
  agrees : (j : List ℕ) → Alike3 i j → Agrees j i
  agrees j k x e = ⊎_elim (λ h. k.same_start x (leb-true x 8 h)) (λ h. let q : x ≡ 10 = eqb-true x 10 h in rw q k.same_access) (or_cases (leb x 8) (eqb x 10) e)

  capacity-is-3 : a.report.capacity ≡ capacity i
  capacity-is-3 = reads-capacity i a.report a.reads_as

  module _ (f : length m ≤ a.report.capacity) where
    has_room : update3.HasRoom i m
    has_room = laws3.ready-room idm i m (roomy (type3 idm) i m a.report a.reads_as a.writable a.large_blocks a.some_bytes f)

    values-octets : Octets (values i m)
    values-octets =
        let b : (x : ℕ) → byte i x < 256 = octets-byte i a.image_octets in
        let p = bounds i has_room.passes in
        let n : length m ≤ 4096 = omega (arith, has_room.room, p.short, p.reach) in
        let l : steady_sum i + ln_sum (length m) < 65536 = omega (arith, b 0, b 1, b 2, b 3, b 4, b 5, b 6, b 7, b 8, b 10) in (
          omega arith,
          (
            omega arith,
            (
              omega arith,
              (
                omega arith,
                (
                  omega arith,
                  (
                    omega arith,
                    octets-append m (replicate (16 * blocks_for (length m) - length m) 0) a.message_octets (octets-zeros (16 * blocks_for (length m) - length m)),
                  ),
                ),
              ),
            ),
          ),
        )

    with-room-3 : ((j : List ℕ) → Octets j → Alike3 i j → held (type3 idm) j ≡ holds m → ⊥) → ⊥
    with-room-3 none =
        let (l, g, h) = update3.long-enough i m has_room in
        none (new_image (plan i m) i) (octets-overlay (addresses m) (values i m) i values-octets a.image_octets)
        (record { same_length = l; same_start = λ x k. g x (or_l (leb x 8) (eqb x 10) (le-leb x 8 k)); same_access = g 10 refl }) h

pub too-long-3 : (idm : List ℕ) → TooLong3 idm
too-long-3 idm i m a =
    asked-exactly (type3 idm) i m a ((j : List ℕ) → Octets j → Alike3 i j → held (type3 idm) j ≡ holds m → ⊥)
    (λ l j o k h. update3.too_long i m j (omega (arith, capacity-is-3 idm i m a)) (agrees idm i m a j k) h) (with-room-3 idm i m a)

-- ---- Type 6

module _ (i m : List ℕ) (a : Asked type6 i m) (Chosen : ℕ → Type 0) where
  module _ (f : length m ≤ a.report.capacity) where
    has-room-6 : update6.HasRoom i m
    has-room-6 = laws6.ready-room i m (roomy type6 i m a.report a.reads_as a.writable a.large_blocks a.some_bytes f)

    -- NLEN takes two bytes, since an image has at most 8,192
    values-octets-6 : Octets (six.values m)
    values-octets-6 =
        let n : length m < 65536 = omega (arith, update6.inside i m has-room-6, (message6.bounds i has-room-6.passes).short) in
        (omega arith, (omega arith, a.message_octets))

    with-room-6 : ((j : List ℕ) → Octets j → Alike6 Chosen i j → held type6 j ≡ holds m → ⊥) → ⊥
    with-room-6 none =
        none (new_image (six.plan i m) i) (octets-overlay (six.addresses (file_at i) m) (six.values m) i values-octets-6 a.image_octets)
        (record {
          same_length = update6.new-length i m;
          same_start = update6.new-agrees i m has-room-6.passes;
          same_outside = λ x c o. update6.new-outside i m has-room-6 x o;
        })
        (update6.reads-new i m has-room-6)

pub too-long-6 : TooLong6
too-long-6 i m a Chosen =
    asked-exactly type6 i m a ((j : List ℕ) → Octets j → Alike6 Chosen i j → held type6 j ≡ holds m → ⊥)
    (λ l j o k h. update6.too_long i m j (omega (arith, message6.reads-capacity i a.report a.reads_as)) k.same_start h)
    (with-room-6 i m a Chosen)
