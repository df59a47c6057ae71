use Rattle.std.proofs.Common.{◌≡◌, refl, sym, ap, ◌∙◌, [], ◌∷◌, ◌+◌, ◌-◌, drop, length, arith, rules}
use lib.ListN.{drop_of_length-le}
use lib.Seq.{drop-nil}
use Rattle.tag.specs.Bytes.{overlay}
use Rattle.tlv.proofs.Usable.{from, from-above, from_next, from_end}
use Rattle.tlv_value.proofs.Overlays.{overlay-none, overlay-next, overlay_free, drop_free}
use Rattle.tlv.proofs.Steps.{moved}
use Rattle.tlv.proofs.Turns.{drop-next}
use Rattle.tlv_value.proofs.value.set_bytes.Goals.{else-loop-byte-test, then-loop-byte-test+then-eq}
use Rattle.tlv_value.proofs.value.set_bytes.Goals as goal

-- nothing is skipped on the way
pub returns-then-is_free-clause-sets : goal.returns-then-is_free-clause-sets
returns-then-is_free-clause-sets c =
    let a = c.args in
    c.store.ensures ∙ sym (overlay_free a.table.now a.walk.at.0 (length a.bytes.now) a.walk.end.0 c.if-n-walk.true (sym c.is_free.ensures ∙ c.if-is_free.true) a.bytes.now a.image.now refl)

pub returns-then-is_free-clause-past : goal.returns-then-is_free-clause-past
returns-then-is_free-clause-past c =
    let a = c.args in
    rw (c.moved_to.ensures.0, c.moved_to.ensures.1)
    (sym (drop_free a.table.now a.walk.at.0 (length a.bytes.now) a.walk.end.0 c.if-n-walk.true (sym c.is_free.ensures ∙ c.if-is_free.true)))

pub returns-then-is_free-clause-placed : goal.returns-then-is_free-clause-placed
returns-then-is_free-clause-placed c =
    let e = c.moved_to.ensures in
    moved c.requires.1 (omega (arith, e.0)) (omega (arith, c.requires.1.ordered, c.if-n-walk.true, e.0, e.1)) e.1 e.2

pub loop-byte-preserved : goal.loop-byte-preserved
loop-byte-preserved c =
    let a = c.args in
    let t = a.table.now in
    let e = a.walk.end.0 in
    let n = length a.bytes.now in
    let l = c.loop-byte in
    let k = l.byte-index in
    let r = c.next_usable-at-in-loop-byte in
    let f = r.result.0 in
    let apart : (l.at.0 ≡ e → ⊥) = search rules in
    let u : from t l.at.0 e ≡ l.at.0 ∷ from t f e = from_next t l.at.0 f e l.invariant.here (omega (arith, l.invariant.here.within)) r.ensures.left in
    let m : n - k - 1 ≡ n - (k + 1) = omega arith in
    record {
      here = record { within = omega arith; free = r.ensures.free };
      farther = omega (arith, l.invariant.farther);
      sets = sym (overlay-next e (from t f e) a.bytes.now l.image l.at.0 k (from-above t l.at.0 f e (omega arith) (omega arith)) (omega arith)) ∙ rw u at l.invariant.sets;
      past = ap (λ m. drop m (from t f e)) (sym m) ∙ sym (drop-next (n - k) l.at.0 (from t f e) (omega arith)) ∙ rw u at l.invariant.past;
    }

-- no byte is left, or no address
pub returns-clause-sets : goal.returns-clause-sets
returns-clause-sets c =
    let a = c.args in
    let t = a.table.now in
    let e = a.walk.end.0 in
    let l = c.loop-byte in
    let rest : overlay (from t l.at.0 e) (drop l.byte-index a.bytes.now) l.image ≡ l.image
    = elim c.loop-byte-test.branch [
      | else-loop-byte-test w ↦
          let y : drop l.byte-index a.bytes.now ≡ [] = drop_of_length-le a.bytes.now w.loop-byte-test.false in
          rw y (overlay-none (from t l.at.0 e) l.image)
      | then-loop-byte-test+then-eq w ↦
          let at_end : l.at.0 ≡ e = search rules in
          let u : from t l.at.0 e ≡ [] = from_end t l.at.0 e (omega arith) in
          rw u
    ] in
    sym rest ∙ l.invariant.sets ∙ ap (λ us. overlay us a.bytes.now a.image.now) (sym c.next_usable-at.ensures.left)

pub returns-clause-past : goal.returns-clause-past
returns-clause-past c =
    let a = c.args in
    let t = a.table.now in
    let e = a.walk.end.0 in
    let n = length a.bytes.now in
    let l = c.loop-byte in
    let rest : drop (n - l.byte-index) (from t l.at.0 e) ≡ from t l.at.0 e
    = elim c.loop-byte-test.branch [
      | else-loop-byte-test w ↦
          let z : n - l.byte-index ≡ 0 = omega (arith, w.loop-byte-test.false) in
          rw z
      | then-loop-byte-test+then-eq w ↦
          let at_end : l.at.0 ≡ e = search rules in
          let u : from t l.at.0 e ≡ [] = from_end t l.at.0 e (omega arith) in
          rw u (drop-nil (n - l.byte-index))
    ] in
    rw (c.moved_to-2.ensures.0, c.moved_to-2.ensures.1) (sym rest ∙ l.invariant.past ∙ ap (drop n) (sym c.next_usable-at.ensures.left))

pub returns-clause-placed : goal.returns-clause-placed
returns-clause-placed c = moved c.requires.1 (omega (arith, c.loop-byte.invariant.farther, c.moved_to-2.ensures.0)) (omega (arith, c.loop-byte.invariant.here.within, c.moved_to-2.ensures.0, c.moved_to-2.ensures.1)) c.moved_to-2.ensures.1 c.moved_to-2.ensures.2
