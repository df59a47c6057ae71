use Rattle.std.proofs.Common.{◌≡◌, ℕ, List, sym, ap, ◌∙◌, [], ◌∷◌, ◌++◌, length, map, take, drop, ◌-◌, ◌≤◌, append_assoc, get_or, arith, rules}
use Rattle.std.proofs.lemmas.List.{set-get_or, take-append-drop, drop-append-le, length-map, length-take}
use lib.ListN.{length-set}
use lib.Seq.{take-nil}
use Rattle.tag.specs.Bytes.{byte, overwrite}
use Rattle.tlv.proofs.Usable.{from, from_next, from_end}
use Rattle.tlv.proofs.Turns.{gather-next}
use Rattle.tlv_value.proofs.value.gather.Goals as goal

-- a front put over the first n bytes is put over the whole
overwrite-front : (xs out : List ℕ) (n : ℕ) → length xs ≤ n → n ≤ length out → overwrite xs (take n out) ++ drop n out ≡ overwrite xs out
overwrite-front xs out n h l =
    let rest : drop (length xs) (take n out) ++ drop n out ≡ drop (length xs) out
    = sym (drop-append-le (length xs) (take n out) (drop n out) (omega (arith, length-take n out))) ∙ ap (drop (length xs)) (take-append-drop n out) in
    append_assoc xs (drop (length xs) (take n out)) (drop n out) ∙ ap (λ ys. xs ++ ys) rest

-- k bytes are gathered, and none is left to gather
gathered : (f : ℕ → ℕ) (k n : ℕ) (us all slots out : List ℕ) → take (n - k) us ≡ []
    → take k slots ++ overwrite (map f (take (n - k) us)) (drop k slots) ≡ overwrite (map f (take n all)) (take n out) → n ≤ length out
    → slots ++ drop n out ≡ overwrite (map f (take n all)) out
gathered f k n us all slots out e h l =
    let s : slots ≡ overwrite (map f (take n all)) (take n out) = sym (take-append-drop k slots) ∙ rw e at h in
    let few : length (map f (take n all)) ≤ n = omega (arith, length-map (take n all) f, length-take n all) in
    ap (λ s. s ++ drop n out) s ∙ overwrite-front (map f (take n all)) out n few l

pub returns-then-eq : goal.returns-then-eq
returns-then-eq c =
    let a = c.args in
    let t = a.table.now in
    let e = a.walk.end.0 in
    let l = c.loop-slot in
    let at_end : l.at.0 ≡ e = search rules in
    let u : from t l.at.0 e ≡ [] = from_end t l.at.0 e (omega arith) in
    let none : take (a.n - l.slot-index) (from t l.at.0 e) ≡ [] = rw u (take-nil (a.n - l.slot-index)) in
    ap (λ s. s ++ drop a.n a.out.now) (set-get_or l.slot-items l.slot-index 0)
    ∙ gathered (byte a.image.now) l.slot-index a.n (from t l.at.0 e) (from t c.next_usable-at.result.0 e) l.slot-items a.out.now none l.invariant.gathers c.requires.2
    ∙ ap (λ us. overwrite (map (byte a.image.now) (take a.n us)) a.out.now) (sym c.next_usable-at.ensures.left)

pub loop-slot-preserved : goal.loop-slot-preserved
loop-slot-preserved c =
    let a = c.args in
    let t = a.table.now in
    let e = a.walk.end.0 in
    let l = c.loop-slot in
    let n = c.next_usable-at-in-loop-slot in
    let f = n.result.0 in
    let apart : (l.at.0 ≡ e → ⊥) = search rules in
    let u : from t l.at.0 e ≡ l.at.0 ∷ from t f e = from_next t l.at.0 f e l.invariant.here (omega (arith, l.invariant.here.within)) n.ensures.left in
    record {
      here = record { within = omega arith; free = n.ensures.free };
      long = length-set l.slot-items l.slot-index (get_or a.image.now l.at.0 0) ∙ l.invariant.long;
      gathers = sym (gather-next (byte a.image.now) l.slot-index a.n l.at.0 (from t f e) l.slot-items (omega (arith, l.invariant.long)) (omega arith)) ∙ rw u at l.invariant.gathers;
    }

pub returns : goal.returns
returns c =
    let a = c.args in
    let t = a.table.now in
    let e = a.walk.end.0 in
    let l = c.loop-slot in
    let z : a.n - l.slot-index ≡ 0 = omega (arith, l.invariant.long) in
    let none : take (a.n - l.slot-index) (from t l.at.0 e) ≡ [] = rw z in
    gathered (byte a.image.now) l.slot-index a.n (from t l.at.0 e) (from t c.next_usable-at.result.0 e) l.slot-items a.out.now none l.invariant.gathers c.requires.2
    ∙ ap (λ us. overwrite (map (byte a.image.now) (take a.n us)) a.out.now) (sym c.next_usable-at.ensures.left)
