-- Demand 3 about any answers that meet the contracts, from demand 3 about the definitions.
-- Assumes nothing.
use mathlib.Core.Path.{◌≡◌, refl, sym, ap, ap₂, ◌∙◌}
use mathlib.Core.List.{List, [], ◌∷◌}
use Prim.Native.Nat.{ℕ, zero, suc, ◌+◌, ◌<◌, ◌≤◌}
use native.Mathlib.Nat.{zero-add}
use native.Mathlib.Omega.{arith}
use borrow.Author.Tests.{le-leb}
use lib.ListN.{length, get_or, take, drop, replicate, length-map, length-drop}
use lib.Seq.{drop-cons, length-take-le, take-append_seam}
use Rattle.std.specs.Prelude.{Result, Ok, Err}
use Rattle.tag.specs.declared.refusals.Refusal.{Refusal}
use Rattle.tag.specs.declared.refusals.Fault.{Fault}
use Rattle.tag.specs.Bytes.{overwrite}
use Rattle.tag.specs.Plan.{list, command_count}
use Rattle.tag.specs.TagType.{TagType, output, fitted, writing, written, write_by, write, pieces, commands}
use Rattle.tag.specs.Judge.{accepted, judged}
use Rattle.tag.specs.Model.{Modelled, refused_storing, stored, model, image_after}
use Rattle.tag.specs.Answers.{number_of, refuses_one, storing_of}
use Rattle.tag.specs.PublicContracts.{Wrote, Judged, Took}
use Rattle.tag.proofs.Counts.{length-list}
use Rattle.tag.proofs.Logic.{nope}
use Rattle.demands.specs.Demand3.{cut_of, our_bytes, our_image, Demand3}
use Rattle.demands.specs.ByContract.{Run, end, give, refuse, Code3}
use Rattle.tag.proofs.Outputs.{put_all, put-counted}
use Rattle.demands.proofs.Answered.{accepted-is, refused-is, refused-verdict, stored_is}
use Rattle.demands.proofs.Demand2.{fitted-is}

refused-same : (o : Modelled) (j : List ℕ) (f : ℕ) → refuses_one f ≡ storing_of o → image_after j o ≡ j
refused-same (refused_storing r) j f e = refl
refused-same (stored k) j f e = absurd (nope (cc))

took-none : (T : TagType) (j command : List ℕ) (f : Refusal) (k : List ℕ) → Took T j command (Err f) k → k ≡ j
took-none T j command f k (a, b) = b ∙ refused-same (model T j command) j (number_of f) a

-- where `write` answers a count, it has written our list to the buffer
pub wrote-ours : (T : TagType) (i m : List ℕ) → writing T i m ≡ written (T.plan i m) → (buffer out : List ℕ) (n : ℕ) → Wrote T i m buffer (Ok n) out
    → (command_count (T.plan i m) i ≡ n) × (write T (length buffer) i m ≡ output n (our_bytes T i m)) × (take (length (our_bytes T i m)) out ≡ our_bytes T i m)
wrote-ours T i m w buffer out n wrote =
    let (all, e, q) = put-counted (λ room. write T room i m) buffer out n wrote in
    let by-plan : write T (length buffer) i m ≡ fitted (length buffer) (length (list (T.plan i m) i)) (our_bytes T i m) = ap (write_by T (length buffer) i) w in
    let (k, b) = fitted-is (length buffer) (length (list (T.plan i m) i)) n (our_bytes T i m) all (sym by-plan ∙ e) in (
      sym (length-list (T.plan i m) i) ∙ k,
      e ∙ ap (output n) (sym b),
      ap (take (length (our_bytes T i m))) (q ∙ ap (λ x. overwrite x buffer) (sym b)) ∙ take-append_seam (our_bytes T i m) (drop (length (our_bytes T i m)) buffer),
    )

module _ (T : TagType) (i m : List ℕ) (d : Demand3 T i m) (w : writing T i m ≡ written (T.plan i m)) where
  our-answer : (buffer out : List ℕ) (n : ℕ) → Wrote T i m buffer (Ok n) out
      → (r : Result ℕ Fault) → Judged T i m (take (length (our_bytes T i m)) out) r → r ≡ Ok n
  our-answer buffer out n wrote r j =
      let (k, o, front) = wrote-ours T i m w buffer out n wrote in
      accepted-is r n (j ∙ ap (judged T i m) front ∙ d.ours ∙ ap accepted k)

  module _ (bytes : List ℕ) (n : ℕ) (e : Judged T i m bytes (Ok n)) where
    -- the call for command k, on cut k
    follow : (k : ℕ) → k < n → (r : Result (Unit {0}) Refusal) (j : List ℕ) → Took T (cut_of T i bytes k) (get_or (pieces T i bytes) k []) r j
        → (r ≡ Ok tt) × (j ≡ cut_of T i bytes (suc k))
    follow k l r j (a, b) =
        let s : model T (cut_of T i bytes k) (get_or (pieces T i bytes) k []) ≡ stored (cut_of T i bytes (suc k)) = d.refuses_none bytes n (sym e) k l in
        (stored_is r (a ∙ ap storing_of s), b ∙ ap (image_after (cut_of T i bytes k)) s)

    some-pieces : length (pieces T i bytes) ≡ n
    some-pieces = sym (length-map (pieces T i bytes) (T.command i)) ∙ sym ((d.exactly bytes n).0 (sym e)).0

    -- a run from cut k on, for the next g commands
    run-from : {j x : List ℕ} {given : List (List ℕ)} {rs : List (Result (Unit {0}) Refusal)} → Run T j given rs x
        → (k g : ℕ) → j ≡ cut_of T i bytes k → k + g ≤ n → given ≡ take g (drop k (pieces T i bytes))
        → (rs ≡ replicate g (Ok tt)) × (x ≡ cut_of T i bytes (k + g))
    run-from end k g q h u =
        let z : 0 ≡ g = ap length u ∙ length-take-le g (drop k (pieces T i bytes)) (rw length-drop (omega (arith, some-pieces))) in
        let w : k + g ≡ k = omega arith in
        (rw (← z) refl, rw w q)
    run-from (give r t s) k zero q h u = absurd (nope (cc))
    run-from (give {j} {b} {k = l} {given} r t s) k (suc g) q h u =
        let p : drop k (pieces T i bytes) ≡ get_or (pieces T i bytes) k [] ∷ drop (suc k) (pieces T i bytes)
        = drop-cons (pieces T i bytes) k [] (omega (arith, some-pieces)) in
        let u' : b ∷ given ≡ get_or (pieces T i bytes) k [] ∷ take g (drop (suc k) (pieces T i bytes)) = u ∙ rw p in
        let v : b ≡ get_or (pieces T i bytes) k [] = cc u' in
        let t' : Took T (cut_of T i bytes k) (get_or (pieces T i bytes) k []) r l = rw (← q, ← v) t in
        let (st, jn) = follow k (omega arith) r l t' in
        let w : suc k + g ≡ k + suc g = omega arith in
        let (a, o) = run-from s (suc k) g jn (omega arith) (cc u') in
        (ap₂ (λ y ys. y ∷ ys) st a, o ∙ ap (cut_of T i bytes) w)
    run-from (refuse {j} {k = l} b f t s) k g q h u = run-from s k g (took-none T j b f l t ∙ q) h u

    run-followed : (k : ℕ) → k ≤ n → (rs : List (Result (Unit {0}) Refusal)) (j : List ℕ) → Run T i (take k (pieces T i bytes)) rs j
        → (rs ≡ replicate k (Ok tt)) × (j ≡ cut_of T i bytes k)
    run-followed k h rs j s = let (a, o) = run-from s 0 k refl (omega arith) refl in (a, o ∙ ap (cut_of T i bytes) (zero-add k))

    afresh : (k : ℕ) → k ≤ n → (buffer out : List ℕ) (r : Result ℕ Refusal) → length (our_bytes T (cut_of T i bytes k) m) ≤ length buffer
        → Wrote T (cut_of T i bytes k) m buffer r out
        → (r ≡ Ok (command_count (T.plan (cut_of T i bytes k) m) (cut_of T i bytes k)))
        × (our_image T (cut_of T i bytes k) m ≡ our_image T i m)
        × (take (length (our_bytes T (cut_of T i bytes k) m)) out ≡ our_bytes T (cut_of T i bytes k) m)
    afresh k l buffer out r room wrote =
        let x = cut_of T i bytes k in
        let (u, v) = d.restart bytes n (sym e) k l in
        let o : write T (length buffer) x m ≡ output (length (list (T.plan x m) x)) (our_bytes T x m)
        = ap (write_by T (length buffer) x) u ∙ rw (le-leb (length (our_bytes T x m)) (length buffer) room) in
        let (c, b) = put_all (λ room. write T room x m) buffer out r (length (list (T.plan x m) x)) (our_bytes T x m) wrote o in
        (c ∙ ap Ok (length-list (T.plan x m) x), v, ap (take (length (our_bytes T x m))) b ∙ take-append_seam (our_bytes T x m) (drop (length (our_bytes T x m)) buffer))

  pub by-contract : Code3 T i m
  by-contract = record {
    accepts = λ bytes n e. (d.exactly bytes n).0 (sym e);
    accepted = λ bytes r e t. accepted-is r (length (commands T i bytes)) (e ∙ (d.exactly bytes (length (commands T i bytes))).1 (refl, t));
    refuses = λ bytes r e f p. ((λ q. (d.first_fault bytes f p).0 (sym e ∙ refused-verdict r f p q)), (λ h. refused-is r f p (e ∙ (d.first_fault bytes f p).1 h)));
    ours = our-answer;
    followed = run-followed;
    unchanged = took-none T;
    restart = afresh;
  }
