-- Demand 3 for every type of tag, from its laws.
-- Assumes nothing.
use mathlib.Core.Path.{◌≡◌, refl, sym, ap, ap₂, ◌∙◌}
use mathlib.Core.List.{List, [], ◌∷◌, map}
use Prim.Native.Nat.{ℕ, zero, suc, ◌+◌, ◌<◌, ◌≤◌}
use native.Mathlib.Nat.{le_of_suc-le-suc, not-suc-le-zero, le_refl, zero-add}
use native.Mathlib.Omega.{arith}
use lib.ListN.{length, get_or, take, drop, length-map, length-drop}
use lib.Seq.{drop-cons, length-take-le}
use Rattle.tag.specs.Bytes.{overlay}
use Rattle.tag.specs.Reading.{Reading, unreadable, reads, broken}
use Rattle.tag.specs.Stores.{Store, Command, malformed, stores, puts, tag_after}
use Rattle.tag.specs.Plan.{new_image, list}
use Rattle.tag.specs.TagType.{TagType, held, writing, written, pieces, commands}
use Rattle.tag.specs.Judge.{Task, accepted, judge, judge_by, judged, task}
use Rattle.tag.specs.Model.{stored, model, image_after}
use Rattle.tag.specs.Cuts.{Ready, Safe, as_none, as_new, as_old, SafeList}
use Rattle.tag.proofs.Logic.{nope}
use Rattle.tag.proofs.Each.{Each, each_map, each_of}
use Rattle.tag.proofs.Images.{restart, length_cut}
use Rattle.tag.proofs.Judge.{accepts-exactly, refuses-exactly, cut-after}
use Rattle.tag.proofs.Writes.{list-accepted, list-ends}
use Rattle.tag.proofs.Counts.{length-list}
use Rattle.tag.proofs.Pieces.{SelfDelimiting, pieces-joined}
use Rattle.tag.proofs.Laws.{Laws, Sent, Near, ready-written, ready-reads}
use Rattle.demands.specs.Demand3.{cut_of, our_bytes, our_image, Calls, end, give, refuse, image_of, Demand3}

-- a safe tag reads
safe-readable : (t : Task) (j : List ℕ) → Safe t j → t.held j ≡ broken → ⊥
safe-readable t j (as_none e) h = nope (cc)
safe-readable t j (as_new e) h = nope (cc)
safe-readable t j (as_old m e f) h = nope (cc)

-- the model stores a command that is well formed on a tag that reads
model-stores : (T : TagType) (j b : List ℕ) (ss : List Store) → (held T j ≡ broken → ⊥) → T.command j b ≡ stores ss → model T j b ≡ stored (puts j ss)
model-stores T j b ss ok e = go (T.reading j) refl
  where
    go : (v : Reading) → T.reading j ≡ v → model T j b ≡ stored (puts j ss)
    go (unreadable r) q = absurd (ok (rw q))
    go (reads p) q = rw (q, e)

get_or-command : (T : TagType) (i : List ℕ) (bs : List (List ℕ)) (k : ℕ) → k < length bs → get_or (map (T.command i) bs) k malformed ≡ T.command i (get_or bs k [])
get_or-command T i [] k h = absurd (not-suc-le-zero h)
get_or-command T i (b ∷ bs) zero h = refl
get_or-command T i (b ∷ bs) (suc k) h = get_or-command T i bs k (le_of_suc-le-suc h)

command-stores : (j : List ℕ) (c : Command) → (c ≡ malformed → ⊥) → (ss : List Store) × (c ≡ stores ss) × (puts j ss ≡ tag_after j c)
command-stores j malformed h = absurd (h refl)
command-stores j (stores ss) h = (ss, refl, refl)

module _ (T : TagType) (L : Laws T) where
  -- ---- our list's bytes are cut into exactly our commands

  our-pieces : (i m : List ℕ) → Ready T i m → pieces T i (our_bytes T i m) ≡ map T.encoded (list (T.plan i m) i)
  our-pieces i m r =
      pieces-joined (T.span i) (map T.encoded (list (T.plan i m) i)) _
      (each_map (SelfDelimiting (T.span i)) T.encoded (list (T.plan i m) i)
      (each_of (Sent T i) (λ ss. SelfDelimiting (T.span i) (T.encoded ss)) (list (T.plan i m) i) (λ ss s. (s.whole, s.some_bytes)) (L.sent i m r)))
      (le_refl _)

  taken : (i : List ℕ) (sss : List (List Store)) → Each (Sent T i) sss → map (T.command i) (map T.encoded sss) ≡ map stores sss
  taken i [] h = refl
  taken i (ss ∷ sss) h = cc (h.0.taken, taken i sss h.1)

  pub our-commands : (i m : List ℕ) → Ready T i m → commands T i (our_bytes T i m) ≡ map stores (list (T.plan i m) i)
  our-commands i m r = ap (map (T.command i)) (our-pieces i m r) ∙ taken i (list (T.plan i m) i) (L.sent i m r)

  pub our-image : (i m : List ℕ) → Ready T i m → our_image T i m ≡ new_image (T.plan i m) i
  our-image i m r =
      rw (our-commands i m r, length-map (list (T.plan i m) i) stores) (list-ends T i m (T.plan i m) (L.sound i m r))

  module _ (i m : List ℕ) (r : Ready T i m) where
    abbrev t : Task
    t = task T i m

    reading-ok : held T i ≡ broken → ⊥
    reading-ok = ready-reads T i m r

    -- the verdict on the bytes of a list is the verdict on its commands
    by-commands : (bytes : List ℕ) → judged T i m bytes ≡ judge t 0 i (commands T i bytes)
    by-commands bytes = ap (judge_by T i m bytes) (ready-written T i m r)

    module _ (bytes : List ℕ) (n : ℕ) (e : judged T i m bytes ≡ accepted n) where
      all_three : (n ≡ length (commands T i bytes)) × SafeList t (commands T i bytes)
      all_three = (accepts-exactly t reading-ok (commands T i bytes) n).0 (sym (by-commands bytes) ∙ e)

      near : (k : ℕ) → k ≤ n → Near T i m (cut_of T i bytes k)
      near k h =
          let l : k ≤ length (commands T i bytes) = omega (arith, all_three.0) in
          record {
            same_length = length_cut k i (commands T i bytes);
            kept = all_three.1.kept k l;
            readable = safe-readable t (cut_of T i bytes k) (all_three.1.safe k l);
          }

      stores-next : (k : ℕ) → k < n → model T (cut_of T i bytes k) (get_or (pieces T i bytes) k []) ≡ stored (cut_of T i bytes (suc k))
      stores-next k h =
          let l : k < length (commands T i bytes) = omega (arith, all_three.0) in
          let l' : k < length (pieces T i bytes) = omega (arith, length-map (pieces T i bytes) (T.command i)) in
          let (ss, c, p) = command-stores (cut_of T i bytes k) (get_or (commands T i bytes) k malformed) (all_three.1.formed k l) in
          let d : T.command (cut_of T i bytes k) (get_or (pieces T i bytes) k []) ≡ stores ss
          = L.same-command i m (cut_of T i bytes k) r (near k (omega arith)) (get_or (pieces T i bytes) k []) ∙ sym (get_or-command T i (pieces T i bytes) k l') ∙ c in
          model-stores T (cut_of T i bytes k) (get_or (pieces T i bytes) k []) ss (near k (omega arith)).readable d
          ∙ ap stored (p ∙ sym (cut-after k i (commands T i bytes)))

      some-pieces : length (pieces T i bytes) ≡ n
      some-pieces = sym (length-map (pieces T i bytes) (T.command i)) ∙ sym all_three.0

      -- a run of calls from cut k on, for the next g commands
      calls-from : {j : List ℕ} {given calls : List (List ℕ)} → Calls T j given calls → (k g : ℕ) → j ≡ cut_of T i bytes k → k + g ≤ n
          → given ≡ take g (drop k (pieces T i bytes)) → image_of T j calls ≡ cut_of T i bytes (k + g)
      calls-from end k g q h u =
          let z : 0 ≡ g = ap length u ∙ length-take-le g (drop k (pieces T i bytes)) (rw length-drop (omega (arith, some-pieces))) in
          let w : k + g ≡ k = omega arith in
          rw w q
      calls-from (give c) k zero q h u = absurd (nope (cc))
      calls-from (give {j} {b} {given} c) k (suc g) q h u =
          let d : drop k (pieces T i bytes) ≡ get_or (pieces T i bytes) k [] ∷ drop (suc k) (pieces T i bytes)
          = drop-cons (pieces T i bytes) k [] (omega (arith, some-pieces)) in
          let u' : b ∷ given ≡ get_or (pieces T i bytes) k [] ∷ take g (drop (suc k) (pieces T i bytes)) = u ∙ rw d in
          let v : model T j b ≡ stored (cut_of T i bytes (suc k)) = ap₂ (model T) q (cc u') ∙ stores-next k (omega arith) in
          let w : suc k + g ≡ k + suc g = omega arith in
          calls-from c (suc k) g (ap (image_after j) v) (omega arith) (cc u') ∙ ap (cut_of T i bytes) w
      calls-from (refuse {j} {b} {given} {calls} r f c) k g q h u =
          ap (λ v. image_of T (image_after j v) calls) f ∙ calls-from c k g q h u

    afresh : (x : List ℕ) → Near T i m x → (writing T x m ≡ written (T.plan x m)) × (our_image T x m ≡ our_image T i m)
    afresh x n =
        let rx : Ready T x m = L.still-ready i m x r n in (
          ready-written T x m rx,
          our-image x m rx
              ∙ ap (λ us. overlay us (T.plan x m).values x) (L.same-addresses i m x r n)
              ∙ ap (λ vs. overlay (T.plan i m).addresses vs x) (L.same-values i m x r n)
              ∙ restart (T.plan i m).addresses (T.plan i m).values i x n.same_length n.kept
              ∙ sym (our-image i m r),
        )

    pub claim : Demand3 T i m
    claim = record {
      exactly = λ bytes n. rw (by-commands bytes) (accepts-exactly t reading-ok (commands T i bytes) n);
      first_fault = λ bytes f p. rw (by-commands bytes) (refuses-exactly t (commands T i bytes) f p);
      ours = by-commands (our_bytes T i m) ∙ rw (our-commands i m r) (list-accepted T i m (T.plan i m) (L.sound i m r) reading-ok) ∙ ap accepted (length-list (T.plan i m) i);
      refuses_none = stores-next;
      followed = λ bytes n e k h calls c. calls-from bytes n e c 0 k refl (omega arith) refl ∙ ap (cut_of T i bytes) (zero-add k);
      restart = λ bytes n e k h. afresh (cut_of T i bytes k) (near bytes n e k h);
    }
