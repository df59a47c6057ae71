-- Demand 2 about any answers that meet the contracts, for every type of tag, from demands 2 and 3 about the definitions.
-- Assumes nothing.
use mathlib.Core.Path.{◌≡◌, refl, sym, ap, ap₂, ◌∙◌}
use mathlib.Core.Bool.{Bool, true, false}
use mathlib.Core.Logic.{◌↔◌}
use mathlib.Core.List.{List}
use Prim.Native.Nat.{ℕ, ◌<◌, ◌≤◌}
use native.Mathlib.Omega.{arith}
use native.Mathlib.Decide.{dec_lt}
use lib.Dec.{leb}
use lib.ListN.{length, take, replicate, length-map}
use lib.Seq.{take_all}
use Rattle.std.specs.Prelude.{Result, Ok, Err}
use Rattle.tag.specs.declared.Report as code
use Rattle.tag.specs.declared.refusals.Refusal.{Refusal}
use Rattle.tag.specs.declared.refusals.Refusal.TheVariants.{MessageTooLong, ShortGatheringBuffer}
use Rattle.tag.specs.declared.refusals.Fault as faults
use Rattle.tag.specs.Refusals.{message_too_long, short_buffer, short_gathering_buffer}
use Rattle.tag.specs.Reading.{Content, message, empty, being-written, Report, Reading, unreadable, reads, answer_of, too_short, refusal, answer, shown, broken, nothing, holds, held_of}
use Rattle.tag.specs.Plan.{list, command_count}
use Rattle.tag.specs.TagType.{TagType, held, Writing, refused_write, written, writing, list_bytes, write_by, pieces}
use Rattle.tag.specs.Stores.{Command}
use Rattle.tag.specs.Judge.{Task, accepted, judge_by, judged}
use Rattle.tag.specs.Cuts.{Ready, Fault, none, form, change, FirstFault, of_command, of_list}
use Rattle.tag.specs.Cuts as cuts
use Rattle.tag.specs.Answers.{refuses_one, gives, read_as, count_of, count_as}
use Rattle.tag.specs.PublicContracts.{Read, Showed, Wrote, Judged}
use Rattle.tag.proofs.Logic.{nope}
use Rattle.tag.proofs.Laws.{Laws, ready-written, written-ready}
use Rattle.demands.specs.Demand3.{our_bytes}
use Rattle.demands.specs.ByContract.{Run, RefusesAt}
use Rattle.demands.specs.Code2.{RefusesWith, Tells}
use Rattle.demands.proofs.Demand2 as demand2
use Rattle.demands.proofs.Demand3 as demand3
use Rattle.tag.proofs.Outputs.{same-refusal, refused-count-is}
use Rattle.demands.proofs.Answered.{refused-is, refused-verdict, named-refusal, report-says, not-refused, unread-is, told}
use Rattle.demands.proofs.Capacity.{roomy, cramped, longer}
use Rattle.demands.proofs.ByContract.{wrote-ours, by-contract}

pub chained : {A B C : Type 0} → A ↔ B → B ↔ C → A ↔ C
chained f g = ((λ a. g.0 (f.0 a)), (λ c. f.1 (g.1 c)))

module _ (T : TagType) where
  -- the answer for a tag that reads depends on whether the gathering buffer is too short
  reads-answer : (i gathering : List ℕ) (r : Result code.Report Refusal) → read_as r ≡ answer_of (length gathering) (T.reading i) → (p : Report) → T.reading i ≡ reads p
      → (b : Bool) → too_short (length gathering) p ≡ b
      → read_as r ≡ elim b [ true ↦ refusal short_gathering_buffer | false ↦ answer p.content p.address (length p.bytes) p.interrupted p.writable p.capacity ]
  reads-answer i gathering r a p q true t = a ∙ ap (answer_of (length gathering)) q ∙ rw t
  reads-answer i gathering r a p q false t = a ∙ ap (answer_of (length gathering)) q ∙ rw t

  -- 13 is answered exactly if the gathering buffer is too short
  pub short-answer : (i gathering gathered : List ℕ) (r : Result code.Report Refusal) → Read T.reading i gathering r gathered
      → (p : Report) → T.reading i ≡ reads p → (r ≡ Err ShortGatheringBuffer) ↔ (too_short (length gathering) p ≡ true)
  short-answer i gathering gathered r (a, b) p q = ((λ e. go e (too_short (length gathering) p) refl), (λ t. named-refusal r ShortGatheringBuffer (unread-is r short_gathering_buffer (reads-answer i gathering r a p q true t))))
    where
      go : r ≡ Err ShortGatheringBuffer → (x : Bool) → too_short (length gathering) p ≡ x → too_short (length gathering) p ≡ true
      go e true t = t
      go e false t =
          let z : refusal short_gathering_buffer ≡ answer p.content p.address (length p.bytes) p.interrupted p.writable p.capacity
          = sym (ap read_as e) ∙ reads-answer i gathering r a p q false t in
          absurd (nope (cc))

  -- where `write` answers a count, the tag was ready
  counted_ready : (i m buffer out : List ℕ) (n : ℕ) → Wrote T i m buffer (Ok n) out → Ready T i m
  counted_ready i m buffer out n (a, b) = go (writing T i m) refl
    where
      go : (w : Writing) → writing T i m ≡ w → Ready T i m
      go (refused_write r) q = let z : gives n ≡ refuses_one r = a ∙ ap (λ w. count_of (write_by T (length buffer) i w)) q in absurd (nope (cc))
      go (written p) q = (written-ready T i m p q).0

  -- and the count is the formula's
  pub counts-answer : (i m buffer out : List ℕ) (n : ℕ) → Wrote T i m buffer (Ok n) out → n ≡ command_count (T.plan i m) i
  counts-answer i m buffer out n w = sym (wrote-ours T i m (ready-written T i m (counted_ready i m buffer out n w)) buffer out n w).0

  -- 11 is answered exactly if writing is refused with it
  pub too-long-answer : (i m buffer out : List ℕ) (r : Result ℕ Refusal) → Wrote T i m buffer r out
      → (r ≡ Err MessageTooLong) ↔ (writing T i m ≡ refused_write message_too_long)
  too-long-answer i m buffer out r (a, b) = (
    (λ e. go e (writing T i m) refl),
    (λ q. named-refusal r MessageTooLong (refused-count-is r message_too_long (a ∙ ap (λ w. count_of (write_by T (length buffer) i w)) q))),
  )
    where
      go : r ≡ Err MessageTooLong → (w : Writing) → writing T i m ≡ w → writing T i m ≡ refused_write message_too_long
      go e (refused_write f) q =
          let z : refuses_one {A = ℕ} message_too_long ≡ refuses_one f = sym (ap count_as e) ∙ a ∙ ap (λ w. count_of (write_by T (length buffer) i w)) q in
          q ∙ ap refused_write (sym (same-refusal message_too_long f z))
      go e (written p) q = absurd (by-room (leb (length (list_bytes T p i)) (length buffer)) refl)
        where
          z : refuses_one {A = ℕ} message_too_long ≡ count_of (write_by T (length buffer) i (written p))
          z = sym (ap count_as e) ∙ a ∙ ap (λ w. count_of (write_by T (length buffer) i w)) q

          by-room : (x : Bool) → leb (length (list_bytes T p i)) (length buffer) ≡ x → ⊥
          by-room true t = let y : refuses_one {A = ℕ} message_too_long ≡ gives (length (list p i)) = rw t at z in nope (cc)
          by-room false t = let y : refuses_one {A = ℕ} message_too_long ≡ refuses_one short_buffer = rw t at z in let u : message_too_long ≡ short_buffer = same-refusal message_too_long short_buffer y in nope (cc)

-- ---- 11 is decided by the capacity

-- no command is at fault with 11
fault-number : {t : Task} {j : List ℕ} {c : Command} {r : ℕ} → Fault t j c r → r ≡ message_too_long → ⊥
fault-number (none a b d) e = nope (cc)
fault-number (form a) e = nope (cc)
fault-number (change a b) e = nope (cc)
fault-number (cuts.reading a b d) e = nope (cc)

first-number : {t : Task} {cs : List Command} {p : ℕ} → FirstFault t cs message_too_long p → ⊥
first-number (of_command l k f n) = fault-number f refl
first-number (of_list e u k n) = nope (cc)

module _ (T : TagType) (L : Laws T) where
  -- a report that `read` answers is that of a tag that reads, with the same capacity
  report-known : (i gathering : List ℕ) (p : code.Report) → read_as (Ok p) ≡ answer_of (length gathering) (T.reading i)
      → (q : Report) × (T.reading i ≡ reads q) × (q.writable ≡ p.writable) × (q.capacity ≡ p.capacity)
  report-known i gathering p a = go (T.reading i) refl
    where
      go : (v : Reading) → T.reading i ≡ v → (q : Report) × (T.reading i ≡ reads q) × (q.writable ≡ p.writable) × (q.capacity ≡ p.capacity)
      go (unreadable f) e = absurd (not-refused p f (a ∙ ap (answer_of (length gathering)) e))
      go (reads q) e = by-room (too_short (length gathering) q) refl
        where
          by-room : (x : Bool) → too_short (length gathering) q ≡ x
              → (q : Report) × (T.reading i ≡ reads q) × (q.writable ≡ p.writable) × (q.capacity ≡ p.capacity)
          by-room true t = absurd (not-refused p short_gathering_buffer (reads-answer T i gathering (Ok p) a q e true t))
          by-room false t =
              let (w, c) = report-says p q.content q.address (length q.bytes) q.interrupted q.writable q.capacity (reads-answer T i gathering (Ok p) a q e false t) in
              (q, e, w, c)

  module _ (i m : List ℕ) (q : Report) (reads_as : T.reading i ≡ reads q) (writable : q.writable ≡ true)
      (large_blocks : T.blocks_suffice i ≡ true) (some_bytes : length m ≡ 0 → ⊥) where
    -- the judge answers 11 exactly if the message is longer
    too-long-verdict : (bytes : List ℕ) (r : Result ℕ faults.Fault) → Judged T i m bytes r → RefusesAt r message_too_long 0 ↔ (q.capacity < length m)
    too-long-verdict bytes r j = (
      (λ e. go e (dec_lt q.capacity (length m))),
      (λ l. refused-is r message_too_long 0 (j ∙ ap (judge_by T i m bytes) (cramped T i m q reads_as writable large_blocks some_bytes l))),
    )
      where
        go : RefusesAt r message_too_long 0 → Dec (q.capacity < length m) → q.capacity < length m
        go e (yes l) = l
        go e (no l) =
            let ready = roomy T i m q reads_as writable large_blocks some_bytes (omega arith) in
            absurd (first-number (((demand3.claim T L i m ready).first_fault bytes message_too_long 0).0 (sym j ∙ refused-verdict r message_too_long 0 e)))

  pub capacity-answer : (i gathering gathered : List ℕ) (p : code.Report) → Read T.reading i gathering (Ok p) gathered
      → p.writable ≡ true → T.blocks_suffice i ≡ true → (m : List ℕ) → (length m ≡ 0 → ⊥)
      → ((buffer out : List ℕ) (r : Result ℕ Refusal) → Wrote T i m buffer r out → (r ≡ Err MessageTooLong) ↔ (p.capacity < length m))
      × ((bytes : List ℕ) (r : Result ℕ faults.Fault) → Judged T i m bytes r → RefusesAt r message_too_long 0 ↔ (p.capacity < length m))
  capacity-answer i gathering gathered p (a, b) w large m some =
      let (q, e, same-writable, same-capacity) = report-known i gathering p a in
      let may : q.writable ≡ true = same-writable ∙ w in
      let decided = longer T i m q e may large some in (
        (λ buffer out r wrote. rw same-capacity at (chained (too-long-answer T i m buffer out r wrote) decided)),
        (λ bytes r j. rw same-capacity at (too-long-verdict i m q e may large some bytes r j)),
      )

module _ (T : TagType) (L : Laws T) where
  pub tells : (m j gathering gathered part : List ℕ) (r : Result code.Report Refusal) → Read T.reading j gathering r gathered → Showed j gathered r part
      → (r ≡ Err ShortGatheringBuffer → ⊥) → held T j ≡ holds m → Tells m r part
  tells m j gathering gathered part r (a, b) s n h = go (T.reading j) refl
    where
      go : (v : Reading) → T.reading j ≡ v → Tells m r part
      go (unreadable f) q = let z : broken ≡ holds m = sym (ap held_of q) ∙ h in absurd (nope (cc))
      go (reads p) q = by-content p.content refl
        where
          by-content : (k : Content) → p.content ≡ k → Tells m r part
          by-content empty w = let z : nothing ≡ holds m = rw w at (sym (ap held_of q) ∙ h) in absurd (nope (cc))
          by-content being-written w = let z : nothing ≡ holds m = rw w at (sym (ap held_of q) ∙ h) in absurd (nope (cc))
          by-content message w = by-room (too_short (length gathering) p) refl
            where
              by-room : (x : Bool) → too_short (length gathering) p ≡ x → Tells m r part
              by-room true t = absurd (n (named-refusal r ShortGatheringBuffer (unread-is r short_gathering_buffer (reads-answer T j gathering r a p q true t))))
              by-room false t =
                  let z : holds p.bytes ≡ holds m = rw w at (sym (ap held_of q) ∙ h) in
                  let bytes : p.bytes ≡ m = cc in
                  let answered : read_as r ≡ answer message p.address (length p.bytes) p.interrupted p.writable p.capacity
                  = rw w at (reads-answer T j gathering r a p q false t) in
                  let part-is : part ≡ p.bytes = s ∙ ap₂ (λ x y. shown j x y) b a ∙ (demand2.claim T L).shown_is j gathering p q t in
                  told m r part p.address (length p.bytes) p.interrupted p.writable p.capacity answered (ap length bytes) (part-is ∙ bytes)

  pub unreadable-answer : (i gathering gathered : List ℕ) (r : Result code.Report Refusal) → Read T.reading i gathering r gathered
      → (n : ℕ) → T.reading i ≡ unreadable n → RefusesWith r n × (1 ≤ n) × (n ≤ 8)
  unreadable-answer i gathering gathered r (a, b) n q =
      let k = L.numbered i n q in
      (unread-is r n (a ∙ ap (answer_of (length gathering)) q), k.0, k.1)

  -- given the commands written, the model stores each and leaves a tag that holds the message
  taken : (i m buffer out : List ℕ) (n : ℕ) → Wrote T i m buffer (Ok n) out
      → (rs : List (Result (Unit {0}) Refusal)) (j : List ℕ) → Run T i (pieces T i (take (length (our_bytes T i m)) out)) rs j
      → (rs ≡ replicate n (Ok tt)) × (held T j ≡ holds m)
  taken i m buffer out n wrote rs j run =
      let ready = counted_ready T i m buffer out n wrote in
      let w = ready-written T i m ready in
      let (k, o, front) = wrote-ours T i m w buffer out n wrote in
      let d = demand3.claim T L i m ready in
      let ours = our_bytes T i m in
      let judged-ours : judged T i m ours ≡ accepted n = d.ours ∙ ap accepted k in
      let all : length (pieces T i ours) ≡ n = sym (length-map (pieces T i ours) (T.command i)) ∙ sym ((d.exactly ours n).0 judged-ours).0 in
      let every : take n (pieces T i ours) ≡ pieces T i ours = take_all n (pieces T i ours) (omega arith) in
      let run' : Run T i (take n (pieces T i ours)) rs j = rw every (rw front at run) in
      let (stored, left) = (by-contract T i m d w).followed ours n (sym judged-ours) n (omega arith) rs j run' in
      (stored, ap (held T) left ∙ ((demand2.claim T L).written_reads (length buffer) n i m ours o).1)

  pub written-tells : (i m buffer out : List ℕ) (n : ℕ) → Wrote T i m buffer (Ok n) out
      → (rs : List (Result (Unit {0}) Refusal)) (j : List ℕ) → Run T i (pieces T i (take (length (our_bytes T i m)) out)) rs j
      → (rs ≡ replicate n (Ok tt))
      × (
      (gathering gathered part : List ℕ) (r : Result code.Report Refusal) → Read T.reading j gathering r gathered → Showed j gathered r part
      → (r ≡ Err ShortGatheringBuffer → ⊥) → Tells m r part)
  written-tells i m buffer out n wrote rs j run =
      let (stored, h) = taken i m buffer out n wrote rs j run in
      (stored, λ gathering gathered part r a s x. tells m j gathering gathered part r a s x h)
