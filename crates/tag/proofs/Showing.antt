-- The part shown is the message, whether it lies in the image or in the gathering buffer. The answer of reading and that part
-- therefore determine what the tag holds.
-- Assumes nothing.
use mathlib.Core.Path.{◌≡◌, refl, sym, ap, ◌∙◌}
use mathlib.Core.Bool.{Bool, true, false, cond, and-false}
use mathlib.Core.List.{List, [], ◌∷◌}
use Prim.Native.Nat.{ℕ, ◌+◌, ◌≤◌}
use native.Mathlib.Omega.{arith}
use borrow.Author.Tests.{ltb-false, le-leb, lt-ltb, le-ltb}
use lib.ListN.{length, drop, length-append}
use lib.Seq.{take-append_seam}
use Rattle.std.specs.Prelude.{Result}
use Rattle.tag.specs.declared.Report as code
use Rattle.tag.specs.declared.refusals.Refusal as refusals
use Rattle.tag.specs.Bytes.{overwrite}
use Rattle.tag.specs.Reading.{Content, message, empty, being-written, Report, Reading, unreadable, reads, too_short, Answer, refusal, answer, answer_of, gathered_into, part, shown, Held, broken, nothing, holds, held_of}
use Rattle.tag.specs.TagType.{TagType, held}
use Rattle.tag.specs.Answers.{held_by, is_message}
use Rattle.tag.specs.PublicContracts.{Read}
use Rattle.tag.specs.Views.Held.{with_capacity, ReadHeld}
use Rattle.tag.proofs.Logic.{nope}
use Rattle.tag.proofs.Laws.{Laws}

-- the front of a buffer is what was written over it
part-front : (bytes buffer : List ℕ) → length bytes ≤ length buffer → part 0 (length bytes) (overwrite bytes buffer) ≡ bytes
part-front bytes buffer l =
    let k : 0 + length bytes ≤ length (overwrite bytes buffer) = rw length-append (omega arith) in
    rw (le-leb (0 + length bytes) (length (overwrite bytes buffer)) k) (take-append_seam bytes (drop (length bytes) buffer))

-- a buffer as long as the message is not too short
pub roomy : (buffer : List ℕ) (p : Report) → length p.bytes ≤ length buffer → too_short (length buffer) p ≡ false
roomy buffer p l = rw (le-ltb (length buffer) (length p.bytes) l) (and-false p.interrupted)

-- an empty buffer stays empty
pub gathered_none : (v : Reading) → gathered_into [] v ≡ []
gathered_none (unreadable r) = refl
gathered_none (reads p) = go p.interrupted refl p.bytes refl
  where
    go : (b : Bool) → p.interrupted ≡ b → (bs : List ℕ) → p.bytes ≡ bs → gathered_into [] (reads p) ≡ []
    go false q bs e = rw q
    go true q [] e = rw (q, e)
    go true q (x ∷ bs) e = rw (q, e, lt-ltb 0 (length (x ∷ bs)) (omega arith))

-- a message that is not interrupted needs no buffer
module _ (v : Reading) (plain : (p : Report) → v ≡ reads p → p.interrupted ≡ false) where
  pub plain-answer : (n k : ℕ) → answer_of n v ≡ answer_of k v
  plain-answer n k = go v plain
    where
      go : (x : Reading) → ((p : Report) → x ≡ reads p → p.interrupted ≡ false) → answer_of n x ≡ answer_of k x
      go (unreadable r) h = refl
      go (reads p) h = rw (h p refl)

  pub plain-buffer : (buffer : List ℕ) → gathered_into buffer v ≡ buffer
  plain-buffer buffer = go v plain
    where
      go : (x : Reading) → ((p : Report) → x ≡ reads p → p.interrupted ≡ false) → gathered_into buffer x ≡ buffer
      go (unreadable r) h = refl
      go (reads p) h = rw (h p refl)

-- ---- what a tag holds does not depend on its capacity

same-capacity : (v : Reading) → (c : ℕ) × (with_capacity c v ≡ v)
same-capacity (unreadable r) = (0, refl)
same-capacity (reads p) = (p.capacity, refl)

pub read_held : (reading : List ℕ → Reading) (i buffer : List ℕ) (r : Result code.Report refusals.Refusal) (out : List ℕ) → Read reading i buffer r out → ReadHeld reading i buffer r out
read_held reading i buffer r out h = let (c, e) = same-capacity (reading i) in (c, rw e h)

module _ (c : ℕ) where
  held-alike : (v : Reading) (n : ℕ) (part : List ℕ) → held_by (answer_of n (with_capacity c v)) part ≡ held_by (answer_of n v) part
  held-alike (unreadable r) n part = refl
  held-alike (reads p) n part = go (too_short n p) refl
    where
      go : (b : Bool) → too_short n p ≡ b → held_by (answer_of n (with_capacity c (reads p))) part ≡ held_by (answer_of n (reads p)) part
      go true q = rw q
      go false q = rw q

  shown-alike : (i g : List ℕ) (v : Reading) (n : ℕ) → shown i g (answer_of n (with_capacity c v)) ≡ shown i g (answer_of n v)
  shown-alike i g (unreadable r) n = refl
  shown-alike i g (reads p) n = go (too_short n p) refl p.content refl
    where
      go : (b : Bool) → too_short n p ≡ b → (k : Content) → p.content ≡ k → shown i g (answer_of n (with_capacity c (reads p))) ≡ shown i g (answer_of n (reads p))
      go true q k e = rw q
      go false q message e = rw (q, e)
      go false q empty e = rw (q, e)
      go false q being-written e = rw (q, e)

  gathered-alike : (v : Reading) (buffer : List ℕ) → gathered_into buffer (with_capacity c v) ≡ gathered_into buffer v
  gathered-alike (unreadable r) buffer = refl
  gathered-alike (reads p) buffer = refl

  -- so a law about reading holds of an answer with any capacity
  pub held_any : (i before after : List ℕ) (v : Reading) (a : Answer) (part : List ℕ) (h : Held)
      → ((g x : List ℕ) → g ≡ gathered_into before v → x ≡ shown i g (answer_of (length before) v) → held_by (answer_of (length before) v) x ≡ h)
      → a ≡ answer_of (length before) (with_capacity c v) → after ≡ gathered_into before (with_capacity c v) → part ≡ shown i after a
      → held_by a part ≡ h
  held_any i before after v a part h law e g s =
      ap (λ x. held_by x part) e ∙ held-alike v (length before) part
      ∙ law after part (g ∙ gathered-alike v before) (s ∙ ap (shown i after) e ∙ shown-alike i after v (length before))

-- the old message, of a tag that reads
old-held : (a : Answer) (part : List ℕ) → (held_by a part ≡ broken → ⊥) → cond (is_message a) (holds part) nothing ≡ held_by a part
old-held (refusal r) part n = absurd (n refl)
old-held (answer message a n interrupted w c) part h = refl
old-held (answer empty a n interrupted w c) part h = refl
old-held (answer being-written a n interrupted w c) part h = refl

pub old_is : (a : Answer) (present : Bool) (part : List ℕ) (h : Held) → present ≡ is_message a → held_by a part ≡ h → (h ≡ broken → ⊥) → cond present (holds part) nothing ≡ h
old_is a present part h e q n = ap (λ b. cond b (holds part) nothing) e ∙ old-held a part (λ z. n (sym q ∙ z)) ∙ q

module _ (T : TagType) (L : Laws T) where
  pub shown-part : (i buffer : List ℕ) (p : Report) → T.reading i ≡ reads p → too_short (length buffer) p ≡ false
      → shown i (gathered_into buffer (reads p)) (answer_of (length buffer) (reads p)) ≡ p.bytes
  shown-part i buffer p e f = rw f (go p.content refl p.interrupted refl)
    where
      go : (w : Content) → p.content ≡ w → (b : Bool) → p.interrupted ≡ b
          → shown i (cond p.interrupted (overwrite p.bytes buffer) buffer) (answer p.content p.address (length p.bytes) p.interrupted p.writable p.capacity) ≡ p.bytes
      go message q true r =
          let l : length p.bytes ≤ length buffer = ltb-false (length buffer) (length p.bytes) (rw r at f) in
          rw (q, r) (part-front p.bytes buffer l)
      go message q false r = rw (q, r) (L.in_place i p e q r)
      go empty q b r = rw q (sym (L.wordless i p e (λ z. let y : empty ≡ message = sym q ∙ z in nope (cc))))
      go being-written q b r = rw q (sym (L.wordless i p e (λ z. let y : being-written ≡ message = sym q ∙ z in nope (cc))))

  -- where the gathering buffer is never too short, the tag holds what its answer and the part shown say
  pub held-shown : (i buffer : List ℕ) → ((p : Report) → T.reading i ≡ reads p → too_short (length buffer) p ≡ false)
      → held_by (answer_of (length buffer) (T.reading i)) (shown i (gathered_into buffer (T.reading i)) (answer_of (length buffer) (T.reading i))) ≡ held T i
  held-shown i buffer fits = go (T.reading i) refl
    where
      go : (v : Reading) → T.reading i ≡ v
          → held_by (answer_of (length buffer) v) (shown i (gathered_into buffer v) (answer_of (length buffer) v)) ≡ held_of v
      go (unreadable r) q = refl
      go (reads p) q =
          let f : too_short (length buffer) p ≡ false = fits p q in
          let s : shown i (gathered_into buffer (reads p)) (answer_of (length buffer) (reads p)) ≡ p.bytes = shown-part i buffer p q f in
          ap (held_by (answer_of (length buffer) (reads p))) s ∙ rw f
