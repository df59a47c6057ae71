-- What a Type 3 tag holds is what reading answers and shows. Its message is never interrupted, so no gathering buffer matters.
-- Assumes nothing.
use mathlib.Core.Path.{◌≡◌, refl, sym, ap}
use mathlib.Core.Bool.{false}
use mathlib.Core.List.{List}
use Prim.Native.Nat.{ℕ, zero, suc}
use lib.ListN.{length, replicate}
use Rattle.tag.specs.Reading.{being-written, empty, Report, reads, Answer, answer_of, gathered_into, shown, held_of}
use Rattle.tag.specs.Answers.{held_by}
use Rattle.tag.proofs.Logic.{nope}
use Rattle.tag.proofs.Showing.{held-shown}
use Rattle.type3.specs.AttributeInformation.{may_write}
use Rattle.type3.specs.Message.{Announced, refuse, busy, announced, announce, without, with_message, reading_of, reading}
use Rattle.type3.specs.Type3.{type3}
use Rattle.type3.proofs.Laws.{type3-laws}

pub plain : (i : List ℕ) (p : Report) → reading i ≡ reads p → p.interrupted ≡ false
unfolding reading
plain i p e = go (announce i) e
  where
    go : (v : Announced) → reading_of (may_write i) i v ≡ reads p → p.interrupted ≡ false
    go (refuse r) f = absurd (nope (cc))
    go busy f = let q : without being-written i (may_write i) ≡ p = cc in ap (λ x. x.interrupted) (sym q)
    go (announced zero) f = let q : without empty i (may_write i) ≡ p = cc in ap (λ x. x.interrupted) (sym q)
    go (announced (suc k)) f = let q : with_message (suc k) i (may_write i) ≡ p = cc in ap (λ x. x.interrupted) (sym q)

-- reading does not look at the IDm: any eight bytes will do
pub held-read : (i before after : List ℕ) (a : Answer) (part : List ℕ)
    → a ≡ answer_of (length before) (reading i) → after ≡ gathered_into before (reading i) → part ≡ shown i after a
    → held_by a part ≡ held_of (reading i)
held-read i before after a part e g s =
    rw (s, g, e) (held-shown (type3 (replicate 8 0)) (type3-laws (replicate 8 0) refl) i before (λ p q. rw (plain i p q)))
