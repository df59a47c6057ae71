-- What a Type 6 tag holds is what reading answers and shows. Its message is never interrupted, so no gathering buffer matters.
-- Assumes nothing.
use mathlib.Core.Path.{◌≡◌, refl, sym, ap, ◌∙◌}
use mathlib.Core.Bool.{Bool, false}
use mathlib.Core.List.{List}
use Prim.Native.Nat.{ℕ, zero, suc}
use lib.ListN.{length}
use Rattle.tag.specs.Reading.{Report, reads, Answer, answer_of, gathered_into, shown, held_of}
use Rattle.tag.specs.Answers.{held_by}
use Rattle.tag.proofs.Showing.{held-shown}
use Rattle.type6.specs.Container.{file_at, capacity, nlen, may_write}
use Rattle.type6.specs.Message.{report_of, reading}
use Rattle.type6.specs.Type6.{type6}
use Rattle.type6.proofs.Message.{report-is}
use Rattle.type6.proofs.Laws.{type6-laws}

pub plain : (i : List ℕ) (p : Report) → reading i ≡ reads p → p.interrupted ≡ false
plain i p e = ap (λ x. x.interrupted) (sym (report-is i p e).1) ∙ go (may_write i) (capacity i) (file_at i) (nlen i)
  where
    go : (w : Bool) (c f n : ℕ) → (report_of w c f i n).interrupted ≡ false
    go w c f zero = refl
    go w c f (suc n) = refl

pub held-read : (i before after : List ℕ) (a : Answer) (part : List ℕ)
    → a ≡ answer_of (length before) (reading i) → after ≡ gathered_into before (reading i) → part ≡ shown i after a
    → held_by a part ≡ held_of (reading i)
held-read i before after a part e g s = rw (s, g, e) (held-shown type6 type6-laws i before (λ p q. rw (plain i p q)))
