-- The answer of reading and the part shown say what a tag holds, where every interrupted message fits the gathering buffer.
-- Assumes nothing.
use mathlib.Core.Path.{◌≡◌, refl}
use mathlib.Core.Bool.{Bool, true, false}
use mathlib.Core.List.{List}
use Prim.Native.Nat.{ℕ, ◌≤◌}
use native.Mathlib.Omega.{arith}
use lib.ListN.{length}
use Rattle.std.specs.Prelude.{Result}
use Rattle.tag.specs.declared.Report as code
use Rattle.tag.specs.declared.refusals.Refusal as refusals
use Rattle.tag.specs.Reading.{Report, reads, too_short, Answer, answer_of, gathered_into, shown}
use Rattle.tag.specs.Answers.{read_as, held_by}
use Rattle.tag.specs.TagType.{TagType, held}
use Rattle.tag.specs.Views.Held.{ReadHeld}
use Rattle.tag.proofs.Laws.{Laws}
use Rattle.tag.proofs.Showing.{roomy, held-shown, held_any}

module _ (T : TagType) (laws : Laws T) (fits : (i : List ℕ) (p : Report) → T.reading i ≡ reads p → p.interrupted ≡ true → length p.bytes ≤ 1024) where
  enough : (i buffer : List ℕ) → length buffer ≡ 1024 → (p : Report) → T.reading i ≡ reads p → too_short (length buffer) p ≡ false
  enough i buffer l p e = go p.interrupted refl
    where
      go : (b : Bool) → p.interrupted ≡ b → too_short (length buffer) p ≡ false
      go false q = rw q
      go true q = roomy buffer p (omega (arith, fits i p e q))

  pub held-read : (i before after : List ℕ) (a : Answer) (part : List ℕ) → length before ≡ 1024
      → a ≡ answer_of (length before) (T.reading i) → after ≡ gathered_into before (T.reading i) → part ≡ shown i after a
      → held_by a part ≡ held T i
  held-read i before after a part l e g s = rw (s, g, e) (held-shown T laws i before (enough i before l))

  -- the same of an answer that may have another capacity
  pub held-again : (i before after : List ℕ) (r : Result code.Report refusals.Refusal) (part : List ℕ) → length before ≡ 1024
      → ReadHeld T.reading i before r after → part ≡ shown i after (read_as r) → held_by (read_as r) part ≡ held T i
  held-again i before after r part l (c, h) s =
      let v = T.reading i in
      held_any c i before after v (read_as r) part (held T i)
      (λ g x p q. held-read i before g (answer_of (length before) v) x l refl p q) h.0 h.1 s
