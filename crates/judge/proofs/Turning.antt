-- The judge along the commands of a list that are left: the answer about the next one decides whether it goes on.
-- Assumes nothing.
use mathlib.Core.Path.{◌≡◌, refl, ap, ◌∙◌}
use mathlib.Core.Bool.{Bool, true, false}
use mathlib.Core.List.{List, [], ◌∷◌, map}
use Prim.Native.Nat.{ℕ, suc, ◌+◌}
use native.Mathlib.Numerals.{add-one}
use Rattle.std.specs.Prelude.{Result, Ok, Err}
use Rattle.tag.specs.declared.refusals.Refusal as refusals
use Rattle.tag.specs.Refusals.{unfinished}
use Rattle.tag.specs.Stores.{Command, malformed, stores, puts, tag_after}
use Rattle.tag.specs.TagType.{TagType, held, pieces}
use Rattle.tag.specs.Judge.{Verdict, accepted, refused, Task, holds_as, is_safe, keeps, fault, judge, task, judge_by, judged}
use Rattle.tag.specs.Cuts.{Ready}
use Rattle.tag.specs.Answers.{number_of}
use Rattle.tag.proofs.Judging.{judge-good, judge-bad}
use Rattle.tag.proofs.Laws.{ready-written}
use Rattle.judge.specs.Views.Steps.{tested}

module _ (T : TagType) (i m : List ℕ) where
  abbrev t : Task
  t = task T i m

  -- the verdict on the commands that are left
  abbrev pub rest : ℕ → List ℕ → List (List ℕ) → Verdict
  rest n j left = judge t n j (map (T.command i) left)

  pub rest-all : Ready T i m → (bytes : List ℕ) → judged T i m bytes ≡ rest 0 i (pieces T i bytes)
  rest-all r bytes = ap (judge_by T i m bytes) (ready-written T i m r)

  pub rest-good : (n : ℕ) (j : List ℕ) (left : List (List ℕ)) → left ≡ [] → holds_as (held T j) m ≡ true → rest n j left ≡ accepted n
  rest-good n j left e h = ap (rest n j) e ∙ judge-good t n j h

  pub rest-bad : (n : ℕ) (j : List ℕ) (left : List (List ℕ)) → left ≡ [] → holds_as (held T j) m ≡ false → rest n j left ≡ refused unfinished n
  rest-bad n j left e h = ap (rest n j) e ∙ judge-bad t n j h

  -- the verdict after the answer about command n, which leaves the tag j
  abbrev after : ℕ → List ℕ → List Command → Result (Unit {0}) refusals.Refusal → Verdict
  after n j cs (Ok u) = judge t (suc n) j cs
  after n j cs (Err e) = refused (number_of e) n

  turn : (n : ℕ) (j : List ℕ) (c : Command) (cs : List Command) → judge t n j (c ∷ cs) ≡ after n (tag_after j c) cs (tested T i m j c)
  unfolding judge fault
  turn n j malformed cs = refl
  turn n j (stores ss) cs = go (keeps t (puts j ss)) refl (is_safe t (held T (puts j ss))) refl
    where
      go : (k : Bool) → keeps t (puts j ss) ≡ k → (s : Bool) → is_safe t (held T (puts j ss)) ≡ s
          → judge t n j (stores ss ∷ cs) ≡ after n (puts j ss) cs (tested T i m j (stores ss))
      go false p s q = rw (p, judge, fault)
      go true p false q = rw (p, q, judge, fault)
      go true p true q = rw (p, q, judge, fault)

  module _ (n : ℕ) (j : List ℕ) (left : List (List ℕ)) (command : List ℕ) (behind : List (List ℕ)) (next : left ≡ command ∷ behind) where
    pub rest-stop : (e : refusals.Refusal) → tested T i m j (T.command i command) ≡ Err e → rest n j left ≡ refused (number_of e) n
    rest-stop e q =
        ap (rest n j) next
        ∙ turn n j (T.command i command) (map (T.command i) behind)
        ∙ ap (after n (tag_after j (T.command i command)) (map (T.command i) behind)) q

    pub rest-next : tested T i m j (T.command i command) ≡ Ok tt → rest n j left ≡ rest (n + 1) (tag_after j (T.command i command)) behind
    rest-next q =
        ap (rest n j) next
        ∙ turn n j (T.command i command) (map (T.command i) behind)
        ∙ ap (after n (tag_after j (T.command i command)) (map (T.command i) behind)) q
        ∙ rw add-one
