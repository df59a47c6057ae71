-- The judge along a list, step by step, for the proofs of the code that computes it. The tests give a command's fault, and the
-- first command's fault gives the judge's next step.
-- Assumes nothing.
use mathlib.Core.Path.{◌≡◌, refl}
use mathlib.Core.Bool.{true, false}
use mathlib.Core.List.{List, [], ◌∷◌}
use Prim.Native.Nat.{ℕ, zero, suc}
use Rattle.tag.specs.Refusals.{malformed_command, protected_byte, misread, unfinished}
use Rattle.tag.specs.Stores.{Store, Command, malformed, stores, puts, tag_after}
use Rattle.tag.specs.Judge.{accepted, refused, Task, holds_as, is_safe, keeps, fault, judge}

module _ (t : Task) where
  pub fault-malformed : (j : List ℕ) → fault t j malformed ≡ malformed_command
  unfolding fault
  fault-malformed j = refl

  pub fault-change : (j : List ℕ) (ss : List Store) → keeps t (puts j ss) ≡ false → fault t j (stores ss) ≡ protected_byte
  unfolding fault
  fault-change j ss k = rw (k, fault)

  pub fault-misread : (j : List ℕ) (ss : List Store) → keeps t (puts j ss) ≡ true → is_safe t (t.held (puts j ss)) ≡ false → fault t j (stores ss) ≡ misread
  unfolding fault
  fault-misread j ss k r = rw (k, r, fault)

  pub judge-next : (n : ℕ) (j : List ℕ) (c : Command) (cs : List Command) → fault t j c ≡ 0 → judge t n j (c ∷ cs) ≡ judge t (suc n) (tag_after j c) cs
  unfolding judge
  judge-next n j c cs e = rw (e, judge)

  pub judge-stop : (n : ℕ) (j : List ℕ) (c : Command) (cs : List Command) → (fault t j c ≡ 0 → ⊥) → judge t n j (c ∷ cs) ≡ refused (fault t j c) n
  unfolding judge
  judge-stop n j c cs e = go (fault t j c) refl
    where
      go : (f : ℕ) → fault t j c ≡ f → judge t n j (c ∷ cs) ≡ refused (fault t j c) n
      go zero q = absurd (e q)
      go (suc f) q = rw (q, judge)

  pub judge-good : (n : ℕ) (j : List ℕ) → holds_as (t.held j) t.wanted ≡ true → judge t n j [] ≡ accepted n
  unfolding judge
  judge-good n j e = rw (e, judge)

  pub judge-bad : (n : ℕ) (j : List ℕ) → holds_as (t.held j) t.wanted ≡ false → judge t n j [] ≡ refused unfinished n
  unfolding judge
  judge-bad n j e = rw (e, judge)
