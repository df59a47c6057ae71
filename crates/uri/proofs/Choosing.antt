-- The longest prefix that is a beginning of a URI.
-- Assumes nothing.
use mathlib.Core.Path.{◌≡◌, refl, sym, ap, ◌∙◌}
use mathlib.Core.Bool.{Bool, true, false, ◌&&◌, cond}
use mathlib.Core.List.{List, [], ◌++◌}
use Prim.Native.Nat.{ℕ, zero, suc, ◌+◌, ◌≤◌, ◌<◌}
use native.Mathlib.Omega.{arith}
use native.Mathlib.Numerals.{add-one}
use lib.Dec.{ltb, eqb}
use lib.ListN.{length, take, drop, take-append-drop}
use lib.Seq.{take_all}
use borrow.Author.Tests.{ltb-true, ltb-false, lt-ltb, le-ltb, eqb-true, eqb-false}
use Rattle.tag.proofs.Logic.{same-eq, true-false}
use Rattle.tag.proofs.Same.{same-lengths}
use Rattle.uri.specs.Prefixes.{codes, prefixes, prefix}
use Rattle.uri.specs.Payload.{begins, longest_of, longest}

-- ---- beginnings

-- a beginning is no longer than the whole
pub begins-too_short : (p u : List ℕ) → length u < length p → begins p u ≡ false
unfolding begins
begins-too_short p u h = rw (take_all (length p) u (omega arith)) (same-lengths p u (λ e. omega arith))

pub begins-inside : (p u : List ℕ) → begins p u ≡ true → length p ≤ length u
begins-inside p u e = go (ltb (length u) (length p)) refl
  where
    go : (b : Bool) → ltb (length u) (length p) ≡ b → length p ≤ length u
    go true q = absurd (true-false e (begins-too_short p u (ltb-true (length u) (length p) q)))
    go false q = ltb-false (length u) (length p) q

-- and the rest follows it
pub begins-whole : (p u : List ℕ) → begins p u ≡ true → p ++ drop (length p) u ≡ u
unfolding begins
begins-whole p u e = ap (λ front. front ++ drop (length p) u) (same-eq p (take (length p) u) e) ∙ take-append-drop (length p) u

empty-begins : (u : List ℕ) → begins [] u ≡ true
unfolding begins
empty-begins u = refl

-- ---- one more prefix

module _ (n : ℕ) (u : List ℕ) where
  abbrev new : List ℕ
  new = prefix n

  abbrev old : List ℕ
  old = prefix (longest_of n u)

  no_longer : length new ≤ length old → longest_of (suc n) u ≡ longest_of n u
  unfolding longest_of
  no_longer h = go (begins new u)
    where
      go : (b : Bool) → cond (b && ltb (length old) (length new)) n (longest_of n u) ≡ longest_of n u
      go true = rw (le-ltb (length old) (length new) h)
      go false = refl

  no-beginning : begins new u ≡ false → longest_of (suc n) u ≡ longest_of n u
  unfolding longest_of
  no-beginning e = rw e

  longer : begins new u ≡ true → length old < length new → longest_of (suc n) u ≡ n
  unfolding longest_of
  longer e h = rw (e, lt-ltb (length old) (length new) h)

-- ---- what is chosen

-- the choice among the first n prefixes
pub record Chosen (n : ℕ) (u : List ℕ) (c : ℕ) : Type 0 where
  pub known : c < codes
  pub begins-it : begins (prefix c) u ≡ true
  pub none_longer : (k : ℕ) → k < n → begins (prefix k) u ≡ true → length (prefix k) ≤ length (prefix c)

none-chosen : (u : List ℕ) → Chosen 0 u 0
unfolding prefixes
none-chosen u = record { known = omega arith; begins-it = empty-begins u; none_longer = λ k h e. absurd (omega arith) }

-- one prefix more: either it is not longer or no beginning, or it is chosen
module _ {n : ℕ} {u : List ℕ} {c : ℕ} (w : Chosen n u c) where
  up_to : (d : ℕ) → length (prefix c) ≤ length (prefix d) → (begins (prefix n) u ≡ true → length (prefix n) ≤ length (prefix d))
      → (k : ℕ) → k < suc n → begins (prefix k) u ≡ true → length (prefix k) ≤ length (prefix d)
  up_to d l last k h b = go (eqb k n) refl
    where
      go : (t : Bool) → eqb k n ≡ t → length (prefix k) ≤ length (prefix d)
      go true q = let e : k ≡ n = eqb-true k n q in rw e (last (rw e at b))
      go false q = let f : k ≡ n → ⊥ = eqb-false k n q in omega (arith, l, w.none_longer k (omega (arith, f)) b)

  kept-choice : (begins (prefix n) u ≡ true → length (prefix n) ≤ length (prefix c)) → Chosen (suc n) u c
  kept-choice last = record { known = w.known; begins-it = w.begins-it; none_longer = up_to c (omega arith) last }

  new-choice : n < codes → begins (prefix n) u ≡ true → length (prefix c) < length (prefix n) → Chosen (suc n) u n
  new-choice h b l = record { known = h; begins-it = b; none_longer = up_to n (omega arith) (λ e. omega arith) }

pub chosen : (n : ℕ) (u : List ℕ) → n ≤ codes → Chosen n u (longest_of n u)
unfolding longest_of
chosen zero u h = none-chosen u
chosen (suc n) u h = go (begins (prefix n) u) (ltb (length (prefix (longest_of n u))) (length (prefix n))) refl refl (chosen n u (omega arith))
  where
    go : (b l : Bool) → begins (prefix n) u ≡ b → ltb (length (prefix (longest_of n u))) (length (prefix n)) ≡ l → Chosen n u (longest_of n u)
        → Chosen (suc n) u (longest_of (suc n) u)
    go true true q r w = rw (longer n u q (ltb-true _ _ r)) (new-choice w (omega arith) q (ltb-true _ _ r))
    go true false q r w = rw (no_longer n u (ltb-false _ _ r)) (kept-choice w (λ e. ltb-false _ _ r))
    go false l q r w = rw (no-beginning n u q) (kept-choice w (λ e. absurd (true-false e q)))

-- the choice among all of them
module _ (u : List ℕ) where
  abbrev pub all-chosen : Chosen codes u (longest u)
  all-chosen = chosen codes u (omega arith)

  -- the rest of u follows the prefix
  pub prefix-rest : prefix (longest u) ++ drop (length (prefix (longest u))) u ≡ u
  prefix-rest = begins-whole (prefix (longest u)) u all-chosen.begins-it

  pub longest_inside : length (prefix (longest u)) ≤ length u
  longest_inside = begins-inside (prefix (longest u)) u all-chosen.begins-it

-- ---- as the code goes through them

-- the choice among the first n, and the length of its prefix
abbrev pub Best : ℕ → List ℕ → ℕ → ℕ → Type 0
Best n u best len = (best ≡ longest_of n u) × (len ≡ length (prefix (longest_of n u)))

module _ (n : ℕ) (u : List ℕ) (best len : ℕ) (w : Best n u best len) (p : List ℕ) (e : p ≡ prefix n) where
  kept : longest_of (suc n) u ≡ longest_of n u → Best (n + 1) u best len
  kept q = rw (add-one, q) w

  pub best_new : len < length p → begins p u ≡ true → Best (n + 1) u n (length p)
  best_new h b =
      let q : longest_of (suc n) u ≡ n = longer n u (ap (λ r. begins r u) (sym e) ∙ b) (omega (arith, w.1, ap length e, h)) in
      rw (add-one, q) (refl, ap length e)

  pub best_not_longer : length p ≤ len → Best (n + 1) u best len
  best_not_longer h = kept (no_longer n u (omega (arith, w.1, ap length e, h)))

  pub best_no_beginning : len < length p → begins p u ≡ false → Best (n + 1) u best len
  best_no_beginning h b = kept (no-beginning n u (ap (λ r. begins r u) (sym e) ∙ b))
