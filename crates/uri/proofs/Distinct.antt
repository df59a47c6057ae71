-- No two codes have the same prefix: one test, which the checker computes over the whole table, and one law that gives it at each code.
-- Assumes nothing.
use mathlib.Core.Path.{◌≡◌, refl, sym, ap, ◌∙◌}
use mathlib.Core.Bool.{cond}
use mathlib.Core.List.{List, [], ◌∷◌, map}
use Prim.Native.Nat.{ℕ, suc, ◌<◌}
use native.Mathlib.Nat.{zero-add}
use lib.ListN.{get_or, get_or-map}
use Rattle.tag.specs.Bytes.{run, same}
use Rattle.tag.proofs.Runs.{run-nth}
use Rattle.uri.specs.Prefixes.{codes, prefixes, prefix}

-- how many of the texts stand before the first that is p
abbrev before : List ℕ → List (List ℕ) → ℕ
before p [] = 0
before p (q ∷ qs) = cond (same p q) 0 (suc (before p qs))

-- the first code with the prefix p
abbrev code_of : List ℕ → ℕ
code_of p = before p prefixes

each_first : map code_of prefixes ≡ run 0 codes
unfolding prefixes
each_first = refl

code-back : (k : ℕ) → k < codes → code_of (prefix k) ≡ k
code-back k h = sym (get_or-map code_of prefixes k []) ∙ ap (λ cs. get_or cs k (code_of [])) each_first ∙ run-nth codes 0 k (code_of []) h ∙ zero-add k

pub same_code : (j k : ℕ) → j < codes → k < codes → prefix j ≡ prefix k → j ≡ k
same_code j k h l e = sym (code-back j h) ∙ ap code_of e ∙ code-back k l
