-- The code's table is that of the definitions. Both are computed where this law is used.
-- Assumes nothing.
use Rattle.std.proofs.Common.{◌≡◌, List, [], ℕ, ◌<◌, ◌≤◌, length, map, get_or, Bor, Option, Some, None, MatchOption, option_copied, arith, refl, sym, ap, ◌∙◌}
use Rattle.std.specs.Slice.{IsItemAt}
use Rattle.std.proofs.lemmas.List.{get_or-map, length-map}
use Rattle.uri.specs.Prefixes.{codes, prefixes, prefix}

all_there : length prefixes ≡ codes
unfolding prefixes
all_there = refl

module _ (table : List (Bor (List ℕ))) (e : map (λ b. b.now) table ≡ prefixes) where
  pub as_long : length table ≡ codes
  as_long = sym (length-map table (λ b. b.now)) ∙ ap length e ∙ all_there

  pub entry : (k : ℕ) (d : Bor (List ℕ)) → k < codes → (get_or table k d).now ≡ prefix k
  entry k d h = sym (get_or-map (λ (b : Bor (List ℕ)). b.now) table k d [] (omega (arith, as_long))) ∙ ap (λ t. get_or t k []) e

  -- what looking a code up gives
  pub looked_up : (k : ℕ) (r : Option (Bor (Bor (List ℕ)))) → IsItemAt table k r → MatchOption (option_copied r) (codes ≤ k) (λ p. (k < codes) × (p.now ≡ prefix k))
  looked_up k None w = omega (arith, as_long, w.3)
  looked_up k (Some x) w = let h : k < codes = omega (arith, as_long, w.3.0) in (h, ap (λ b. b.now) w.1 ∙ entry k x.now h)
