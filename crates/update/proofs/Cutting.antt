-- The commands of a list, as an iterator gives them: the next one and the rest.
-- Assumes nothing.
use Rattle.std.proofs.Common.{◌≡◌, ℕ, zero, suc, ◌<◌, ◌≤◌, List, [], ◌∷◌, length, take, drop, min, refl, ap, ◌∙◌, sym, arith, inl, inr}
use Rattle.std.specs.Prelude.{Bool, true, false, eqb}
use Rattle.std.proofs.lemmas.List.{take_min, drop_all, nil_from_length}
use Rattle.std.proofs.lemmas.Bool.{cases_lt}
use Rattle.tag.specs.TagType.{TagType, pieces, split_list}
use Rattle.tag.proofs.Pieces.{cut-none, cut-more}

-- the rest behind a command that may be cut short
drop_min : (n : ℕ) (xs : List ℕ) → drop (min n (length xs)) xs ≡ drop n xs
drop_min n xs = elim (cases_lt n (length xs)) [
  | inl h ↦ ap (λ k. drop k xs) (omega arith)
  | inr h ↦ let e : min n (length xs) ≡ length xs = omega arith in rw e (drop_all (length xs) xs (omega arith) ∙ sym (drop_all n xs h))
]

pub pieces-none : (T : TagType) (i bytes : List ℕ) → length bytes ≡ 0 → pieces T i bytes ≡ []
pieces-none T i bytes h = rw (nil_from_length bytes h) (cut-none (T.span i) 0)

pub pieces-step : (T : TagType) (i : List ℕ) (some : (bytes : List ℕ) → 0 < T.span i bytes) (bytes : List ℕ) → 0 < length bytes
    → pieces T i bytes ≡ take (min (T.span i bytes) (length bytes)) bytes ∷ pieces T i (drop (min (T.span i bytes) (length bytes)) bytes)
pieces-step T i some bytes h =
    rw (take_min, drop_min)
    (cut-more (T.span i) some (length bytes) (length (drop (T.span i bytes) bytes)) bytes h (omega arith) (omega arith))

-- there are at most as many commands as bytes
few : (span : List ℕ → ℕ) (fuel : ℕ) (bytes : List ℕ) → length (split_list span fuel bytes) ≤ fuel
unfolding split_list
few span zero bytes = omega arith
few span (suc fuel) bytes = go (few span fuel (drop (span bytes) bytes)) (eqb (length bytes) 0) refl
  where
    go : length (split_list span fuel (drop (span bytes) bytes)) ≤ fuel → (b : Bool) → eqb (length bytes) 0 ≡ b → length (split_list span (suc fuel) bytes) ≤ suc fuel
    go h true q = rw (q, split_list) (omega arith)
    go h false q = rw (q, split_list) (omega arith)

pub pieces-few : (T : TagType) (i bytes : List ℕ) → length (pieces T i bytes) ≤ length bytes
pieces-few T i bytes = few (T.span i) (length bytes) bytes
