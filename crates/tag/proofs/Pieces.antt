-- How a list's bytes are cut into pieces. Pieces that tell their own length, laid end to end, are cut apart again. If every span is
-- at least 1, no byte is lost, and more fuel than needed changes nothing.
-- Assumes nothing.
use mathlib.Core.Path.{◌≡◌, refl, sym, ap, ◌∙◌}
use mathlib.Core.List.{List, [], ◌∷◌, ◌++◌}
use Prim.Native.Nat.{ℕ, zero, suc, ◌<◌, ◌≤◌}
use native.Mathlib.Nat.{not-suc-le-zero}
use native.Mathlib.Omega.{arith}
use borrow.Author.Tests.{ne_eqb}
use lib.ListN.{length, take, drop, length-append, length-drop, take-append-drop}
use lib.Seq.{take_at, drop_at}
use Rattle.tag.specs.TagType.{joined, split_list}
use Rattle.tag.proofs.Each.{Each}

module _ (span : List ℕ → ℕ) where
  -- a piece tells its own length, whatever follows it, and is not empty
  abbrev pub SelfDelimiting : List ℕ → Type 0
  SelfDelimiting b = ((r : List ℕ) → span (b ++ r) ≡ length b) × (0 < length b)

  pub cut-none : (k : ℕ) → split_list span k [] ≡ []
  unfolding split_list
  cut-none zero = refl
  cut-none (suc k) = refl

  -- one step of the cutting, which takes one unit of fuel
  cut_step : (k : ℕ) (bytes : List ℕ) → 0 < length bytes
      → split_list span (suc k) bytes ≡ take (span bytes) bytes ∷ split_list span k (drop (span bytes) bytes)
  unfolding split_list
  cut_step k bytes h = rw (ne_eqb (length bytes) 0 (λ e. omega arith), split_list)

  pub pieces-joined : (bs : List (List ℕ)) (k : ℕ) → Each SelfDelimiting bs → length (joined bs) ≤ k → split_list span k (joined bs) ≡ bs
  pieces-joined [] k h l = cut-none k
  pieces-joined (b ∷ bs) zero h l = absurd (omega (arith, length-append b (joined bs), h.0.1))
  pieces-joined (b ∷ bs) (suc k) h l =
      let more : 0 < length (b ++ joined bs) = omega (arith, length-append b (joined bs), h.0.1) in
      let rest : length (joined bs) ≤ k = omega (arith, length-append b (joined bs), h.0.1) in
      cut_step k (b ++ joined bs) more
      ∙ rw (h.0.0 (joined bs), take_at b (joined bs) (length b) refl, drop_at b (joined bs) (length b) refl)
      (ap (λ r. b ∷ r) (pieces-joined bs k h.1 rest))

  module _ (some : (bytes : List ℕ) → 0 < span bytes) where
    -- a cut shortens what is left
    shorter : (bytes : List ℕ) (k : ℕ) → length bytes ≤ suc k → length (drop (span bytes) bytes) ≤ k
    shorter bytes k l = omega (arith, length-drop (span bytes) bytes, some bytes)

    pub joined-pieces : (k : ℕ) (bytes : List ℕ) → length bytes ≤ k → joined (split_list span k bytes) ≡ bytes
    joined-pieces zero [] l = ap joined (cut-none 0)
    joined-pieces zero (a ∷ bytes) l = absurd (not-suc-le-zero l)
    joined-pieces (suc k) [] l = ap joined (cut-none (suc k))
    joined-pieces (suc k) (a ∷ bytes) l =
        let n : ℕ = span (a ∷ bytes) in
        ap joined (cut_step k (a ∷ bytes) (omega arith))
        ∙ ap (λ r. take n (a ∷ bytes) ++ r) (joined-pieces k (drop n (a ∷ bytes)) (shorter (a ∷ bytes) k l))
        ∙ take-append-drop n (a ∷ bytes)

    cut-fuel : (k k' : ℕ) (bytes : List ℕ) → length bytes ≤ k → length bytes ≤ k' → split_list span k bytes ≡ split_list span k' bytes
    cut-fuel zero k' [] l l' = cut-none 0 ∙ sym (cut-none k')
    cut-fuel zero k' (a ∷ bytes) l l' = absurd (not-suc-le-zero l)
    cut-fuel (suc k) k' [] l l' = cut-none (suc k) ∙ sym (cut-none k')
    cut-fuel (suc k) zero (a ∷ bytes) l l' = absurd (not-suc-le-zero l')
    cut-fuel (suc k) (suc k') (a ∷ bytes) l l' =
        let n : ℕ = span (a ∷ bytes) in
        cut_step k (a ∷ bytes) (omega arith)
        ∙ ap (λ r. take n (a ∷ bytes) ∷ r) (cut-fuel k k' (drop n (a ∷ bytes)) (shorter (a ∷ bytes) k l) (shorter (a ∷ bytes) k' l'))
        ∙ sym (cut_step k' (a ∷ bytes) (omega arith))

    pub cut-more : (k k' : ℕ) (bytes : List ℕ) → 0 < length bytes → length bytes ≤ k → length (drop (span bytes) bytes) ≤ k'
        → split_list span k bytes ≡ take (span bytes) bytes ∷ split_list span k' (drop (span bytes) bytes)
    cut-more zero k' bytes h l l' = absurd (omega arith)
    cut-more (suc k) k' bytes h l l' =
        cut_step k bytes h
        ∙ ap (λ r. take (span bytes) bytes ∷ r) (cut-fuel k k' (drop (span bytes) bytes) (shorter bytes k l) l')
