-- Two lists of bytes compared: lists of different lengths differ, and a list may be compared in two parts.
-- Assumes nothing.
use mathlib.Core.Path.{◌≡◌, refl, sym, ap, ◌∙◌}
use mathlib.Core.Bool.{Bool, true, false, not, ◌&&◌, ◌||◌, and-false, and_assoc}
use mathlib.Core.List.{List, [], ◌∷◌, ◌++◌}
use Prim.Native.Nat.{ℕ, suc, ◌+◌, ◌<◌}
use native.Mathlib.Numerals.{add-one}
use native.Mathlib.Omega.{arith}
use lib.Dec.{eqb}
use lib.ListN.{length, take}
use lib.Seq.{take-suc, length-take-le}
use Rattle.tag.specs.Bytes.{byte, same}

pub same-lengths : (a b : List ℕ) → (length a ≡ length b → ⊥) → same a b ≡ false
same-lengths [] [] h = absurd (h refl)
same-lengths [] (y ∷ b) h = refl
same-lengths (x ∷ a) [] h = refl
same-lengths (x ∷ a) (y ∷ b) h = rw (same-lengths a b (λ e. h (ap suc e))) (and-false (eqb x y))

pub same-append : (x y u v : List ℕ) → length x ≡ length u → same (x ++ y) (u ++ v) ≡ same x u && same y v
same-append [] y [] v h = refl
same-append [] y (c ∷ u) v h = absurd (omega arith)
same-append (a ∷ x) y [] v h = absurd (omega arith)
same-append (a ∷ x) y (c ∷ u) v h = rw (same-append x y u v (omega arith)) (sym (and_assoc (eqb a c) (same x u) (same y v)))

-- ---- a loop that compares byte by byte

either-differs : (p q : Bool) → not p || not q ≡ not (p && (q && true))
either-differs true true = refl
either-differs true false = refl
either-differs false true = refl
either-differs false false = refl

same-more : (a b : List ℕ) (k : ℕ) → length a ≡ length b → k < length a
    → same (take (k + 1) a) (take (k + 1) b) ≡ same (take k a) (take k b) && (eqb (byte a k) (byte b k) && true)
same-more a b k e h =
    rw (add-one, take-suc a k 0 h, take-suc b k 0 (omega (arith, e)))
    (same-append (take k a) (byte a k ∷ []) (take k b) (byte b k ∷ []) (length-take-le k a (omega arith) ∙ sym (length-take-le k b (omega (arith, e)))))

-- one turn of the loop, with the flag d
pub same_turn : (a b : List ℕ) (k : ℕ) (d : Bool) → length a ≡ length b → k < length a → d ≡ not (same (take k a) (take k b))
    → d || not (eqb (byte a k) (byte b k)) ≡ not (same (take (k + 1) a) (take (k + 1) b))
same_turn a b k d e h i =
    ap (λ x. x || not (eqb (byte a k) (byte b k))) i
    ∙ either-differs (same (take k a) (take k b)) (eqb (byte a k) (byte b k))
    ∙ sym (ap not (same-more a b k e h))
