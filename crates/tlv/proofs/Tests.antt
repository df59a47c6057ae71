-- A search from one tested address to the next: which addresses it tests, and what it passes over.
-- Assumes nothing.
use mathlib.Core.Path.{◌≡◌, refl, sym, ◌∙◌}
use mathlib.Core.List.{List, [], ◌∷◌}
use Prim.Native.Nat.{ℕ, zero, suc, ◌+◌, ◌-◌, ◌<◌, ◌≤◌}
use native.Mathlib.Decide.{dec_lt}
use native.Mathlib.Omega.{arith}
use borrow.Author.Tests.{ne_eqb, eq-eqb, lt-ltb, le-ltb}
use Rattle.tag.specs.Bytes.{byte}
use Rattle.tlv.specs.Views.Table.{unskipped}
use Rattle.tlv.specs.Views.Search.{tests}
use Rattle.tlv.proofs.Skipping.{unskipped-pass, unskipped-end}

-- ---- the addresses tested

pub tests-on : (t : List ℕ) (end fuel a : ℕ) → a < end → 0 < byte t a → tests t end (suc fuel) a ≡ a ∷ tests t end fuel (byte t a)
unfolding tests
tests-on t end fuel a l h = rw (lt-ltb a end l, ne_eqb (byte t a) 0 (λ e. omega arith))

pub tests-found : (t : List ℕ) (end fuel a : ℕ) → a < end → byte t a ≡ 0 → tests t end (suc fuel) a ≡ a ∷ []
unfolding tests
tests-found t end fuel a l h = rw (lt-ltb a end l, eq-eqb (byte t a) 0 h)

pub tests-end : (t : List ℕ) (end fuel a : ℕ) → end ≤ a → tests t end fuel a ≡ []
unfolding tests
tests-end t end zero a l = refl
tests-end t end (suc fuel) a l = rw (le-ltb a end l)

-- ---- what is passed over

-- k addresses passed, all of them skipped
passed-by : (t : List ℕ) (k a n : ℕ) → ((x : ℕ) → a ≤ x → x < a + k → 0 < byte t x) → k ≤ n → unskipped t a n ≡ unskipped t (a + k) (n - k)
passed-by t zero a n h l =
    let e : a + 0 ≡ a = omega arith in
    let f : n - 0 ≡ n = omega arith in
    rw (e, f)
passed-by t (suc k) a n h l =
    let e : a + 1 + k ≡ a + suc k = omega arith in
    let f : n - 1 - k ≡ n - suc k = omega arith in
    unskipped-pass t a n (ne_eqb (byte t a) 0 (λ z. omega (arith, h a (omega arith) (omega arith)))) (omega arith)
    ∙ rw (e, f) at (passed-by t k (a + 1) (n - 1) (λ x p q. h x (omega arith) (omega arith)) (omega arith))

-- from a to the later address b
passed-to-end : (t : List ℕ) (a b end : ℕ) → a ≤ b → b ≤ end → ((x : ℕ) → a ≤ x → x < b → 0 < byte t x) → unskipped t a (end - a) ≡ unskipped t b (end - b)
passed-to-end t a b end l k h =
    let e : a + (b - a) ≡ b = omega arith in
    let f : end - a - (b - a) ≡ end - b = omega arith in
    rw (e, f) at (passed-by t (b - a) a (end - a) (λ x p q. h x p (omega arith)) (omega arith))

-- b may lie past the end
pub passed_to : (t : List ℕ) (a b end : ℕ) → a ≤ b → a ≤ end → ((x : ℕ) → a ≤ x → x < b → 0 < byte t x) → unskipped t a (end - a) ≡ unskipped t b (end - b)
passed_to t a b end l m h = go (dec_lt end b)
  where
    go : Dec (end < b) → unskipped t a (end - a) ≡ unskipped t b (end - b)
    go (yes k) =
        passed-to-end t a end end m (omega arith) (λ x p q. h x p (omega arith))
        ∙ unskipped-end t end (end - end) (omega arith) ∙ sym (unskipped-end t b (end - b) (omega arith))
    go (no k) = passed-to-end t a b end l (omega arith) h
