-- Which bytes of a Type 6 tag are protected: those outside NLEN and the message.
-- Assumes nothing.
use mathlib.Core.Path.{◌≡◌, sym, ap, ◌∙◌}
use mathlib.Core.Bool.{Bool, true, false, not, ◌&&◌, and-false}
use mathlib.Core.List.{List}
use Prim.Native.Nat.{ℕ, ◌+◌, ◌-◌, ◌<◌, ◌≤◌}
use native.Mathlib.Omega.{arith}
use borrow.Author.Tests.{le-leb, lt-leb, lt-ltb, le-ltb}
use lib.Dec.{leb}
use lib.ListN.{length, take, drop}
use Rattle.tag.specs.Bytes.{run, same}
use Rattle.tag.specs.Judge.{equal_at, keeps, task}
use Rattle.tag.proofs.Keeping.{equal-same, equal-none, outside-differs, outside-same}
use Rattle.type6.specs.Container.{file_at}
use Rattle.type6.specs.Type6.{type6}
use Rattle.type6.specs.Views.Kept.{set_for}
use Rattle.type6.proofs.Update.{set_is}

-- ---- compared outside them

module _ (i j : List ℕ) (f n stop : ℕ) (is : stop ≡ f + (2 + n)) (high : stop ≤ length i) (size : length j ≡ length i) where
  abbrev p : ℕ → Bool
  p a = not (set_for f n a)

  below : (a : ℕ) → a < f → p a ≡ true
  below a u = rw (lt-leb f a u)

  above : (a : ℕ) → stop ≤ a → p a ≡ true
  above a l = rw (le-ltb a (f + (2 + n)) (omega arith), and-false (leb f a))

  within : (a : ℕ) → f ≤ a → a < stop → p a ≡ false
  within a l u = rw (le-leb f a l, lt-ltb a (f + (2 + n)) (omega arith))

  pub compared : (r : Bool) → r ≡ same (take f j) (take f i) && same (drop stop j) (drop stop i) → r ≡ equal_at p i j (run 0 (length i))
  compared true q =
      sym (outside-same p i j f stop size (omega arith) high below above (sym q) ∙ equal-none p i j (stop - f) f (λ a l u. within a l (omega arith)))
  compared false q = sym (outside-differs p i j f stop size (omega arith) high below above (sym q))

-- the file is at the address that the code has
pub compared_at : (i j : List ℕ) (f n g : ℕ) → g ≡ f → (stop : ℕ) → stop ≡ f + (2 + n) → f + (2 + n) ≤ length i → length j ≡ length i
    → (r : Bool) → r ≡ same (take g j) (take g i) && same (drop stop j) (drop stop i)
    → r ≡ equal_at (λ a. not (set_for f n a)) i j (run 0 (length i))
compared_at i j f n g e stop is high size r q =
    compared i j f n stop is (omega arith) size r (q ∙ ap (λ x. same (take x j) (take x i) && same (drop stop j) (drop stop i)) e)

-- ---- just what the plan sets

pub kept-is : (i m j : List ℕ) → equal_at (λ a. not (set_for (file_at i) (length m) a)) i j (run 0 (length i)) ≡ keeps (task type6 i m) j
kept-is i m j =
    equal-same (λ a. not (set_for (file_at i) (length m) a)) _ i j 0 (length i) (λ a l u. ap not (sym (set_is (file_at i) m a)))
