-- Which bytes of a Type 3 tag are protected. They are those outside the range from WriteFlag to the end of the message's blocks,
-- and RWFlag inside it.
-- Assumes nothing.
use mathlib.Core.Path.{◌≡◌, sym, ap, ◌∙◌}
use mathlib.Core.Bool.{Bool, true, false, not, ◌&&◌, ◌||◌, and-true, and-false}
use mathlib.Core.List.{List}
use Prim.Native.Nat.{ℕ, suc, ◌+◌, ◌-◌, ◌*◌, ◌<◌, ◌≤◌}
use native.Mathlib.Omega.{arith}
use borrow.Author.Tests.{ne_eqb, le-leb, lt-leb, lt-ltb, le-ltb}
use lib.Dec.{leb, eqb}
use lib.ListN.{length, take, drop}
use Rattle.tag.specs.Bytes.{byte, run, same, is_set}
use Rattle.tag.specs.Judge.{equal_at, keeps, task}
use Rattle.tag.proofs.Keeping.{equal-same, equal-split, equal-none, outside-differs, outside-same}
use Rattle.tag.proofs.Runs.{run-set}
use Rattle.type3.specs.Update.{blocks_for, addresses, values}
use Rattle.type3.specs.Type3.{type3}
use Rattle.type3.specs.Views.Kept.{set_for}
use Rattle.type3.proofs.Update.{length-body}

-- ---- compared

module _ (i j : List ℕ) (n stop : ℕ) (is : stop ≡ 16 + 16 * blocks_for n) (high : stop ≤ length i) (size : length j ≡ length i) where
  -- is the address protected
  abbrev p : ℕ → Bool
  p a = not (set_for n a)

  abbrev Outside : Bool → Type 0
  Outside r = r ≡ same (take 9 j) (take 9 i) && same (drop stop j) (drop stop i)

  below : (a : ℕ) → a < 9 → p a ≡ true
  below a u = rw (ne_eqb 9 a (λ e. omega arith), lt-leb 11 a (omega arith))

  above : (a : ℕ) → stop ≤ a → p a ≡ true
  above a l = rw (ne_eqb 9 a (λ e. omega arith), le-ltb a (16 + 16 * blocks_for n) (omega arith), and-false (leb 11 a))

  within : (a : ℕ) → 11 ≤ a → a < stop → p a ≡ false
  within a l u = rw (ne_eqb 9 a (λ e. omega arith), le-leb 11 a l, lt-ltb a (16 + 16 * blocks_for n) (omega arith))

  -- inside the range only RWFlag is compared
  in-range : equal_at p i j (run 9 (stop - 9)) ≡ eqb (byte j 10) (byte i 10)
  in-range =
      let k = stop - 11 in
      let e : stop - 9 ≡ 2 + k = omega arith in
      let none : equal_at p i j (run 11 k) ≡ true = equal-none p i j k 11 (λ a l u. within a l (omega arith)) in
      let two : equal_at p i j (run 9 2) ≡ eqb (byte j 10) (byte i 10) = and-true (eqb (byte j 10) (byte i 10)) in
      ap (λ l. equal_at p i j (run 9 l)) e ∙ equal-split p i j 2 9 k ∙ rw (none, two) (and-true (eqb (byte j 10) (byte i 10)))

  pub kept-outside : (r : Bool) → Outside r → r ≡ false → r ≡ equal_at p i j (run 0 (length i))
  kept-outside r q t = t ∙ sym (outside-differs p i j 9 stop size (omega arith) high below above (sym q ∙ t))

  pub kept-flag : (r : Bool) → Outside r → r ≡ true → eqb (byte j 10) (byte i 10) ≡ equal_at p i j (run 0 (length i))
  kept-flag r q t = sym (outside-same p i j 9 stop size (omega arith) high below above (sym q ∙ t) ∙ in-range)

-- ---- just what the plan sets

set_is : (i m : List ℕ) (a : ℕ) → is_set (addresses m) (values i m) a ≡ set_for (length m) a
set_is i m a =
    let n : ℕ = 16 * blocks_for (length m) in
    let e : 11 + suc (suc (suc (suc (suc n)))) ≡ 16 + n = omega arith in
    ap (λ b. eqb 9 a || b) (run-set 11 (suc (suc (suc (suc (suc n))))) (drop 1 (values i m)) a (omega (arith, length-body m)) ∙ rw e)

pub kept-is : (idm i m j : List ℕ) → equal_at (λ a. not (set_for (length m) a)) i j (run 0 (length i)) ≡ keeps (task (type3 idm) i m) j
kept-is idm i m j = equal-same (λ a. not (set_for (length m) a)) _ i j 0 (length i) (λ a l u. ap not (sym (set_is i m a)))
