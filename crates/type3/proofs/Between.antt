-- Which blocks our list for a Type 3 tag can write between block 0's two commands: none but 1 to k.
-- Assumes nothing.
use mathlib.Core.Path.{◌≡◌, refl}
use mathlib.Core.Bool.{Bool, true, false, not}
use mathlib.Core.List.{List}
use Prim.Native.Nat.{ℕ, ◌+◌, ◌<◌, ◌≤◌}
use native.Mathlib.Omega.{arith}
use borrow.Author.Tests.{eq-eqb}
use lib.Dec.{eqb}
use lib.ListN.{length}
use Rattle.tag.specs.Plan.{new_image, is_there, between}
use Rattle.tag.proofs.Logic.{and_r}
use Rattle.tag.proofs.There.{touched-new}
use Rattle.type3.specs.Update.{blocks_for, addresses, values, plan}
use Rattle.type3.proofs.Laws.{touched-most}

module _ (i m : List ℕ) where
  pub between-guard : (b : ℕ) → b < 1 → between (plan i m) i b ≡ false
  between-guard b l = rw (eq-eqb b 0 (omega arith))

  pub between-past : (b : ℕ) → 1 + blocks_for (length m) ≤ b → between (plan i m) i b ≡ false
  between-past b l = go (between (plan i m) i b) refl
    where
      go : (c : Bool) → between (plan i m) i b ≡ c → between (plan i m) i b ≡ false
      go false q = q
      go true q =
          let touched = touched-new 16 (addresses m) (values i m) i b (and_r (not (eqb b 0)) (not (is_there 16 i (new_image (plan i m) i) b)) q) in
          absurd (omega (arith, touched-most i m b touched))
