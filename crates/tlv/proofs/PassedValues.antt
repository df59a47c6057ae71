-- The n-th usable address tells whether a walk has n usable bytes ahead, and where the walk is past them. That address is z, which is
-- the walk's end if there are fewer.
-- Assumes nothing.
use mathlib.Core.Path.{◌≡◌, sym, ap, ◌∙◌}
use mathlib.Core.List.{List}
use Prim.Native.Nat.{ℕ, suc, ◌+◌, ◌-◌, ◌<◌, ◌≤◌}
use native.Mathlib.Omega.{arith}
use borrow.Author.Tests.{le-leb, lt-leb}
use lib.ListN.{length, get_or}
use Rattle.tlv.specs.declared.walk.Walk.{Walk}
use Rattle.tag.specs.Refusals.{bad_length}
use Rattle.tlv.specs.Walk.{len, more, stop, pass_value}
use Rattle.tlv.specs.Views.Walks.{ahead}
use Rattle.tlv.proofs.Skipping.{unskipped-past}
use Rattle.tlv.proofs.Usable.{from, ahead-rising}
use Rattle.tlv.proofs.Rising.{nth_inside, nth-outside}

pub enough-ahead : (t : List ℕ) (w : Walk) (n z : ℕ) → z ≡ get_or (ahead t w) (n - 1) w.end.0 → (z ≡ w.end.0 → ⊥) → n ≤ length (ahead t w)
enough-ahead t w n z nth there = nth_inside w.end.0 n (ahead t w) (λ q. there (nth ∙ q))

module _ (t : List ℕ) (w : Walk) (n z : ℕ) (ordered : w.at.0 ≤ w.end.0) (some : 1 ≤ n) (nth : z ≡ get_or (ahead t w) (n - 1) w.end.0) where
  pub fewer-ahead : z ≡ w.end.0 → length (ahead t w) < n
  fewer-ahead q = nth-outside w.end.0 n (ahead t w) (ahead-rising t w ordered) some (sym nth ∙ q)

  -- the value passed over
  pub passed-short : z ≡ w.end.0 → stop bad_length ≡ pass_value (len n (ahead t w))
  unfolding pass_value
  passed-short q = rw (lt-leb n (length (ahead t w)) (fewer-ahead q))

  pub passed-past : (z ≡ w.end.0 → ⊥) → more (from t (z + 1) w.end.0) ≡ pass_value (len n (ahead t w))
  unfolding pass_value
  passed-past there =
      let h : suc (n - 1) ≡ n = omega arith in
      let e : w.at.0 + (w.end.0 - w.at.0) ≡ w.end.0 = omega (arith, ordered) in
      let enough : n ≤ length (ahead t w) = enough-ahead t w n z nth there in
      let p : n - 1 < length (ahead t w) = omega arith in
      rw (le-leb n (length (ahead t w)) enough, nth)
      (ap more (rw (e, h) at (unskipped-past t w.at.0 (n - 1) (w.end.0 - w.at.0) w.end.0 p)))
