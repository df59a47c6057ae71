-- Which bytes a tag with a TLV area protects: those outside the extent of the bytes to set, and the skipped ones in it.
-- Assumes nothing.
use mathlib.Core.Path.{◌≡◌, refl, sym, ap, ◌∙◌}
use mathlib.Core.Bool.{Bool, true, false, not, ◌&&◌, ◌||◌, and-false}
use mathlib.Core.List.{List}
use Prim.Native.Nat.{ℕ, zero, suc, ◌+◌, ◌-◌, ◌<◌, ◌≤◌}
use native.Mathlib.Decide.{ℕ_discrete}
use native.Mathlib.Omega.{arith}
use borrow.Author.Tests.{le-leb, lt-leb, lt-ltb, le-ltb}
use lib.Dec.{leb, eqb}
use lib.ListN.{length, get_or, take, drop}
use Rattle.tag.specs.Bytes.{byte, run, same, is_set}
use Rattle.tag.specs.Judge.{equal_at}
use Rattle.tag.proofs.Keeping.{equal-same, equal-none, equal-split, outside-differs, outside-same}
use Rattle.tag.proofs.Logic.{and_l, and_r}
use Rattle.tlv.specs.declared.walk.Walk.{Walk}
use Rattle.tlv.specs.Views.Table.{none_skipped, usable_in}
use Rattle.tlv.specs.Views.Walks.{ahead}
use Rattle.tlv.proofs.Usable.{set-usable}
use Rattle.tlv_tag.specs.declared.extent.Extent.{Extent}
use Rattle.tlv_tag.specs.Views.Update.{tlv_bytes_length}
use Rattle.tlv_tag.specs.Views.Kept.{Bounded}

-- the bytes set lie below the usable address that comes after as many others
pub set_below : (t : List ℕ) (w : Walk) → w.at.0 ≤ w.end.0 → (n k z : ℕ) → k ≡ tlv_bytes_length n → z ≡ get_or (ahead t w) k w.end.0
    → (vs : List ℕ) (a : ℕ) → length vs ≡ tlv_bytes_length n → is_set (ahead t w) vs a ≡ usable_in t w.at.0 z a
set_below t w ordered n k z f e vs a l =
    set-usable t w.at.0 (w.end.0 - w.at.0) w.end.0 (omega (arith, ordered)) vs a
    ∙ ap (λ s. usable_in t w.at.0 s a) (ap (λ x. get_or (ahead t w) x w.end.0) (l ∙ sym f) ∙ sym e)

-- if none is skipped, each is usable
none_each : (t : List ℕ) (a n : ℕ) → none_skipped t a n ≡ true → (x : ℕ) → a ≤ x → x < a + n → eqb (byte t x) 0 ≡ true
unfolding none_skipped
none_each t a zero h x l u = absurd (omega arith)
none_each t a (suc n) h x l u = go (ℕ_discrete a x) (λ m. none_each t (suc a) n (and_r (eqb (byte t a) 0) (none_skipped t (suc a) n) h) x m (omega arith))
  where
    go : Dec (a ≡ x) → (suc a ≤ x → eqb (byte t x) 0 ≡ true) → eqb (byte t x) 0 ≡ true
    go (yes e) ih = rw (← e) (and_l (eqb (byte t a) 0) (none_skipped t (suc a) n) h)
    go (no m) ih = ih (omega arith)

module _ (i j t : List ℕ) where
  -- have the n bytes from an address on been kept, where they are skipped
  abbrev pub skipped-kept : ℕ → ℕ → Bool
  skipped-kept a n = equal_at (λ x. not (eqb (byte t x) 0)) i j (run a n)

  -- one address more
  pub changed-more : (first k : ℕ) → first ≤ k
      → not (skipped-kept first (k - first)) || (not (eqb (byte t k) 0) && not (eqb (byte j k) (byte i k))) ≡ not (skipped-kept first (k + 1 - first))
  changed-more first k l =
      let n = k - first in
      let more : k + 1 - first ≡ n + 1 = omega arith in
      let here : first + n ≡ k = omega arith in
      sym (rw (more, equal-split (λ x. not (eqb (byte t x) 0)) i j n first 1, here) (go (skipped-kept first n) (eqb (byte t k) 0) (eqb (byte j k) (byte i k))))
    where
      go : (a z e : Bool) → not (a && ((not (not z) || e) && true)) ≡ not a || (not z && not e)
      go false z e = refl
      go true true e = refl
      go true false true = refl
      go true false false = refl

  module _ (e : Extent) (b : Bounded t (length i) e) (size : length j ≡ length i) where
    abbrev first : ℕ
    first = e.first.0

    abbrev stop : ℕ
    stop = e.stop.0

    -- is the address protected
    abbrev p : ℕ → Bool
    p a = not (usable_in t first stop a)

    abbrev outside : Bool
    outside = same (take first j) (take first i) && same (drop stop j) (drop stop i)

    below : (a : ℕ) → a < first → p a ≡ true
    below a u = rw (lt-leb first a u)

    above : (a : ℕ) → stop ≤ a → p a ≡ true
    above a l = rw (le-ltb a stop l, and-false (leb first a))

    inside : (a : ℕ) → first ≤ a → a < first + (stop - first) → p a ≡ not (eqb (byte t a) 0)
    inside a l u = rw (le-leb first a l, lt-ltb a stop (omega (arith, b.ordered)))

    pub changed-outside : outside ≡ false → equal_at p i j (run 0 (length i)) ≡ false
    changed-outside = outside-differs p i j first stop size b.ordered b.below below above

    pub kept-outside : outside ≡ true → equal_at p i j (run 0 (length i)) ≡ skipped-kept first (stop - first)
    kept-outside q =
        outside-same p i j first stop size b.ordered b.below below above q
        ∙ equal-same p (λ x. not (eqb (byte t x) 0)) i j first (stop - first) inside

    -- nothing in between is skipped
    pub kept-plain : e.skips ≡ false → skipped-kept first (stop - first) ≡ true
    kept-plain s =
        let none : none_skipped t first (stop - first) ≡ true = go (none_skipped t first (stop - first)) (sym b.skips_is ∙ s) in
        equal-none _ i j (stop - first) first (λ a l u. ap not (none_each t first (stop - first) none a l u))
      where
        go : (n : Bool) → not n ≡ false → n ≡ true
        go true h = refl
        go false h = sym h
