-- Overlays at addresses that rise: the order of the stores does not matter, so bytes may be set one after the other. Where no address is
-- skipped on the way, they are stored as they lie.
-- Assumes nothing.
use mathlib.Core.Path.{◌≡◌, refl, sym, ap, ◌∙◌}
use mathlib.Core.Bool.{true}
use mathlib.Core.List.{List, [], ◌∷◌, ◌++◌}
use Prim.Native.Nat.{ℕ, suc, ◌+◌, ◌-◌, ◌<◌, ◌≤◌}
use native.Mathlib.Numerals.{add-one}
use native.Mathlib.Omega.{arith}
use lib.ListN.{length, get_or, set, drop}
use lib.Seq.{sets, drop-nil, drop-cons, drop-append_seam}
use Rattle.tag.specs.Bytes.{run, overlay}
use Rattle.tag.proofs.Addresses.{Above, Rising, above-drop, above-rising, rising-drop, overlay-set}
use Rattle.tag.proofs.Runs.{length_run}
use Rattle.tag.proofs.Storing.{overlay-run}
use Rattle.tlv.specs.Views.Table.{unskipped, none_skipped}
use Rattle.tlv.proofs.Skipping.{unskipped-run}
use Rattle.tlv.proofs.Usable.{from}

pub overlay-none : (us i : List ℕ) → overlay us [] i ≡ i
overlay-none [] i = refl
overlay-none (a ∷ us) i = refl

module _ (hi : ℕ) where
  -- one byte set, and then the rest
  pub overlay-next : (us vs i : List ℕ) (a k : ℕ) → Above hi a us → k < length vs
      → overlay (a ∷ us) (drop k vs) i ≡ overlay us (drop (k + 1) vs) (set i a (get_or vs k 0))
  overlay-next us vs i a k h l = rw (add-one k, drop-cons vs k 0 l) (overlay-set hi us (drop (suc k) vs) i a (get_or vs k 0) h)

  -- one part set, and then the other
  pub overlay-append : (us x y i : List ℕ) → Rising hi us → overlay us (x ++ y) i ≡ overlay (drop (length x) us) y (overlay us x i)
  overlay-append [] x y i h = rw (drop-nil (length x))
  overlay-append (a ∷ us) [] y i h = refl
  overlay-append (a ∷ us) (v ∷ x) y i h =
      ap (λ j. set j a v) (overlay-append us x y i (above-rising hi a us h))
      ∙ overlay-set hi (drop (length x) us) y (overlay us x i) a v (above-drop hi a (length x) us h)

  -- three parts set in turn, each at the addresses that the one before it left
  pub overlay-parts : (us vs ws x y z i j k l : List ℕ) → Rising hi us
      → j ≡ overlay us x i → vs ≡ drop (length x) us
      → k ≡ overlay vs y j → ws ≡ drop (length y) vs
      → l ≡ overlay ws z k → l ≡ overlay us (x ++ (y ++ z)) i
  overlay-parts us vs ws x y z i j k l h first p second q third =
      third ∙ rw (q, second, p, first)
      (sym (overlay-append us x (y ++ z) i h
      ∙ overlay-append (drop (length x) us) y z (overlay us x i) (rising-drop hi (length x) us h)))

-- ---- addresses that come one after another

overlay-front : (xs us vs i : List ℕ) → length xs ≡ length vs → overlay (xs ++ us) vs i ≡ overlay xs vs i
overlay-front [] us [] i h = overlay-none us i
overlay-front [] us (v ∷ vs) i h = absurd (omega arith)
overlay-front (x ∷ xs) us [] i h = absurd (omega arith)
overlay-front (x ∷ xs) us (v ∷ vs) i h = ap (λ j. set j x v) (overlay-front xs us vs i (omega arith))

-- the first n usable addresses from a on, none of which is skipped
module _ (t : List ℕ) (a n e : ℕ) (room : n ≤ e - a) (free : none_skipped t a n ≡ true) where
  first : from t a e ≡ run a n ++ from t (a + n) e
  first =
      let d : e - a ≡ n + (e - (a + n)) = omega arith in
      ap (unskipped t a) d ∙ unskipped-run t a n (e - (a + n)) free

  pub overlay_free : (vs i : List ℕ) → length vs ≡ n → overlay (from t a e) vs i ≡ sets i a vs
  overlay_free vs i l =
      ap (λ us. overlay us vs i) first
      ∙ overlay-front (run a n) (from t (a + n) e) vs i (length_run n a ∙ sym l)
      ∙ ap (λ n. overlay (run a n) vs i) (sym l)
      ∙ overlay-run vs i a

  pub drop_free : drop n (from t a e) ≡ from t (a + n) e
  drop_free =
      ap (drop n) first
      ∙ ap (λ k. drop k (run a n ++ from t (a + n) e)) (sym (length_run n a))
      ∙ drop-append_seam (run a n) (from t (a + n) e)
