-- The blocks that a test picks: by their numbers, from two ranges joined, from a part of the blocks, and by tests that agree.
-- Assumes nothing.
use mathlib.Core.Path.{◌≡◌, refl, sym, ap, ◌∙◌}
use mathlib.Core.Bool.{Bool, true, false, cond}
use mathlib.Core.List.{List, [], ◌∷◌, ◌++◌, map, append-nil}
use Prim.Native.Nat.{ℕ, zero, suc, ◌+◌, ◌-◌, ◌<◌, ◌≤◌}
use native.Mathlib.Omega.{arith}
use lib.ListN.{length, get_or, take}
use Rattle.tag.specs.Plan.{block_of, picks, counted}
use Rattle.tag.specs.Views.Picked.{picked}
use Rattle.tag.proofs.Logic.{one_at_most}

-- ---- by number

module _ (t : ℕ → Bool) where
  pub length-picked : (b k : ℕ) → length (picked t b k) ≡ counted t b k
  length-picked b zero = refl
  length-picked b (suc k) = go (t b) refl (length-picked (suc b) k)
    where
      go : (c : Bool) → t b ≡ c → length (picked t (suc b) k) ≡ counted t (suc b) k → length (picked t b (suc k)) ≡ counted t b (suc k)
      go true q ih = rw q (omega arith)
      go false q ih = rw q (omega arith)

  -- one more block, as a loop over rising blocks meets it
  pub picked_next : (k b : ℕ) → picked t b (k + 1) ≡ picked t b k ++ cond (t (b + k)) ((b + k) ∷ []) []
  picked_next zero b = let e : b + 0 ≡ b = omega arith in rw e
  picked_next (suc k) b =
      let e : suc k + 1 ≡ suc (k + 1) = omega arith in
      let f : b + suc k ≡ suc b + k = omega arith in
      rw (e, f) (go (t b) refl (picked_next k (suc b)))
    where
      go : (c : Bool) → t b ≡ c → picked t (suc b) (k + 1) ≡ picked t (suc b) k ++ cond (t (suc b + k)) ((suc b + k) ∷ []) []
          → picked t b (suc (k + 1)) ≡ picked t b (suc k) ++ cond (t (suc b + k)) ((suc b + k) ∷ []) []
      go true q ih = rw q (ap (λ r. b ∷ r) ih)
      go false q ih = rw q ih

  -- a turn of such a loop: `before` has n numbers at its front, and `after` r
  pub pick-turn : (k b n r : ℕ) (w : Bool) (before after : List ℕ) → w ≡ t (b + k) → n ≤ k → r ≡ n + cond w 1 0 → take n before ≡ picked t b k
      → take r after ≡ take n before ++ cond w ((b + k) ∷ []) [] → (r ≤ k + 1) × (take r after ≡ picked t b (k + 1))
  pick-turn k b n r w before after e l m p q = (
    omega (arith, (one_at_most w).0),
    q ∙ ap (λ x. x ++ cond w ((b + k) ∷ []) []) p ∙ ap (λ c. picked t b k ++ cond c ((b + k) ∷ []) []) e ∙ sym (picked_next k b),
  )

  -- what is picked lies in the range and passes the test
  pub picked-in : (k b j : ℕ) → j < length (picked t b k)
      → (b ≤ get_or (picked t b k) j 0) × (get_or (picked t b k) j 0 < b + k) × (t (get_or (picked t b k) j 0) ≡ true)
  picked-in zero b j l = absurd (omega arith)
  picked-in (suc k) b j l = go (t b) refl j l (picked-in k (suc b))
    where
      go : (c : Bool) → t b ≡ c → (j : ℕ) → j < length (picked t b (suc k))
          → ((j : ℕ) → j < length (picked t (suc b) k)
          → (suc b ≤ get_or (picked t (suc b) k) j 0) × (get_or (picked t (suc b) k) j 0 < suc b + k) × (t (get_or (picked t (suc b) k) j 0) ≡ true))
          → (b ≤ get_or (picked t b (suc k)) j 0) × (get_or (picked t b (suc k)) j 0 < b + suc k) × (t (get_or (picked t b (suc k)) j 0) ≡ true)
      go true q zero l ih = rw q (omega arith, omega arith, q)
      go true q (suc j) l ih =
          let h = ih j (omega (arith, rw q at l)) in
          rw q (omega (arith, h.0), omega (arith, h.1), h.2)
      go false q j l ih =
          let h = ih j (rw q at l) in
          rw q (omega (arith, h.0), omega (arith, h.1), h.2)

  -- and the numbers rise
  pub picked-rises : (k b j : ℕ) → j + 1 < length (picked t b k) → get_or (picked t b k) j 0 < get_or (picked t b k) (j + 1) 0
  picked-rises zero b j l = absurd (omega arith)
  picked-rises (suc k) b j l = go (t b) refl j l (picked-rises k (suc b))
    where
      go : (c : Bool) → t b ≡ c → (j : ℕ) → j + 1 < length (picked t b (suc k))
          → ((j : ℕ) → j + 1 < length (picked t (suc b) k) → get_or (picked t (suc b) k) j 0 < get_or (picked t (suc b) k) (j + 1) 0)
          → get_or (picked t b (suc k)) j 0 < get_or (picked t b (suc k)) (j + 1) 0
      go true q zero l ih = rw q (omega (arith, (picked-in k (suc b) 0 (omega (arith, rw q at l))).0))
      go true q (suc j) l ih =
          let e : suc j + 1 ≡ suc (j + 1) = omega arith in
          rw (q, e) (ih j (omega (arith, rw q at l)))
      go false q j l ih = rw q (ih j (rw q at l))

-- tests that agree on the blocks from b on
pub picked-like : (t u : ℕ → Bool) (k b : ℕ) → ((c : ℕ) → b ≤ c → c < b + k → t c ≡ u c) → picked t b k ≡ picked u b k
picked-like t u zero b h = refl
picked-like t u (suc k) b h = rw (h b (omega arith) (omega arith)) (ap (λ r. cond (u b) (b ∷ r) r) (picked-like t u k (suc b) (λ c l m. h c (omega arith) (omega arith))))

-- ---- with their bytes

module _ (t : ℕ → Bool) (z : ℕ) (n : List ℕ) where
  pub length-picks : (b k : ℕ) → length (picks t z n b k) ≡ counted t b k
  unfolding picks
  length-picks b zero = refl
  length-picks b (suc k) = go (t b) refl (length-picks (suc b) k)
    where
      go : (c : Bool) → t b ≡ c → length (picks t z n (suc b) k) ≡ counted t (suc b) k → length (picks t z n b (suc k)) ≡ counted t b (suc k)
      go true q ih = rw (q, picks) (omega arith)
      go false q ih = rw (q, picks) (omega arith)

  pub picks-picked : (k b : ℕ) → picks t z n b k ≡ map (block_of z n) (picked t b k)
  unfolding picks
  picks-picked zero b = refl
  picks-picked (suc k) b = go (t b) refl (picks-picked k (suc b))
    where
      go : (c : Bool) → t b ≡ c → picks t z n (suc b) k ≡ map (block_of z n) (picked t (suc b) k) → picks t z n b (suc k) ≡ map (block_of z n) (picked t b (suc k))
      go true q ih = rw (q, picks) (ap (λ r. block_of z n b ∷ r) ih)
      go false q ih = rw (q, picks) ih

  picks-none : (k b : ℕ) → ((c : ℕ) → b ≤ c → c < b + k → t c ≡ false) → picks t z n b k ≡ []
  unfolding picks
  picks-none zero b h = refl
  picks-none (suc k) b h = rw (h b (omega arith) (omega arith), picks) (picks-none k (suc b) (λ c l u. h c (omega arith) (omega arith)))

  pub picks-add : (k l b : ℕ) → picks t z n b (k + l) ≡ picks t z n b k ++ picks t z n (b + k) l
  unfolding picks
  picks-add zero l b =
      let e : 0 + l ≡ l = omega arith in
      let f : b + 0 ≡ b = omega arith in
      rw (e, f)
  picks-add (suc k) l b =
      let e : suc k + l ≡ suc (k + l) = omega arith in
      let f : b + suc k ≡ suc b + k = omega arith in
      rw (e, f) (go (t b) refl (picks-add k l (suc b)))
    where
      go : (c : Bool) → t b ≡ c → picks t z n (suc b) (k + l) ≡ picks t z n (suc b) k ++ picks t z n (suc b + k) l
          → picks t z n b (suc (k + l)) ≡ picks t z n b (suc k) ++ picks t z n (suc b + k) l
      go true q ih = rw (q, picks) (ap (λ r. block_of z n b ∷ r) ih)
      go false q ih = rw (q, picks) ih

  -- a test that is true only among the k blocks from a on, of N blocks in all
  pub picks-part : (a k N : ℕ) → a + k ≤ N → ((c : ℕ) → c < a → t c ≡ false) → ((c : ℕ) → a + k ≤ c → c < N → t c ≡ false)
      → picks t z n 0 N ≡ picks t z n a k
  picks-part a k N l below past =
      let e : N ≡ a + (k + (N - (a + k))) = omega arith in
      let f : 0 + a ≡ a = omega arith in
      let before : picks t z n 0 a ≡ [] = picks-none a 0 (λ c p q. below c (omega arith)) in
      let after : picks t z n (a + k) (N - (a + k)) ≡ [] = picks-none (N - (a + k)) (a + k) (λ c p q. past c p (omega arith)) in
      ap (picks t z n 0) e
      ∙ picks-add a (k + (N - (a + k))) 0
      ∙ rw (f, before, picks-add k (N - (a + k)) a, after)
      (append-nil (picks t z n a k))
