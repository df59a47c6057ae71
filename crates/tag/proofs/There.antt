-- Blocks that a tag already holds as the new image has them: such a block has its new bytes, and a block that holds no byte to set
-- is one. Also when storing a block changes nothing.
-- Assumes nothing.
use mathlib.Core.Path.{◌≡◌, refl, sym, ap, ◌∙◌}
use mathlib.Core.Bool.{Bool, true, false, not, ◌||◌, false≢true}
use mathlib.Core.Logic.{◌↔◌, ⊎_elim}
use mathlib.Core.List.{List, [], ◌∷◌}
use Prim.Native.Nat.{ℕ, ◌+◌, ◌-◌, ◌*◌, ◌<◌, ◌≤◌}
use native.Mathlib.Omega.{arith}
use borrow.Author.Tests.{eqb-true, not-true}
use lib.Dec.{eqb}
use lib.ListN.{length, get_or, take, drop, length-take, length-drop}
use lib.Seq.{get_or-take, get_or-drop, length-sets, ext_get_or}
use Rattle.tag.specs.Bytes.{byte, overlay, is_set, same}
use Rattle.tag.specs.Stores.{put}
use Rattle.tag.specs.Plan.{block_of, is_there}
use Rattle.tag.proofs.Logic.{or_l, or_r, or_cases, same-eq, same_refl, true-false}
use Rattle.tag.proofs.Images.{length-overlay, overlay-out}
use Rattle.tag.proofs.Guarded.{put-cases}
use Rattle.tag.proofs.Blocks.{in_block, in-block, block-part, block_in}

-- ---- blocks

module _ (z b : ℕ) where
  byte_of : (j : List ℕ) (a : ℕ) → in_block z b a ≡ true → get_or (take z (drop (z * b) j)) (a - z * b) 0 ≡ byte j a
  byte_of j a h =
      let (lo, up) = (in-block z b a).0 h in
      let e : z * b + (a - z * b) ≡ a = omega arith in
      get_or-take z (drop (z * b) j) (a - z * b) 0 (omega arith) ∙ get_or-drop (z * b) j (a - z * b) 0 ∙ ap (byte j) e

  -- a block that is there has its new bytes
  pub there-new : (i n : List ℕ) → is_there z i n b ≡ true → (a : ℕ) → in_block z b a ≡ true → byte i a ≡ byte n a
  there-new i n h a l = sym (byte_of i a l) ∙ ap (λ x. get_or x (a - z * b) 0) (same-eq (take z (drop (z * b) i)) (take z (drop (z * b) n)) h) ∙ byte_of n a l

  -- and a block that has its new bytes is there
  pub new-there : (i n : List ℕ) → length n ≡ length i → ((a : ℕ) → in_block z b a ≡ true → byte i a ≡ byte n a) → is_there z i n b ≡ true
  new-there i n e h = ap (same (take z (drop (z * b) i))) (sym equal) ∙ same_refl (take z (drop (z * b) i))
    where
      lengths : length (take z (drop (z * b) i)) ≡ length (take z (drop (z * b) n))
      lengths =
          omega (arith, length-take z (drop (z * b) i), length-take z (drop (z * b) n), length-drop (z * b) i, length-drop (z * b) n)

      equal : take z (drop (z * b) i) ≡ take z (drop (z * b) n)
      equal =
          ext_get_or 0 (take z (drop (z * b) i)) (take z (drop (z * b) n)) lengths
          (λ k l.
          let m : k < z = omega (arith, length-take z (drop (z * b) i)) in
          let at : in_block z b (z * b + k) ≡ true = (in-block z b (z * b + k)).1 (omega arith, omega arith) in
          get_or-take z (drop (z * b) i) k 0 m ∙ get_or-drop (z * b) i k 0 ∙ h (z * b + k) at
          ∙ sym (get_or-take z (drop (z * b) n) k 0 m ∙ get_or-drop (z * b) n k 0))

-- ---- blocks that hold a byte to set

-- is block b touched (the requirements' word): does it hold a byte to set
abbrev pub touches : ℕ → List ℕ → List ℕ → ℕ → Bool
touches z [] vs b = false
touches z (x ∷ us) [] b = false
touches z (x ∷ us) (v ∷ vs) b = in_block z b x || touches z us vs b

pub touch-of : (z : ℕ) (us vs : List ℕ) (a b : ℕ) → is_set us vs a ≡ true → in_block z b a ≡ true → touches z us vs b ≡ true
touch-of z [] vs a b s h = absurd (false≢true s)
touch-of z (x ∷ us) [] a b s h = absurd (false≢true s)
touch-of z (x ∷ us) (v ∷ vs) a b s h =
    ⊎_elim
    (λ e. or_l (in_block z b x) (touches z us vs b) (rw (eqb-true x a e) h))
    (λ e. or_r (in_block z b x) (touches z us vs b) (touch-of z us vs a b e h))
    (or_cases (eqb x a) (is_set us vs a) s)

-- a block that is not there holds one
pub touched-new : (z : ℕ) (us vs i : List ℕ) (b : ℕ) → not (is_there z i (overlay us vs i) b) ≡ true → touches z us vs b ≡ true
touched-new z us vs i b h = go (touches z us vs b) refl
  where
    unset : touches z us vs b ≡ false → (a : ℕ) → in_block z b a ≡ true → (c : Bool) → is_set us vs a ≡ c → byte i a ≡ byte (overlay us vs i) a
    unset q a l true s = absurd (true-false (touch-of z us vs a b s l) q)
    unset q a l false s = sym (overlay-out us vs i a (ap not s))

    go : (c : Bool) → touches z us vs b ≡ c → touches z us vs b ≡ true
    go true q = q
    go false q =
        absurd (true-false (new-there z b i (overlay us vs i) (length-overlay us vs i) (λ a l. unset q a l (is_set us vs a) refl)) (not-true _ h))

-- ---- storing a block

-- storing block b of the image c changes nothing exactly if the tag has those bytes
pub unchanged : (z b : ℕ) (c i : List ℕ) → length c ≡ length i → z * b + z ≤ length i
    → (put i (block_of z c b) ≡ i) ↔ ((a : ℕ) → in_block z b a ≡ true → byte c a ≡ byte i a)
unchanged z b c i e h = (
  (λ q a l.
      let (lo, up) = (in-block z b a).0 l in
      ⊎_elim (λ x. sym x.1 ∙ ap (λ j. byte j a) q) (λ x. absurd (x.0 ((block_in z c b a room).1 l))) (put-cases c i (block_of z c b) a (block-part z c b room) (omega arith))),
  (λ q.
      ext_get_or 0 (put i (block_of z c b)) i (length-sets i (z * b) (take z (drop (z * b) c)))
      (λ a l.
      ⊎_elim (λ x. x.1 ∙ q a ((block_in z c b a room).0 x.0)) (λ x. x.1)
      (put-cases c i (block_of z c b) a (block-part z c b room) (omega (arith, length-sets i (z * b) (take z (drop (z * b) c))))))),
)
  where
    room : z * b + z ≤ length c
    room = omega arith
