-- The usable addresses from a place on: they rise below the walk's end, a usable address is followed by those from the next one
-- on, and values set at them lie below the address after them.
-- Assumes nothing.
use mathlib.Core.Path.{◌≡◌, refl, sym, ap, ◌∙◌}
use mathlib.Core.Bool.{Bool, true, false, ◌||◌, and-false}
use mathlib.Core.List.{List, [], ◌∷◌}
use Prim.Native.Nat.{ℕ, zero, suc, ◌+◌, ◌-◌, ◌<◌, ◌≤◌}
use native.Mathlib.Omega.{arith}
use native.Mathlib.Decide.{ℕ_discrete, dec_lt}
use borrow.Author.Tests.{eq-eqb, ne_eqb, le-leb, lt-leb, lt-ltb, le-ltb}
use lib.Dec.{leb, ltb, eqb}
use lib.ListN.{length, get_or}
use Rattle.tag.specs.Bytes.{byte, is_set}
use Rattle.tag.proofs.Addresses.{Above, Rising}
use Rattle.tlv.specs.declared.walk.Walk.{Walk}
use Rattle.tlv.specs.Views.Table.{unskipped, usable_in}
use Rattle.tlv.specs.Views.Walks.{ahead}
use Rattle.tlv.proofs.Skipping.{unskipped-take, unskipped-end}

-- the usable addresses from a up to e
abbrev pub from : List ℕ → ℕ → ℕ → List ℕ
from t a e = unskipped t a (e - a)

-- ---- they rise

unskipped-above : (hi : ℕ) (t : List ℕ) (a n x : ℕ) → x < a → x < hi → a + n ≤ hi → Above hi x (unskipped t a n)
unfolding unskipped
unskipped-above hi t a zero x l u h = u
unskipped-above hi t a (suc n) x l u h =
    go (eqb (byte t a) 0) refl (unskipped-above hi t (suc a) n a (omega arith) (omega arith) (omega arith)) (unskipped-above hi t (suc a) n x (omega arith) u (omega arith))
  where
    go : (b : Bool) → eqb (byte t a) 0 ≡ b → Above hi a (unskipped t (suc a) n) → Above hi x (unskipped t (suc a) n) → Above hi x (unskipped t a (suc n))
    go true q taken passed = rw (q, unskipped) (l, taken)
    go false q taken passed = rw (q, unskipped) passed

unskipped-rising : (hi : ℕ) (t : List ℕ) (a n : ℕ) → a + n ≤ hi → Rising hi (unskipped t a n)
unfolding unskipped
unskipped-rising hi t a zero h = tt
unskipped-rising hi t a (suc n) h =
    go (eqb (byte t a) 0) refl (unskipped-above hi t (suc a) n a (omega arith) (omega arith) (omega arith)) (unskipped-rising hi t (suc a) n (omega arith))
  where
    go : (b : Bool) → eqb (byte t a) 0 ≡ b → Above hi a (unskipped t (suc a) n) → Rising hi (unskipped t (suc a) n) → Rising hi (unskipped t a (suc n))
    go true q taken passed = rw (q, unskipped) taken
    go false q taken passed = rw (q, unskipped) passed

pub from-above : (t : List ℕ) (x a e : ℕ) → x < a → a ≤ e → Above e x (from t a e)
from-above t x a e l h = unskipped-above e t a (e - a) x l (omega arith) (omega arith)

from-rising : (t : List ℕ) (a e : ℕ) → a ≤ e → Rising e (from t a e)
from-rising t a e h = unskipped-rising e t a (e - a) (omega arith)

pub ahead-rising : (t : List ℕ) (w : Walk) → w.at.0 ≤ w.end.0 → Rising w.end.0 (ahead t w)
ahead-rising t w h = from-rising t w.at.0 w.end.0 h

-- ---- from one to the next

-- a place at a usable address, or at the end
pub record At (t : List ℕ) (a e : ℕ) : Type 0 where
  pub within : a ≤ e
  pub free : a < e → byte t a ≡ 0

-- from a usable address to the next one, f
pub from_next : (t : List ℕ) (a f e : ℕ) → At t a e → a < e → from t (a + 1) e ≡ from t f e → from t a e ≡ a ∷ from t f e
from_next t a f e p l h =
    let k : e - a - 1 ≡ e - (a + 1) = omega arith in
    unskipped-take t a (e - a) (eq-eqb (byte t a) 0 (p.free l)) (omega arith)
    ∙ ap (λ n. a ∷ unskipped t (a + 1) n) k
    ∙ ap (λ us. a ∷ us) h

pub from_end : (t : List ℕ) (a e : ℕ) → e ≤ a → from t a e ≡ []
from_end t a e h = unskipped-end t a (e - a) (omega arith)

pub from_first : (t : List ℕ) (f e d : ℕ) → At t f e → 0 < length (from t f e) → get_or (from t f e) 0 d ≡ f
from_first t f e d p l = go (dec_lt f e)
  where
    go : Dec (f < e) → get_or (from t f e) 0 d ≡ f
    go (yes u) = ap (λ us. get_or us 0 d) (from_next t f (f + 1) e p u refl)
    go (no n) = absurd (omega (arith, ap length (from_end t f e (omega arith))))

-- the first of them is the place itself, or the end if none is left
pub from_here : (t : List ℕ) (f e : ℕ) → At t f e → get_or (from t f e) 0 e ≡ f
from_here t f e p = go (dec_lt f e)
  where
    go : Dec (f < e) → get_or (from t f e) 0 e ≡ f
    go (yes u) = ap (λ us. get_or us 0 e) (from_next t f (f + 1) e p u refl)
    go (no n) = let z : e ≡ f = omega (arith, p.within) in ap (λ us. get_or us 0 e) (from_end t f e (omega arith)) ∙ z

-- ---- values set at them

-- nothing lies from a up to a
none_in : (t : List ℕ) (a x : ℕ) → false ≡ usable_in t a a x
none_in t a x = go (dec_lt x a)
  where
    go : Dec (x < a) → false ≡ usable_in t a a x
    go (yes l) = rw (lt-leb a x l)
    go (no n) = rw (le-ltb x a (omega arith)) (sym (and-false (leb a x)))

-- but for a itself, what lies from a on lies from the next address on
past_first : (t : List ℕ) (a z x : ℕ) → (a ≡ x → ⊥) → usable_in t (suc a) z x ≡ usable_in t a z x
past_first t a z x n = go (dec_lt a x)
  where
    go : Dec (a < x) → usable_in t (suc a) z x ≡ usable_in t a z x
    go (yes l) = rw (le-leb (suc a) x l, le-leb a x (omega arith))
    go (no m) = rw (lt-leb (suc a) x (omega arith), lt-leb a x (omega arith))

first-usable : (t : List ℕ) (a z x : ℕ) → eqb (byte t a) 0 ≡ true → a < z → eqb a x || usable_in t (suc a) z x ≡ usable_in t a z x
first-usable t a z x q l = go (ℕ_discrete a x)
  where
    go : Dec (a ≡ x) → eqb a x || usable_in t (suc a) z x ≡ usable_in t a z x
    go (yes e) = rw (← e, eq-eqb a a refl, le-leb a a (omega arith), lt-ltb a z l, q)
    go (no n) = rw (ne_eqb a x n) (past_first t a z x n)

first-skipped : (t : List ℕ) (a z x : ℕ) → eqb (byte t a) 0 ≡ false → usable_in t (suc a) z x ≡ usable_in t a z x
first-skipped t a z x q = go (ℕ_discrete a x)
  where
    go : Dec (a ≡ x) → usable_in t (suc a) z x ≡ usable_in t a z x
    go (yes e) = rw (← e, q, and-false (ltb a z), and-false (leb a a)) (and-false (leb (suc a) a))
    go (no n) = past_first t a z x n

-- the address after k others, or d, lies no lower than the first
nth-low : (t : List ℕ) (a n k d : ℕ) → a + n ≤ d → a ≤ get_or (unskipped t a n) k d
unfolding unskipped
nth-low t a zero k d l = omega arith
nth-low t a (suc n) k d l = go (eqb (byte t a) 0) refl k (λ k. nth-low t (suc a) n k d (omega arith))
  where
    go : (b : Bool) → eqb (byte t a) 0 ≡ b → (k : ℕ) → ((k : ℕ) → suc a ≤ get_or (unskipped t (suc a) n) k d) → a ≤ get_or (unskipped t a (suc n)) k d
    go true q zero ih = rw (q, unskipped) (omega arith)
    go true q (suc k) ih = rw (q, unskipped) (omega (arith, ih k))
    go false q k ih = rw (q, unskipped) (omega (arith, ih k))

-- the values set lie at the usable addresses up to the one after them, or up to the end
pub set-usable : (t : List ℕ) (a n d : ℕ) → d ≡ a + n → (vs : List ℕ) (x : ℕ) → is_set (unskipped t a n) vs x ≡ usable_in t a (get_or (unskipped t a n) (length vs) d) x
unfolding unskipped
set-usable t a zero d e vs x = let z : d ≡ a = omega arith in rw z (none_in t a x)
set-usable t a (suc n) d e vs x = go (eqb (byte t a) 0) refl vs (λ vs. set-usable t (suc a) n d (omega arith) vs x)
  where
    go : (b : Bool) → eqb (byte t a) 0 ≡ b → (vs : List ℕ)
        → ((vs : List ℕ) → is_set (unskipped t (suc a) n) vs x ≡ usable_in t (suc a) (get_or (unskipped t (suc a) n) (length vs) d) x)
        → is_set (unskipped t a (suc n)) vs x ≡ usable_in t a (get_or (unskipped t a (suc n)) (length vs) d) x
    go true q [] ih = rw (q, unskipped) (none_in t a x)
    go true q (v ∷ vs) ih =
        rw (q, unskipped)
        (ap (λ b. eqb a x || b) (ih vs)
        ∙ first-usable t a (get_or (unskipped t (suc a) n) (length vs) d) x q (nth-low t (suc a) n (length vs) d (omega arith)))
    go false q vs ih = rw (q, unskipped) (ih vs ∙ first-skipped t a (get_or (unskipped t (suc a) n) (length vs) d) x q)
