-- The skip table against the list of usable addresses: one address passed or taken, how many there are, whether none is skipped,
-- the one after k others, and an area skipped.
-- Assumes nothing.
use mathlib.Core.Path.{◌≡◌, refl, sym, ap, ◌∙◌}
use mathlib.Core.Bool.{Bool, true, false, not, ◌&&◌, and_assoc}
use mathlib.Core.List.{List, [], ◌∷◌, ◌++◌}
use Prim.Native.Nat.{ℕ, zero, suc, ◌+◌, ◌-◌, ◌<◌, ◌≤◌}
use native.Mathlib.Omega.{arith}
use borrow.Author.Tests.{ne_eqb}
use lib.Bits.{bit_or, or_zero_l, or_add_and, and_le_r}
use lib.Dec.{eqb}
use lib.ListN.{length, get_or, take, drop, replicate}
use Rattle.std.proofs.lemmas.List.{get_or-take, get_or-drop}
use mir.Val.{bool_byte}
use Rattle.tag.specs.Bytes.{byte, run}
use Rattle.tag.proofs.Logic.{and_l, and_r}
use Rattle.tlv.specs.Areas.{Area, covers, without}
use Rattle.tlv.specs.Views.Table.{unskipped, none_skipped}

pub unskipped-pass : (t : List ℕ) (a n : ℕ) → eqb (byte t a) 0 ≡ false → 0 < n → unskipped t a n ≡ unskipped t (a + 1) (n - 1)
unfolding unskipped
unskipped-pass t a zero q h = absurd (omega arith)
unskipped-pass t a (suc n) q h =
    let e : suc n - 1 ≡ n = omega arith in
    let f : a + 1 ≡ suc a = omega arith in
    rw (q, unskipped) (rw (e, f))

pub unskipped-take : (t : List ℕ) (a n : ℕ) → eqb (byte t a) 0 ≡ true → 0 < n → unskipped t a n ≡ a ∷ unskipped t (a + 1) (n - 1)
unfolding unskipped
unskipped-take t a zero q h = absurd (omega arith)
unskipped-take t a (suc n) q h =
    let e : suc n - 1 ≡ n = omega arith in
    let f : a + 1 ≡ suc a = omega arith in
    rw (q, unskipped) (rw (e, f))

pub unskipped-end : (t : List ℕ) (a n : ℕ) → n ≡ 0 → unskipped t a n ≡ []
unfolding unskipped
unskipped-end t a n e = rw e

-- ---- parts of the table

-- the part from a up to e has the entries of the table
part-agrees : (t : List ℕ) (a e k : ℕ) → k < e - a → byte (take (e - a) (drop a t)) (0 + k) ≡ byte t (a + k)
part-agrees t a e k l = let z : 0 + k ≡ k = omega arith in rw z (get_or-take (e - a) (drop a t) k 0 l ∙ get_or-drop a t k 0)

-- tables that agree for n + 1 entries agree in the first, and in the n after it
agree-first : (t u : List ℕ) (a b n : ℕ) → ((k : ℕ) → k < suc n → byte t (a + k) ≡ byte u (b + k))
    → (byte t a ≡ byte u b) × ((k : ℕ) → k < n → byte t (suc a + k) ≡ byte u (suc b + k))
agree-first t u a b n h =
    let e : a + 0 ≡ a = omega arith in
    let f : b + 0 ≡ b = omega arith in (
      rw (e, f) at (h 0 (omega arith)),
      λ k l. let x : a + suc k ≡ suc a + k = omega arith in let y : b + suc k ≡ suc b + k = omega arith in rw (x, y) at (h (suc k) (omega arith)),
    )

-- ---- counted

pub one_at_most : (b : Bool) → bool_byte b ≤ 1
one_at_most true = omega arith
one_at_most false = omega arith

pub unskipped-count : (t : List ℕ) (a n : ℕ) → 0 < n
    → bool_byte (eqb (byte t a) 0) + length (unskipped t (a + 1) (n - 1)) ≡ length (unskipped t a n)
unskipped-count t a n h = go (eqb (byte t a) 0) refl
  where
    go : (b : Bool) → eqb (byte t a) 0 ≡ b → bool_byte b + length (unskipped t (a + 1) (n - 1)) ≡ length (unskipped t a n)
    go true q = omega (arith, ap length (unskipped-take t a n q h))
    go false q = omega (arith, ap length (unskipped-pass t a n q h))

pub unskipped-few : (t : List ℕ) (a n : ℕ) → length (unskipped t a n) ≤ n
unfolding unskipped
unskipped-few t a zero = omega arith
unskipped-few t a (suc n) = go (eqb (byte t a) 0) refl (unskipped-few t (suc a) n)
  where
    go : (b : Bool) → eqb (byte t a) 0 ≡ b → length (unskipped t (suc a) n) ≤ n → length (unskipped t a (suc n)) ≤ suc n
    go true q ih = rw (q, unskipped) (omega arith)
    go false q ih = rw (q, unskipped) (omega arith)

-- in two tables that agree from a on and from b on
count-same : (t u : List ℕ) (a b n : ℕ) → ((k : ℕ) → k < n → byte t (a + k) ≡ byte u (b + k)) → length (unskipped t a n) ≡ length (unskipped u b n)
count-same t u a b zero h = ap length (unskipped-end t a 0 refl ∙ sym (unskipped-end u b 0 refl))
count-same t u a b (suc n) h =
    let s = agree-first t u a b n h in
    let l : 0 < suc n = omega arith in
    let x : a + 1 ≡ suc a = omega arith in
    let y : b + 1 ≡ suc b = omega arith in
    let z : suc n - 1 ≡ n = omega arith in
    let i : length (unskipped t (a + 1) (suc n - 1)) ≡ length (unskipped u (b + 1) (suc n - 1)) = rw (x, y, z) (count-same t u (suc a) (suc b) n s.1) in
    sym (unskipped-count t a (suc n) l) ∙ rw (s.0, i) (unskipped-count u b (suc n) l)

-- in the part of the table from a up to e
pub count-part : (t : List ℕ) (a e : ℕ) → length (unskipped (take (e - a) (drop a t)) 0 (e - a)) ≡ length (unskipped t a (e - a))
count-part t a e = count-same (take (e - a) (drop a t)) t 0 a (e - a) (part-agrees t a e)

-- ---- none skipped

or-zero : (x y : ℕ) → eqb (bit_or x y) 0 ≡ eqb x 0 && eqb y 0
or-zero zero y = ap (λ z. eqb z 0) (or_zero_l y)
or-zero (suc x) y =
    rw (ne_eqb (suc x) 0 (λ e. absurd (omega (arith, e))))
    (ne_eqb (bit_or (suc x) y) 0 (λ e. absurd (omega (arith, e, or_add_and (suc x) y, and_le_r (suc x) y))))

pub none-next : (t : List ℕ) (a e x : ℕ) → a < e
    → eqb (bit_or x (byte t a)) 0 && none_skipped t (a + 1) (e - (a + 1)) ≡ eqb x 0 && none_skipped t a (e - a)
unfolding none_skipped
none-next t a e x l =
    let s : e - a ≡ suc (e - (a + 1)) = omega arith in
    let f : a + 1 ≡ suc a = omega arith in
    rw (s, or-zero x (byte t a), none_skipped, f) (and_assoc (eqb x 0) (eqb (byte t a) 0) _)

pub none_end : (t : List ℕ) (a n : ℕ) (b : Bool) → n ≡ 0 → b ≡ b && none_skipped t a n
unfolding none_skipped
none_end t a n true z = rw z
none_end t a n false z = refl

-- two tables that agree from a on and from b on
none-same : (t u : List ℕ) (a b n : ℕ) → ((k : ℕ) → k < n → byte t (a + k) ≡ byte u (b + k)) → none_skipped t a n ≡ none_skipped u b n
unfolding none_skipped
none-same t u a b zero h = refl
none-same t u a b (suc n) h = let s = agree-first t u a b n h in rw (s.0, none-same t u (suc a) (suc b) n s.1)

-- in the part of the table from a up to e
pub none-part : (t : List ℕ) (a e : ℕ) → none_skipped (take (e - a) (drop a t)) 0 (e - a) ≡ none_skipped t a (e - a)
none-part t a e = none-same (take (e - a) (drop a t)) t 0 a (e - a) (part-agrees t a e)

-- ---- the one after k others

-- if none up to it is skipped
pub unskipped-nth : (t : List ℕ) (a k n d : ℕ) → k < n → none_skipped t a (suc k) ≡ true → get_or (unskipped t a n) k d ≡ a + k
unfolding unskipped none_skipped
unskipped-nth t a k zero d l h = absurd (omega arith)
unskipped-nth t a zero (suc n) d l h = rw (and_l (eqb (byte t a) 0) true h, unskipped) (omega arith)
unskipped-nth t a (suc k) (suc n) d l h =
    rw (and_l (eqb (byte t a) 0) (none_skipped t (suc a) (suc k)) h, unskipped)
    (omega (arith, unskipped-nth t (suc a) k n d (omega arith) (and_r (eqb (byte t a) 0) (none_skipped t (suc a) (suc k)) h)))

-- what comes after it
pub unskipped-past : (t : List ℕ) (a k n d : ℕ) → k < length (unskipped t a n)
    → unskipped t (get_or (unskipped t a n) k d + 1) (a + n - (get_or (unskipped t a n) k d + 1)) ≡ drop (suc k) (unskipped t a n)
unfolding unskipped
unskipped-past t a k zero d l = absurd (omega arith)
unskipped-past t a k (suc n) d l = go k (eqb (byte t a) 0) refl l (λ j m. unskipped-past t (suc a) j n d m)
  where
    e : suc a + n ≡ a + suc n
    e = omega arith

    go : (k : ℕ) (b : Bool) → eqb (byte t a) 0 ≡ b → k < length (unskipped t a (suc n))
        → ((j : ℕ) → j < length (unskipped t (suc a) n)
        → unskipped t (get_or (unskipped t (suc a) n) j d + 1) (suc a + n - (get_or (unskipped t (suc a) n) j d + 1)) ≡ drop (suc j) (unskipped t (suc a) n))
        → unskipped t (get_or (unskipped t a (suc n)) k d + 1) (a + suc n - (get_or (unskipped t a (suc n)) k d + 1)) ≡ drop (suc k) (unskipped t a (suc n))
    go k false q m ih = rw (q, unskipped) (rw e at (ih k (rw (q, unskipped) at m)))
    go zero true q m ih =
        let f : a + 1 ≡ suc a = omega arith in
        let g : a + suc n - suc a ≡ n = omega arith in
        rw (q, unskipped) (rw (f, g))
    go (suc j) true q m ih = rw (q, unskipped) (rw e at (ih j (omega (arith, rw (q, unskipped) at m))))

-- ---- tables

pub zeros : (m a : ℕ) → byte (replicate m 0) a ≡ 0
zeros zero a = refl
zeros (suc m) zero = refl
zeros (suc m) (suc a) = zeros m a

-- a table of zeros skips nothing
pub unskipped-all : (m a n : ℕ) → unskipped (replicate m 0) a n ≡ run a n
unfolding unskipped
unskipped-all m a zero = refl
unskipped-all m a (suc n) =
    rw (zeros m a, unskipped) (ap (λ us. a ∷ us) (unskipped-all m (suc a) n))

pub none-all : (m a n : ℕ) → none_skipped (replicate m 0) a n ≡ true
unfolding none_skipped
none-all m a zero = refl
none-all m a (suc n) = rw (zeros m a, none-all m (suc a) n)

-- addresses none of which is skipped come one after another, and then the rest
pub unskipped-run : (t : List ℕ) (a n k : ℕ) → none_skipped t a n ≡ true → unskipped t a (n + k) ≡ run a n ++ unskipped t (a + n) k
unfolding unskipped none_skipped
unskipped-run t a zero k h =
    let z : 0 + k ≡ k = omega arith in
    let y : a + 0 ≡ a = omega arith in
    rw (z, y)
unskipped-run t a (suc n) k h =
    let s : suc n + k ≡ suc (n + k) = omega arith in
    let f : a + suc n ≡ suc a + n = omega arith in
    rw (s, f, and_l (eqb (byte t a) 0) (none_skipped t (suc a) n) h, unskipped)
    (ap (λ us. a ∷ us) (unskipped-run t (suc a) n k (and_r (eqb (byte t a) 0) (none_skipped t (suc a) n) h)))

-- a table that grows by an area
pub skipped-more : (t u : List ℕ) (r : Area) (a n : ℕ)
    → ((x : ℕ) → a ≤ x → x < a + n → eqb (byte u x) 0 ≡ eqb (byte t x) 0 && not (covers r x))
    → unskipped u a n ≡ without r (unskipped t a n)
unfolding unskipped without
skipped-more t u r a zero h = refl
skipped-more t u r a (suc n) h = go (eqb (byte t a) 0) refl (covers r a) refl (skipped-more t u r (suc a) n (λ x l k. h x (omega arith) (omega arith)))
  where
    here : eqb (byte u a) 0 ≡ eqb (byte t a) 0 && not (covers r a)
    here = h a (omega arith) (omega arith)

    go : (p : Bool) → eqb (byte t a) 0 ≡ p → (q : Bool) → covers r a ≡ q → unskipped u (suc a) n ≡ without r (unskipped t (suc a) n)
        → unskipped u a (suc n) ≡ without r (unskipped t a (suc n))
    go false e q f ih = let g : eqb (byte u a) 0 ≡ false = here ∙ rw e in rw (g, unskipped) (rw (e, unskipped) ih)
    go true e true f ih = let g : eqb (byte u a) 0 ≡ false = here ∙ rw (e, f) in rw (g, unskipped) (rw (e, unskipped) (rw (f, without) ih))
    go true e false f ih = let g : eqb (byte u a) 0 ≡ true = here ∙ rw (e, f) in rw (g, unskipped) (rw (e, unskipped) (rw (f, without) (ap (λ us. a ∷ us) ih)))
