-- Runs of numbers: their length, their members, and parts of them. Also the bytes of a list at a run of places,
-- and what an overlay over a run sets.
-- Assumes nothing.
use mathlib.Core.Path.{◌≡◌, refl, ap, ◌∙◌}
use mathlib.Core.Bool.{true, false, ◌&&◌, ◌||◌, and-false}
use mathlib.Core.List.{List, [], ◌∷◌, map}
use Prim.Native.Nat.{ℕ, zero, suc, ◌+◌, ◌-◌, ◌<◌, ◌≤◌, min}
use native.Mathlib.Omega.{arith}
use native.Mathlib.Decide.{ℕ_discrete, dec_lt}
use borrow.Author.Tests.{eq-eqb, ne_eqb, le-leb, lt-leb, lt-ltb, le-ltb}
use lib.Dec.{leb, ltb, eqb}
use lib.ListN.{length, get_or, take, drop}
use lib.Seq.{take_all, take-nil, drop-nil, drop-cons}
use Rattle.tag.specs.Bytes.{byte, run, is_set}

pub length_run : (n s : ℕ) → length (run s n) ≡ n
length_run zero s = refl
length_run (suc n) s = ap suc (length_run n (suc s))

-- the number after k others
pub run-nth : (n s k d : ℕ) → k < n → get_or (run s n) k d ≡ s + k
run-nth zero s k d l = absurd (omega arith)
run-nth (suc n) s zero d l = omega arith
run-nth (suc n) s (suc k) d l = run-nth n (suc s) k d (omega arith) ∙ omega arith

-- the bytes at a run of places
pub map-run : (n s : ℕ) (j : List ℕ) → s + n ≤ length j → map (byte j) (run s n) ≡ take n (drop s j)
map-run zero s j l = refl
map-run (suc n) s j l = rw (drop-cons j s 0 (omega arith)) (ap (λ r. byte j s ∷ r) (map-run n (suc s) j (omega arith)))

-- a list is its bytes
pub bytes_of : (l : List ℕ) (n : ℕ) → length l ≡ n → map (byte l) (run 0 n) ≡ l
bytes_of l n e = map-run n 0 l (omega arith) ∙ take_all n l (omega arith)

-- ---- cut

take-of-run : (k n s : ℕ) → take n (run s k) ≡ run s (min n k)
take-of-run zero n s = let e : min n 0 ≡ 0 = omega arith in rw e (take-nil n)
take-of-run (suc k) zero s = let e : min 0 (suc k) ≡ 0 = omega arith in rw e
take-of-run (suc k) (suc n) s = let e : min (suc n) (suc k) ≡ suc (min n k) = omega arith in rw e (ap (λ r. s ∷ r) (take-of-run k n (suc s)))

pub take-run : (n k s : ℕ) → n ≤ k → take n (run s k) ≡ run s n
take-run n k s l = let e : min n k ≡ n = omega arith in take-of-run k n s ∙ ap (run s) e

drop-of-run : (k n s : ℕ) → drop n (run s k) ≡ run (s + n) (k - n)
drop-of-run zero n s = let e : 0 - n ≡ 0 = omega arith in rw e (drop-nil n)
drop-of-run (suc k) zero s =
    let e : suc k - 0 ≡ suc k = omega arith in
    let f : s + 0 ≡ s = omega arith in
    rw (e, f)
drop-of-run (suc k) (suc n) s =
    let e : suc k - suc n ≡ k - n = omega arith in
    let f : s + suc n ≡ suc s + n = omega arith in
    rw (e, f) (drop-of-run k n (suc s))

pub map-take : {A B : Type 0} (f : A → B) (n : ℕ) (xs : List A) → take n (map f xs) ≡ map f (take n xs)
map-take f zero xs = refl
map-take f (suc n) [] = refl
map-take f (suc n) (x ∷ xs) = ap (λ r. f x ∷ r) (map-take f n xs)

pub map-drop : {A B : Type 0} (f : A → B) (n : ℕ) (xs : List A) → drop n (map f xs) ≡ map f (drop n xs)
map-drop f zero xs = refl
map-drop f (suc n) [] = refl
map-drop f (suc n) (x ∷ xs) = map-drop f n xs

-- ---- an overlay over a run

-- a run of addresses sets each of them, and nothing else
pub run_in : (s n : ℕ) (vs : List ℕ) (a : ℕ) → n ≤ length vs → s ≤ a → a < s + n → is_set (run s n) vs a ≡ true
run_in s zero vs a l h u = absurd (omega arith)
run_in s (suc n) [] a l h u = absurd (omega arith)
run_in s (suc n) (v ∷ vs) a l h u = go (ℕ_discrete s a) (run_in (suc s) n vs a (omega arith))
  where
    go : Dec (s ≡ a) → (suc s ≤ a → a < suc s + n → is_set (run (suc s) n) vs a ≡ true) → eqb s a || is_set (run (suc s) n) vs a ≡ true
    go (yes e) ih = rw (eq-eqb s a e)
    go (no e) ih = rw (ne_eqb s a e) (ih (omega arith) (omega arith))

run-below : (s n : ℕ) (vs : List ℕ) (a : ℕ) → a < s → is_set (run s n) vs a ≡ false
run-below s zero vs a h = refl
run-below s (suc n) [] a h = refl
run-below s (suc n) (v ∷ vs) a h = rw (ne_eqb s a (λ e. omega arith)) (run-below (suc s) n vs a (omega arith))

run-above : (s n : ℕ) (vs : List ℕ) (a : ℕ) → s + n ≤ a → is_set (run s n) vs a ≡ false
run-above s zero vs a h = refl
run-above s (suc n) [] a h = refl
run-above s (suc n) (v ∷ vs) a h = rw (ne_eqb s a (λ e. omega arith)) (run-above (suc s) n vs a (omega arith))

pub run-set : (s n : ℕ) (vs : List ℕ) (a : ℕ) → n ≤ length vs → is_set (run s n) vs a ≡ leb s a && ltb a (s + n)
run-set s n vs a l = go (dec_lt a s) (dec_lt a (s + n))
  where
    go : Dec (a < s) → Dec (a < s + n) → is_set (run s n) vs a ≡ leb s a && ltb a (s + n)
    go (yes b) u = rw (lt-leb s a b) (run-below s n vs a b)
    go (no b) (yes u) = rw (le-leb s a (omega arith), lt-ltb a (s + n) u) (run_in s n vs a l (omega arith) u)
    go (no b) (no u) = rw (le-ltb a (s + n) (omega arith), and-false (leb s a)) (run-above s n vs a (omega arith))
