-- What a turn of a loop does to lists: one more element taken, one more byte filled in.
-- Assumes nothing.
use mathlib.Core.Path.{◌≡◌}
use mathlib.Core.List.{List, ◌∷◌, ◌++◌, map, append_assoc}
use Prim.Native.Nat.{ℕ, zero, suc, ◌+◌, ◌-◌, ◌<◌}
use native.Mathlib.Numerals.{add-one}
use native.Mathlib.Omega.{arith}
use lib.ListN.{length, get_or, set, take, drop}
use lib.Seq.{take-suc-set, drop-set-lt, drop-cons}
use Rattle.tag.specs.Bytes.{overwrite}

-- ---- one taken

pub get_or-next : (k a d : ℕ) (us : List ℕ) → 0 < k → get_or (a ∷ us) k d ≡ get_or us (k - 1) d
get_or-next zero a d us h = absurd (omega arith)
get_or-next (suc k) a d us h = let e : suc k - 1 ≡ k = omega arith in rw e

take_next : (n a : ℕ) (us : List ℕ) → 0 < n → take n (a ∷ us) ≡ a ∷ take (n - 1) us
take_next zero a us h = absurd (omega arith)
take_next (suc n) a us h = let e : suc n - 1 ≡ n = omega arith in rw e

pub drop-next : (n a : ℕ) (us : List ℕ) → 0 < n → drop n (a ∷ us) ≡ drop (n - 1) us
drop-next zero a us h = absurd (omega arith)
drop-next (suc n) a us h = let e : suc n - 1 ≡ n = omega arith in rw e

-- ---- a store behind the k bytes that are filled

put_next : (k v : ℕ) (xs out : List ℕ) → k < length out
    → take k out ++ overwrite (v ∷ xs) (drop k out) ≡ take (k + 1) (set out k v) ++ overwrite xs (drop (k + 1) (set out k v))
put_next k v xs out h =
    let f : k < suc k = omega arith in
    rw (add-one k, take-suc-set out k v h, drop-set-lt (suc k) out k v f, append_assoc, drop-cons out k 0 h)

pub gather-next : (f : ℕ → ℕ) (k n a : ℕ) (us out : List ℕ) → k < n → k < length out
    → take k out ++ overwrite (map f (take (n - k) (a ∷ us))) (drop k out)
    ≡ take (k + 1) (set out k (f a)) ++ overwrite (map f (take (n - (k + 1)) us)) (drop (k + 1) (set out k (f a)))
gather-next f k n a us out l h =
    let e : n - k - 1 ≡ n - (k + 1) = omega arith in
    rw (take_next (n - k) a us (omega arith), e) (put_next k (f a) (map f (take (n - (k + 1)) us)) out h)
