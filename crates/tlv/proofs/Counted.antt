-- Skip tables by the areas that they skip: one area more, two runs of areas one after the other, and what no area changes.
-- Assumes nothing.
use mathlib.Core.Path.{◌≡◌, refl, ap, ◌∙◌}
use mathlib.Core.Bool.{true}
use mathlib.Core.List.{List}
use Prim.Native.Nat.{ℕ, zero, suc, ◌+◌, ◌<◌, ◌≤◌}
use native.Mathlib.Decide.{dec_lt}
use native.Mathlib.Omega.{arith}
use lib.ListN.{length, get_or, replicate, length-replicate}
use Rattle.tag.specs.Bytes.{byte, run}
use Rattle.tag.proofs.Runs.{run-nth}
use Rattle.tlv.specs.Views.Table.{unskipped, none_skipped}
use Rattle.tlv.specs.Views.Counted.{OneMore, Added, TableOf}
use Rattle.tlv.proofs.Skipping.{unskipped-all, none-all}

pub none-added : (first end : ℕ) (t : List ℕ) → Added first end 0 t t
unfolding Added
none-added first end t = refl

pub one-added : (n : ℕ) (t : List ℕ) {first end : ℕ} {s u : List ℕ} → Added first end n t s → OneMore first end s u → Added first end (suc n) t u
unfolding Added
one-added n t {first} {end} {s} {u} a o = (s, a, o)

-- ---- the addresses that count

pub one_wider : {first low end high : ℕ} {t u : List ℕ} → low ≤ first → end ≤ high → OneMore first end t u → OneMore low high t u
one_wider l h o = record { from = o.from; to = o.to; late = omega (arith, o.late); inside = omega (arith, o.inside); skips = o.skips }

pub added-wider : {first low end high : ℕ} (n : ℕ) (t u : List ℕ) → low ≤ first → end ≤ high → Added first end n t u → Added low high n t u
unfolding Added
added-wider zero t u l h a = a
added-wider (suc n) t u l h a = (a.0, added-wider n t a.0 l h a.1, one_wider l h a.2)

-- the end stays
pub one_from : {first low end : ℕ} {t u : List ℕ} → low ≤ first → OneMore first end t u → OneMore low end t u
one_from l o = one_wider l (omega arith) o

pub added-from : {first low : ℕ} (end n : ℕ) (t u : List ℕ) → low ≤ first → Added first end n t u → Added low end n t u
added-from end n t u l a = added-wider n t u l (omega arith) a

module _ (first end : ℕ) where
  -- ---- more areas after the first ones

  pub added_more : (n m : ℕ) (t s u : List ℕ) → Added first end n t s → Added first end m s u → Added first end (n + m) t u
  unfolding Added
  added_more n zero t s u a b = let e : n + 0 ≡ n = omega arith in rw (e, b) a
  added_more n (suc m) t s u a b =
      let e : n + suc m ≡ suc (n + m) = omega arith in
      rw e (b.0, added_more n m t s b.0 a b.1, b.2)

  -- ---- what no area changes

  pub added-length : (n : ℕ) (t u : List ℕ) → Added first end n t u → length u ≡ length t
  unfolding Added
  added-length zero t u a = ap length a
  added-length (suc n) t u a = a.2.skips.same_length ∙ added-length n t a.0 a.1

  pub added-before : (n : ℕ) (t u : List ℕ) → Added first end n t u → (x : ℕ) → x < first → byte u x ≡ byte t x
  unfolding Added
  added-before zero t u a x l = ap (λ s. byte s x) a
  added-before (suc n) t u a x l = a.2.skips.before x (omega (arith, a.2.late)) ∙ added-before n t a.0 a.1 x l

  one-after : {t u : List ℕ} → OneMore first end t u → (x : ℕ) → end ≤ x → byte u x ≡ byte t x
  one-after {t} {u} o x l = go (dec_lt x o.from)
    where
      go : Dec (x < o.from) → byte u x ≡ byte t x
      go (yes b) = o.skips.before x b
      go (no b) = o.skips.after x (omega (arith, o.inside))

  pub added-after : (n : ℕ) (t u : List ℕ) → Added first end n t u → (x : ℕ) → end ≤ x → byte u x ≡ byte t x
  unfolding Added
  added-after zero t u a x l = ap (λ s. byte s x) a
  added-after (suc n) t u a x l = one-after a.2 x l ∙ added-after n t a.0 a.1 x l

-- ---- a table that was all zeros

-- before the first area
pub blank-areas : (end m : ℕ) → TableOf end 0 (replicate m 0)
blank-areas end m = rw (length-replicate {A = ℕ} m 0) (none-added 0 end (replicate m 0))

-- after more of them
pub areas-added : (first end n m : ℕ) (t u : List ℕ) → TableOf end n t → Added first end m t u → TableOf end (n + m) u
areas-added first end n m t u made more =
    let all : Added 0 end m t u = added-from end m t u (omega arith) more in
    rw (added-length 0 end m t u all) (added_more 0 end n m (replicate (length t) 0) t u made all)

-- with no area declared nothing is skipped
pub none-declared : (end : ℕ) (t : List ℕ) → TableOf end 0 t → (a n : ℕ) → unskipped t a n ≡ run a n
unfolding Added
none-declared end t none a n = ap (λ s. unskipped s a n) none ∙ unskipped-all (length t) a n

pub none-nth : (end : ℕ) (t : List ℕ) → TableOf end 0 t → (a n k d : ℕ) → k < n → get_or (unskipped t a n) k d ≡ a + k
none-nth end t none a n k d l = ap (λ us. get_or us k d) (none-declared end t none a n) ∙ run-nth n a k d l

pub none_free : (end : ℕ) (t : List ℕ) → TableOf end 0 t → (a n : ℕ) → none_skipped t a n ≡ true
unfolding Added
none_free end t none a n = ap (λ s. none_skipped s a n) none ∙ none-all (length t) a n
