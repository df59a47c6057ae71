-- The bound of a search is reached: n areas from address 0 on, each an address shorter than the one before. The search from 0 on tests
-- every address up to the first usable one, n.
-- Assumes nothing.
use mathlib.Core.Path.{◌≡◌, refl, ap, ◌∙◌}
use mathlib.Core.Bool.{and-false}
use mathlib.Core.List.{List, [], ◌∷◌}
use Prim.Native.Nat.{ℕ, zero, suc, ◌+◌, ◌-◌, ◌<◌, ◌≤◌}
use native.Mathlib.Decide.{dec_lt}
use native.Mathlib.Omega.{arith}
use borrow.Author.Tests.{le-leb, lt-leb, lt-ltb, le-ltb}
use lib.Dec.{leb}
use lib.ListN.{length, replicate, length-replicate, get_or-replicate}
use Rattle.tag.specs.Bytes.{byte}
use Rattle.tlv.specs.Views.Areas.{SkipsSet}
use Rattle.tlv.specs.Views.Counted.{Added, TableOf}
use Rattle.tlv.specs.Views.Search.{tests, BoundReached}
use Rattle.tlv.specs.Views.Specimens.{entered_from, entered}
use Rattle.tlv.proofs.Counted.{none-added, one-added}
use Rattle.tlv.proofs.Tests.{tests-on, tests-found, tests-end}

-- ---- one area entered

entered-length : (first stop x : ℕ) (t : List ℕ) → length (entered_from first stop x t) ≡ length t
unfolding entered_from
entered-length first stop x [] = refl
entered-length first stop x (e ∷ es) = ap suc (entered-length first stop (suc x) es)

entered-inside : (first stop x : ℕ) (t : List ℕ) (k : ℕ) → k < length t → first ≤ x + k → x + k < stop → byte (entered_from first stop x t) k ≡ stop
unfolding entered_from
entered-inside first stop x [] k h l b = absurd (omega arith)
entered-inside first stop x (e ∷ es) zero h l b =
    let low : first ≤ x = omega arith in
    let high : x < stop = omega arith in
    rw (le-leb first x low, lt-ltb x stop high)
entered-inside first stop x (e ∷ es) (suc k) h l b = entered-inside first stop (suc x) es k (omega arith) (omega arith) (omega arith)

entered-before : (first stop x : ℕ) (t : List ℕ) (k : ℕ) → x + k < first → byte (entered_from first stop x t) k ≡ byte t k
unfolding entered_from
entered-before first stop x [] k l = refl
entered-before first stop x (e ∷ es) zero l = let low : x < first = omega arith in rw (lt-leb first x low)
entered-before first stop x (e ∷ es) (suc k) l = entered-before first stop (suc x) es k (omega arith)

entered-after : (first stop x : ℕ) (t : List ℕ) (k : ℕ) → stop ≤ x + k → byte (entered_from first stop x t) k ≡ byte t k
unfolding entered_from
entered-after first stop x [] k l = refl
entered-after first stop x (e ∷ es) zero l = let high : stop ≤ x = omega arith in rw (le-ltb x stop high, and-false (leb first x))
entered-after first stop x (e ∷ es) (suc k) l = entered-after first stop (suc x) es k (omega arith)

entered-skips : (first stop : ℕ) (t : List ℕ) → stop ≤ length t → SkipsSet t (entered first stop t) first stop
entered-skips first stop t h = record {
  same_length = entered-length first stop 0 t;
  inside = λ x l b. entered-inside first stop 0 t x (omega arith) (omega arith) (omega arith);
  before = λ x b. entered-before first stop 0 t x (omega arith);
  after = λ x l. entered-after first stop 0 t x (omega arith);
}

-- ---- n areas

-- after j of them
unfoldable nested : ℕ → ℕ → List ℕ
nested n zero = replicate (n + 1) 0
nested n (suc j) = entered 0 (n - j) (nested n j)

nested-length : (n j : ℕ) → length (nested n j) ≡ n + 1
unfolding nested
nested-length n zero = length-replicate (n + 1) 0
nested-length n (suc j) = entered-length 0 (n - j) 0 (nested n j) ∙ nested-length n j

nested-areas : (n j : ℕ) → Added 0 (n + 1) j (replicate (n + 1) 0) (nested n j)
unfolding nested
nested-areas n zero = none-added 0 (n + 1) (replicate (n + 1) 0)
nested-areas n (suc j) =
    one-added j (replicate (n + 1) 0) (nested-areas n j) (record {
      from = 0;
      to = n - j;
      late = omega arith;
      inside = omega arith;
      skips = entered-skips 0 (n - j) (nested n j) (omega (arith, nested-length n j));
    })

nested-table : (n : ℕ) → TableOf (n + 1) n (nested n n)
nested-table n = rw (nested-length n n) (nested-areas n n)

-- the address after it
nested-entry : (n j x : ℕ) → n ≤ x + j → x < n → byte (nested n j) x ≡ x + 1
unfolding nested
nested-entry n zero x l b = absurd (omega arith)
nested-entry n (suc j) x l b = go (dec_lt x (n - j)) (λ m. nested-entry n j x m b)
  where
    go : Dec (x < n - j) → (n ≤ x + j → byte (nested n j) x ≡ x + 1) → byte (entered 0 (n - j) (nested n j)) x ≡ x + 1
    go (yes h) ih = omega (arith, entered-inside 0 (n - j) 0 (nested n j) x (omega (arith, nested-length n j)) (omega arith) (omega arith))
    go (no h) ih = omega (arith, entered-after 0 (n - j) 0 (nested n j) x (omega arith), ih (omega arith))

nested-usable : (n j : ℕ) → byte (nested n j) n ≡ 0
unfolding nested
nested-usable n zero = get_or-replicate (n + 1) n 0 0 (omega arith)
nested-usable n (suc j) = entered-after 0 (n - j) 0 (nested n j) n (omega arith) ∙ nested-usable n j

-- ---- the search

each-tested : (n fuel a : ℕ) → a + fuel ≡ n + 1 → length (tests (nested n n) (n + 1) fuel a) ≡ fuel
each-tested n zero a e = ap length (tests-end (nested n n) (n + 1) 0 a (omega arith))
each-tested n (suc fuel) a e = go (dec_lt a n) (each-tested n fuel (a + 1) (omega arith))
  where
    t : List ℕ
    t = nested n n

    go : Dec (a < n) → length (tests t (n + 1) fuel (a + 1)) ≡ fuel → length (tests t (n + 1) (suc fuel) a) ≡ suc fuel
    go (yes l) ih =
        let next : byte t a ≡ a + 1 = nested-entry n n a (omega arith) l in
        ap length (tests-on t (n + 1) fuel a (omega arith) (omega arith)) ∙ ap suc (ap (λ b. length (tests t (n + 1) fuel b)) next ∙ ih)
    go (no l) ih =
        let last : a ≡ n = omega arith in
        let usable : byte t a ≡ 0 = ap (byte t) last ∙ nested-usable n n in
        omega (arith, ap length (tests-found t (n + 1) fuel a (omega arith) usable))

pub bound-reached : BoundReached
bound-reached n =
    let e : n + 1 - 0 ≡ n + 1 = omega arith in
    record { table = nested n n; end = n + 1; at = 0; areas = nested-table n; tested = rw e (each-tested n (n + 1) 0 (omega arith)) }
