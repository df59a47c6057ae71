-- The table of n areas, as a search needs it: where an entry leads, and why no area serves a search twice.
-- Assumes nothing.
use mathlib.Core.Path.{◌≡◌, refl, ap}
use mathlib.Core.List.{List, [], ◌∷◌}
use Prim.Native.Nat.{ℕ, zero, suc, ◌+◌, ◌<◌, ◌≤◌}
use native.Mathlib.Decide.{dec_lt}
use native.Mathlib.Omega.{arith}
use borrow.Author.Tests.{lt-ltb, le-ltb}
use lib.Dec.{ltb}
use lib.ListN.{length, replicate}
use mir.Val.{bool_byte}
use Rattle.tag.specs.Bytes.{byte}
use Rattle.tlv.specs.Views.Areas.{SkipsSet}
use Rattle.tlv.specs.Views.Counted.{OneMore, Added, TableOf}
use Rattle.tlv.proofs.Skipping.{one_at_most, zeros}

-- how many of the ends lie past x
unfoldable pub past : List ℕ → ℕ → ℕ
past [] x = 0
past (e ∷ es) x = bool_byte (ltb x e) + past es x

-- what n areas leave in the table t. An entry leads on, to the end of an area, and everything up to that end is skipped. From there
-- fewer ends are to come.
pub record Leading (end n : ℕ) (t : List ℕ) : Type 0 where
  pub ends : List ℕ
  pub as_many : length ends ≡ n
  pub on : (a : ℕ) → 0 < byte t a → a < byte t a
  pub inside : (a : ℕ) → byte t a ≤ end
  pub skipped : (a : ℕ) → 0 < byte t a → (x : ℕ) → a ≤ x → x < byte t a → 0 < byte t x
  pub fewer : (a : ℕ) → 0 < byte t a → past ends (byte t a) < past ends a

-- ---- ends past an address

one-past : (e x y : ℕ) → x ≤ y → bool_byte (ltb y e) ≤ bool_byte (ltb x e)
one-past e x y l = go (dec_lt y e)
  where
    go : Dec (y < e) → bool_byte (ltb y e) ≤ bool_byte (ltb x e)
    go (yes h) = let k : x < e = omega arith in rw (lt-ltb y e h, lt-ltb x e k) (omega arith)
    go (no h) = let k : e ≤ y = omega arith in rw (le-ltb y e k) (omega arith)

past-falls : (es : List ℕ) (x y : ℕ) → x ≤ y → past es y ≤ past es x
unfolding past
past-falls [] x y l = omega arith
past-falls (e ∷ es) x y l = omega (arith, one-past e x y l, past-falls es x y l)

pub past-few : (es : List ℕ) (x : ℕ) → past es x ≤ length es
unfolding past
past-few [] x = omega arith
past-few (e ∷ es) x = omega (arith, one_at_most (ltb x e), past-few es x)

-- ---- one area more

-- the entry at x after one area more: the area covers x, or the entry is as it was
data Entry (t u : List ℕ) (first stop x : ℕ) : Type 0 where
  covered : first ≤ x → x < stop → byte u x ≡ stop → Entry t u first stop x
  kept : byte u x ≡ byte t x → Entry t u first stop x

entry : {t u : List ℕ} {first stop : ℕ} → SkipsSet t u first stop → (x : ℕ) → Entry t u first stop x
entry {t} {u} {first} {stop} m x = go (dec_lt x first) (dec_lt x stop)
  where
    go : Dec (x < first) → Dec (x < stop) → Entry t u first stop x
    go (yes b) d = kept (m.before x b)
    go (no b) (yes d) = covered (omega arith) d (m.inside x (omega arith) d)
    go (no b) (no d) = kept (m.after x (omega arith))

still-skipped : {t u : List ℕ} {first stop : ℕ} → SkipsSet t u first stop → (x : ℕ) → 0 < byte t x → 0 < byte u x
still-skipped {t} {u} {first} {stop} m x h = go (entry m x)
  where
    go : Entry t u first stop x → 0 < byte u x
    go (covered l b e) = omega arith
    go (kept e) = omega arith

module _ (first end n : ℕ) (t u : List ℕ) (o : OneMore first end t u) (L : Leading end n t) where
  m : SkipsSet t u o.from o.to
  m = o.skips

  on-more : (a : ℕ) → 0 < byte u a → a < byte u a
  on-more a h = go (entry m a)
    where
      go : Entry t u o.from o.to a → a < byte u a
      go (covered l b e) = omega arith
      go (kept e) = omega (arith, L.on a (omega arith))

  inside-more : (a : ℕ) → byte u a ≤ end
  inside-more a = go (entry m a)
    where
      go : Entry t u o.from o.to a → byte u a ≤ end
      go (covered l b e) = omega (arith, o.inside)
      go (kept e) = omega (arith, L.inside a)

  skipped-more : (a : ℕ) → 0 < byte u a → (x : ℕ) → a ≤ x → x < byte u a → 0 < byte u x
  skipped-more a h x l k = go (entry m a)
    where
      go : Entry t u o.from o.to a → 0 < byte u x
      go (covered f b e) = omega (arith, m.inside x (omega arith) (omega arith))
      go (kept e) = still-skipped m x (L.skipped a (omega arith) x l (omega arith))

  fewer-more : (a : ℕ) → 0 < byte u a → past (o.to ∷ L.ends) (byte u a) < past (o.to ∷ L.ends) a
  unfolding past
  fewer-more a h = go (entry m a)
    where
      go : Entry t u o.from o.to a → past (o.to ∷ L.ends) (byte u a) < past (o.to ∷ L.ends) a
      go (covered l b e) =
          let z : o.to ≤ o.to = omega arith in
          let r : a ≤ o.to = omega arith in
          rw (e, le-ltb o.to o.to z, lt-ltb a o.to b) (omega (arith, past-falls L.ends a o.to r))
      go (kept e) =
          let p : 0 < byte t a = omega arith in
          let r : a ≤ byte t a = omega (arith, L.on a p) in
          rw e (omega (arith, L.fewer a p, one-past o.to a (byte t a) r))

  leading-more : Leading end (suc n) u
  leading-more = record {
    ends = o.to ∷ L.ends;
    as_many = ap suc L.as_many;
    on = on-more;
    inside = inside-more;
    skipped = skipped-more;
    fewer = fewer-more;
  }

-- ---- all areas

none-lead : (end m : ℕ) → Leading end 0 (replicate m 0)
none-lead end m = record {
  ends = [];
  as_many = refl;
  on = λ a h. absurd (omega (arith, zeros m a));
  inside = λ a. omega (arith, zeros m a);
  skipped = λ a h. absurd (omega (arith, zeros m a));
  fewer = λ a h. absurd (omega (arith, zeros m a));
}

added-lead : (first end m n : ℕ) (u : List ℕ) → Added first end n (replicate m 0) u → Leading end n u
unfolding Added
added-lead first end m zero u a = rw a (none-lead end m)
added-lead first end m (suc n) u a = leading-more first end n a.0 u a.2 (added-lead first end m n a.0 a.1)

pub leading : (end n : ℕ) (t : List ℕ) → TableOf end n t → Leading end n t
leading end n t made = added-lead 0 end (length t) n t made

-- ---- a search

-- from a skipped address a to b, which lies no lower than the end in a's entry: one test more, and one end fewer to come
pub one_fewer : {end n : ℕ} {t : List ℕ} (L : Leading end n t) (a b tested : ℕ) → 0 < byte t a → byte t a ≤ b → tested + past L.ends a ≤ n
    → tested + 1 + past L.ends b ≤ n
one_fewer {end} {n} {t} L a b tested h l k = omega (arith, L.fewer a h, past-falls L.ends (byte t a) b l)
