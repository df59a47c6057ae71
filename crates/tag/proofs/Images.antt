-- Images byte by byte: the byte at an address after stores and after an overlay. Also the restart law: two images that differ only
-- at the addresses set have equal overlays.
-- Assumes nothing.
use mathlib.Core.Path.{◌≡◌, refl, sym, ◌∙◌}
use mathlib.Core.Bool.{Bool, true, false, not, false≢true}
use mathlib.Core.List.{List, [], ◌∷◌}
use Prim.Native.Nat.{ℕ, zero, suc, ◌+◌, ◌<◌, ◌≤◌}
use native.Mathlib.Nat.{add-zero, not-suc-le-zero}
use native.Mathlib.Omega.{arith}
use native.Mathlib.Decide.{ℕ_discrete}
use borrow.Author.Tests.{eqb-false, ne_eqb}
use lib.Dec.{eqb}
use lib.ListN.{length, get_or, set, length-set}
use lib.Seq.{sets, length-sets, get_or-set_same, get_or-set_other, ext_get_or}
use Rattle.tag.specs.Bytes.{byte, overlay, is_set}
use Rattle.tag.specs.Stores.{Store, Command, malformed, stores, put, puts, tag_after, cut}

-- ---- the byte at an address after stores

pub sets_below : (vs j : List ℕ) (s a : ℕ) → a < s → byte (sets j s vs) a ≡ byte j a
sets_below [] j s a h = refl
sets_below (v ∷ vs) j s a h = sets_below vs (set j s v) (suc s) a (omega arith) ∙ get_or-set_other j s a v 0 (omega arith)

pub sets-above : (vs j : List ℕ) (s a : ℕ) → s + length vs ≤ a → byte (sets j s vs) a ≡ byte j a
sets-above [] j s a h = refl
sets-above (v ∷ vs) j s a h = sets-above vs (set j s v) (suc s) a (omega arith) ∙ get_or-set_other j s a v 0 (omega arith)

pub sets-at : (vs j : List ℕ) (s k : ℕ) → k < length vs → s + k < length j → byte (sets j s vs) (s + k) ≡ get_or vs k 0
sets-at [] j s k h l = absurd (not-suc-le-zero h)
sets-at (v ∷ vs) j s zero h l =
    rw add-zero (sets_below vs (set j s v) (suc s) s (omega arith) ∙ get_or-set_same j s v 0 (omega arith))
sets-at (v ∷ vs) j s (suc k) h l =
    let e : s + suc k ≡ suc s + k = omega arith in
    rw e (sets-at vs (set j s v) (suc s) k (omega arith) (rw length-set (omega arith)))

-- ---- commands keep an image's length

pub length-puts : (ss : List Store) (j : List ℕ) → length (puts j ss) ≡ length j
length-puts [] j = refl
length-puts (s ∷ ss) j = length-puts ss (put j s) ∙ length-sets j s.at s.bytes

length-after : (j : List ℕ) (c : Command) → length (tag_after j c) ≡ length j
length-after j malformed = refl
length-after j (stores ss) = length-puts ss j

pub length_cut : (k : ℕ) (j : List ℕ) (cs : List Command) → length (cut k j cs) ≡ length j
length_cut zero j cs = refl
length_cut (suc k) j [] = refl
length_cut (suc k) j (c ∷ cs) = length_cut k (tag_after j c) cs ∙ length-after j c

-- ---- overlays

pub length-overlay : (us vs i : List ℕ) → length (overlay us vs i) ≡ length i
length-overlay [] vs i = refl
length-overlay (x ∷ us) [] i = refl
length-overlay (x ∷ us) (v ∷ vs) i = length-set (overlay us vs i) x v ∙ length-overlay us vs i

pub overlay-out : (us vs i : List ℕ) (a : ℕ) → not (is_set us vs a) ≡ true → byte (overlay us vs i) a ≡ byte i a
overlay-out [] vs i a h = refl
overlay-out (x ∷ us) [] i a h = refl
overlay-out (x ∷ us) (v ∷ vs) i a h = go (eqb x a) refl (overlay-out us vs i a)
  where
    go : (b : Bool) → eqb x a ≡ b → (not (is_set us vs a) ≡ true → byte (overlay us vs i) a ≡ byte i a) → byte (set (overlay us vs i) x v) a ≡ byte i a
    go true q ih = absurd (false≢true (rw q at h))
    go false q ih = get_or-set_other (overlay us vs i) x a v 0 (λ e. eqb-false x a q (sym e)) ∙ ih (rw q at h)

overlay-at : (us vs i j : List ℕ) (a : ℕ) → length j ≡ length i → a < length i → (not (is_set us vs a) ≡ true → byte j a ≡ byte i a) → byte (overlay us vs j) a ≡ byte (overlay us vs i) a
overlay-at [] vs i j a l b h = h refl
overlay-at (x ∷ us) [] i j a l b h = h refl
overlay-at (x ∷ us) (v ∷ vs) i j a l b h = go (ℕ_discrete x a) (overlay-at us vs i j a l b)
  where
    go : Dec (x ≡ a) → ((not (is_set us vs a) ≡ true → byte j a ≡ byte i a) → byte (overlay us vs j) a ≡ byte (overlay us vs i) a) → byte (set (overlay us vs j) x v) a ≡ byte (set (overlay us vs i) x v) a
    go (yes e) ih = rw e (get_or-set_same (overlay us vs j) a v 0 (rw length-overlay (omega arith)) ∙ sym (get_or-set_same (overlay us vs i) a v 0 (rw length-overlay (omega arith))))
    go (no n) ih =
        get_or-set_other (overlay us vs j) x a v 0 (λ e. n (sym e))
        ∙ ih (λ q. h (rw (ne_eqb x a n) q))
        ∙ sym (get_or-set_other (overlay us vs i) x a v 0 (λ e. n (sym e)))

pub restart : (us vs i j : List ℕ) → length j ≡ length i → ((a : ℕ) → a < length i → not (is_set us vs a) ≡ true → byte j a ≡ byte i a) → overlay us vs j ≡ overlay us vs i
restart us vs i j l h =
    ext_get_or 0 (overlay us vs j) (overlay us vs i) (length-overlay us vs j ∙ l ∙ sym (length-overlay us vs i))
    (λ a b. let b' : a < length i = omega (arith, length-overlay us vs j) in overlay-at us vs i j a l b' (h a b'))
