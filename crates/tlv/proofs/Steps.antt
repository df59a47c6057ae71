-- What the steps of the code's walk leave: where it is, and the skip table.
-- Assumes nothing.
use mathlib.Core.Path.{◌≡◌, refl, ◌∙◌}
use mathlib.Core.List.{List}
use Prim.Native.Nat.{ℕ, ◌+◌, ◌<◌, ◌≤◌}
use native.Mathlib.Omega.{arith}
use lib.ListN.{length}
use Rattle.std.specs.Prelude.{Result, Ok, Err}
use Rattle.tag.specs.declared.refusals.Refusal.{Refusal}
use Rattle.tlv.specs.declared.walk.Walk.{Walk}
use Rattle.tlv.specs.Views.Counted.{OneMore, Added, TableOf}
use Rattle.tlv.specs.Views.Passing.{PassedPlaced}
use Rattle.tlv.specs.Views.Walks.{Within, InTable, Moved, Onward, Along}
use Rattle.tlv.proofs.Counted.{none-added, one-added, added-from, added_more, areas-added}

-- the table stays that of as many areas as the walk counts
pub counted-on : (s t : List ℕ) (n : ℕ) (v w : Walk) → w.end.0 ≡ v.end.0 → w.areas ≡ v.areas + n → Added v.at.0 v.end.0 n s t → TableOf v.end.0 v.areas s → TableOf w.end.0 w.areas t
counted-on s t n v w e counted added made = rw (e, counted) (areas-added v.at.0 v.end.0 v.areas n s t made added)

-- no step
pub stay : {t : List ℕ} {w : Walk} → Within t w → Along t w w
stay {t} {w} p = record { within = p; farther = omega arith; same_end = refl; counted = omega arith; added = none-added w.at.0 w.end.0 t }

-- moved on over bytes
pub moved : {t : List ℕ} {v w : Walk} → Within t v → v.at.0 ≤ w.at.0 → w.at.0 ≤ w.end.0 → w.end.0 ≡ v.end.0 → w.areas ≡ v.areas → Along t v w
moved {t} {v} p l o e n = record {
  within = record { ordered = o; in_table = omega (arith, p.in_table); short = p.short; few = omega (arith, p.few); declared = rw (e, n) p.declared };
  farther = l;
  same_end = e;
  counted = omega arith;
  added = none-added v.at.0 v.end.0 t;
}

-- the same, from what is known of a step whatever the walk counts
pub moved_on : {t : List ℕ} {v w : Walk} → Within t v → Moved v w → Along t v w
moved_on p m = moved p m.farther m.ordered m.same_end m.same_areas

-- the count left out
pub within-in_table : {t : List ℕ} {w : Walk} → Within t w → InTable t w
within-in_table {t} {w} p = record { ordered = p.ordered; in_table = p.in_table; made = (w.end.0, (w.areas, p.declared)) }

-- one area declared
pub declared-one : {t u : List ℕ} {v w : Walk} → Within t v → v.areas < v.at.0 → OneMore v.at.0 v.end.0 t u → w.at.0 ≡ v.at.0 → w.end.0 ≡ v.end.0 → w.areas ≡ v.areas + 1 → Onward t u 1 v w
declared-one {t} {u} {v} {w} p l o a e n = record {
  within = record {
    ordered = omega (arith, p.ordered);
    in_table = omega (arith, p.in_table, size);
    short = omega (arith, p.short, size);
    few = omega arith;
    declared = counted-on t u 1 v w e n one p.declared;
  };
  farther = omega arith;
  same_end = e;
  counted = n;
  added = one;
}
  where
    size : length u ≡ length t
    size = o.skips.same_length

    one : Added v.at.0 v.end.0 1 t u
    one = one-added 0 t (none-added v.at.0 v.end.0 t) o

-- two steps
pub onward : {s t x : List ℕ} {n m : ℕ} {u v w : Walk} → Onward s t n u v → Onward t x m v w → Onward s x (n + m) u w
onward {s} {t} {x} {n} {m} {u} {v} p q = record {
  within = q.within;
  farther = omega (arith, p.farther, q.farther);
  same_end = q.same_end ∙ p.same_end;
  counted = omega (arith, p.counted, q.counted);
  added = added_more u.at.0 u.end.0 n m s t x p.added (added-from u.end.0 m t x p.farther (rw p.same_end at q.added));
}

-- a TLV passed after other steps
pub passed-onward : {s : List ℕ} {u v : Walk} (t : List ℕ) (n : ℕ) (r : Result Walk Refusal) → Along s u v → PassedPlaced s t n v r → PassedPlaced s t n u r
passed-onward t n (Err e) p q = q
passed-onward t n (Ok w) p q = let z : 0 + n ≡ n = omega arith in rw z at (onward p q)
