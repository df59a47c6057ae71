-- Blocks dealt out to commands, w to each: how many commands that takes, and which blocks the next command takes.
-- Assumes nothing.
use mathlib.Core.Path.{◌≡◌, refl, sym, ap, ◌∙◌}
use mathlib.Core.List.{List, [], ◌∷◌, ◌++◌, map, append-nil, append_assoc}
use Prim.Native.Nat.{ℕ, zero, suc, ◌+◌, ◌-◌, ◌*◌, ◌/◌, ◌%◌, ◌<◌, ◌≤◌}
use native.Mathlib.Nat.{div-add-mod, mod-lt}
use native.Mathlib.Omega.{arith}
use lib.ListN.{length, take, drop}
use lib.Seq.{drop-drop}
use Rattle.tag.specs.Stores.{Store}
use Rattle.tag.specs.Plan.{chunk}
use Rattle.tag.specs.TagType.{joined}

-- k/w rounded up: as many commands of w blocks as k blocks need, and no more
pub rounded-up : (w k : ℕ) → 0 < w → (k ≤ w * ((k + (w - 1)) / w)) × (w * ((k + (w - 1)) / w) < k + w)
rounded-up w k p =
    let e : w * ((k + (w - 1)) / w) + (k + (w - 1)) % w ≡ k + (w - 1) = div-add-mod (k + (w - 1)) w in
    let l : (k + (w - 1)) % w < w = mod-lt (k + (w - 1)) p in
    (omega arith, omega arith)

pub length-chunk : (w c : ℕ) (ss : List Store) → length (chunk w c ss) ≡ c
length-chunk w zero ss = refl
length-chunk w (suc c) ss = ap suc (length-chunk w c (drop w ss))

pub chunk-more : (w c : ℕ) (ss : List Store) → chunk w (suc c) ss ≡ chunk w c ss ++ (take w (drop (w * c) ss) ∷ [])
chunk-more w zero ss = let e : w * 0 ≡ 0 = omega arith in rw e
chunk-more w (suc c) ss =
    let e : w * suc c ≡ w + w * c = omega arith in
    rw (e, ← drop-drop (w * c) w ss) (ap (λ r. take w ss ∷ r) (chunk-more w c (drop w ss)))

-- one more command adds its bytes at the end
pub joined-append : (f : List Store → List ℕ) (cs : List (List Store)) (c : List Store) → joined (map f (cs ++ (c ∷ []))) ≡ joined (map f cs) ++ f c
joined-append f [] c = append-nil (f c)
joined-append f (d ∷ cs) c = ap (λ r. f d ++ r) (joined-append f cs c) ∙ sym (append_assoc (f d) (joined (map f cs)) (f c))
