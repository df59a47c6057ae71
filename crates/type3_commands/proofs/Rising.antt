-- Blocks in rising order are all different. Assumes nothing.
use mathlib.Core.Path.{◌≡◌, refl}
use mathlib.Core.Bool.{true, false}
use mathlib.Core.List.{List, [], ◌∷◌}
use Prim.Native.Nat.{ℕ, ◌+◌, ◌<◌, ◌≤◌}
use native.Mathlib.Omega.{arith}
use borrow.Author.Tests.{leb-true, le-leb, ne_eqb}
use lib.Dec.{leb}
use Rattle.tag.specs.Bytes.{has}
use Rattle.tag.proofs.Logic.{and-three}
use Rattle.type3.specs.Codec.{listable}
use Rattle.type3_commands.specs.Views.Rising.{rising}

-- a block below all of them is none of them
below_all : (most low : ℕ) (bs : List ℕ) (b : ℕ) → rising most low bs ≡ true → b < low → has b bs ≡ false
below_all most low [] b h l = refl
below_all most low (x ∷ bs) b h l =
    let p = and-three (leb low x) (leb x most) (rising most (x + 1) bs) h in
    rw (ne_eqb b x (λ e. omega (arith, leb-true low x p.0))) (below_all most (x + 1) bs b p.2 (omega (arith, leb-true low x p.0)))

pub rising-listable : (nmaxb most low : ℕ) (bs : List ℕ) → rising most low bs ≡ true → most ≤ nmaxb → most ≤ 255 → listable nmaxb bs ≡ true
rising-listable nmaxb most low [] h n m = refl
rising-listable nmaxb most low (b ∷ bs) h n m =
    let p = and-three (leb low b) (leb b most) (rising most (b + 1) bs) h in
    let small : b ≤ most = leb-true b most p.1 in
    rw (le-leb b nmaxb (omega arith), le-leb b 255 (omega arith), below_all most (b + 1) bs b p.2 (omega arith))
    (rising-listable nmaxb most (b + 1) bs p.2 n m)
