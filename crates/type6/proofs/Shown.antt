-- What a reading says can be shown: without a message there are no bytes, and a message is a part of the image.
-- Assumes nothing.
use mathlib.Core.Path.{◌≡◌, refl, sym, ap, ◌∙◌}
use mathlib.Core.Bool.{Bool, false}
use mathlib.Core.List.{List, []}
use Prim.Native.Nat.{ℕ, zero, suc, ◌+◌, ◌≤◌}
use native.Mathlib.Omega.{arith}
use borrow.Author.Tests.{le-leb}
use lib.ListN.{length, take, drop, length-drop}
use lib.Seq.{length-take-le}
use Rattle.tag.specs.Reading.{message, Report, reads, part}
use Rattle.type6.specs.Container.{file_at, capacity, nlen, may_write}
use Rattle.type6.specs.Message.{report_of, reading}
use Rattle.type6.proofs.Message.{bounds, report-is}

by-wordless : (w : Bool) (c f : ℕ) (i : List ℕ) (n : ℕ) → ((report_of w c f i n).content ≡ message → ⊥) → (report_of w c f i n).bytes ≡ []
by-wordless w c f i zero z = refl
by-wordless w c f i (suc n) z = absurd (z refl)

pub wordless : (i : List ℕ) (p : Report) → reading i ≡ reads p → (p.content ≡ message → ⊥) → p.bytes ≡ []
wordless i p e z =
    let q = (report-is i p e).1 in
    ap (λ x. x.bytes) (sym q) ∙ by-wordless (may_write i) (capacity i) (file_at i) i (nlen i) (λ m. z (ap (λ x. x.content) (sym q) ∙ m))

by_place : (w : Bool) (c f : ℕ) (i : List ℕ) (n : ℕ) → 2 + f + n ≤ length i
    → part (report_of w c f i n).address (length (report_of w c f i n).bytes) i ≡ (report_of w c f i n).bytes
by_place w c f i zero l = rw (le-leb 0 (length i) (omega arith))
by_place w c f i (suc n) l =
    let k : length (take (suc n) (drop (2 + f) i)) ≡ suc n = length-take-le (suc n) (drop (2 + f) i) (omega (arith, length-drop (2 + f) i)) in
    rw (k, le-leb (2 + f + suc n) (length i) l)

pub in_place : (i : List ℕ) (p : Report) → reading i ≡ reads p → p.content ≡ message → p.interrupted ≡ false
    → part p.address (length p.bytes) i ≡ p.bytes
in_place i p e m f =
    let (c, q) = report-is i p e in
    let b = bounds i c in
    rw (← q) (by_place (may_write i) (capacity i) (file_at i) i (nlen i) (omega (arith, b.inside, b.room, b.nlen_fits)))
