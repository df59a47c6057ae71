-- A list cut into chunks of w elements from its front, as the library's iterator cuts it: the next chunk, and what is left behind it.
-- Assumes nothing.
use mathlib.Core.Path.{◌≡◌, refl, sym, ap, ◌∙◌}
use mathlib.Core.List.{List, ◌++◌}
use Prim.Native.Nat.{ℕ, ◌+◌, ◌-◌, ◌*◌, ◌<◌, min}
use native.Mathlib.Numerals.{add-one}
use native.Mathlib.Omega.{arith}
use native.Mathlib.Decide.{dec_lt}
use lib.ListN.{length, take, drop, length-drop, drop_of_length-le}
use lib.Seq.{drop-drop, take_all, take_at, drop_at}

pub times_more : (w t : ℕ) → w * (t + 1) ≡ w * t + w
times_more w t = rw (add-one t) (omega arith)

-- w of those left, or all of them
take-least : (w : ℕ) (l : List ℕ) → take (min w (length l)) l ≡ take w l
take-least w l = go (dec_lt w (length l))
  where
    go : Dec (w < length l) → take (min w (length l)) l ≡ take w l
    go (yes p) = let e : min w (length l) ≡ w = omega arith in rw e
    go (no n) = let e : min w (length l) ≡ length l = omega arith in rw e (take_all (length l) l (omega arith) ∙ sym (take_all w l (omega arith)))

drop-least : (w : ℕ) (l : List ℕ) → drop (min w (length l)) l ≡ drop w l
drop-least w l = go (dec_lt w (length l))
  where
    go : Dec (w < length l) → drop (min w (length l)) l ≡ drop w l
    go (yes p) = let e : min w (length l) ≡ w = omega arith in rw e
    go (no n) =
        let e : min w (length l) ≡ length l = omega arith in
        rw e (drop_of_length-le l {i = length l} (omega arith) ∙ sym (drop_of_length-le l {i = w} (omega arith)))

-- after n chunks
pub next-chunk : (xs part rest rest' : List ℕ) (w n size : ℕ) → size ≡ w → rest ≡ drop (w * n) xs → rest ≡ part ++ rest' → length part ≡ min size (length rest)
    → (part ≡ take w (drop (w * n) xs)) × (rest' ≡ drop (w * (n + 1)) xs) × (length part ≡ min w (length xs - w * n))
next-chunk xs part rest rest' w n size e left cut long =
    let least : length part ≡ min w (length rest) = long ∙ ap (λ k. min k (length rest)) e in (
      sym (take_at part rest' (length part) refl) ∙ ap (take (length part)) (sym cut) ∙ ap (λ k. take k rest) least ∙ take-least w rest ∙ ap (take w) left,
      sym (drop_at part rest' (length part) refl) ∙ ap (drop (length part)) (sym cut) ∙ ap (λ k. drop k rest) least ∙ drop-least w rest ∙ ap (drop w) left
          ∙ drop-drop w (w * n) xs ∙ ap (λ k. drop k xs) (sym (times_more w n)),
      least ∙ ap (min w) (ap length left ∙ length-drop (w * n) xs),
    )
