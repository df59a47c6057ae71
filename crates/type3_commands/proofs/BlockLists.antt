-- Laws of a command's blocks and its block list.
-- Assumes nothing.
use mathlib.Core.Path.{◌≡◌, refl, sym, ap, ◌∙◌}
use mathlib.Core.Bool.{true, not, ◌&&◌}
use mathlib.Core.List.{List, [], ◌∷◌, ◌++◌}
use Prim.Native.Nat.{ℕ, zero, suc, ◌+◌, ◌*◌, ◌<◌, ◌≤◌}
use native.Mathlib.Numerals.{add-one}
use native.Mathlib.Omega.{arith}
use borrow.Author.Tests.{leb-true}
use borrow.Rule.Slice.PartMut.{put_mid}
use lib.Dec.{leb}
use lib.ListN.{length, take, drop, set, length-take}
use lib.Seq.{sets, take-suc}
use Rattle.std.proofs.lemmas.Slice.{take-put_mid}
use Rattle.tag.specs.Bytes.{byte, has, overwrite}
use Rattle.tag.proofs.Logic.{and_l, and_r, and-three}
use Rattle.tag.proofs.Storing.{sets_more, sets-front}
use Rattle.type3.specs.Codec.{block_list_bytes, listable}
use Rattle.type3_commands.specs.Views.InPlace.{numbers}

-- ---- blocks that may be listed together

-- each of them is at most Nmaxb, and a byte
pub listable-each : (nmaxb : ℕ) (bs : List ℕ) → listable nmaxb bs ≡ true → (i : ℕ) → i < length bs → (byte bs i ≤ nmaxb) × (byte bs i ≤ 255)
listable-each nmaxb [] h i l = absurd (omega arith)
listable-each nmaxb (b ∷ bs) h zero l =
    let low : leb b nmaxb && leb b 255 ≡ true = (and-three (leb b nmaxb && leb b 255) (not (has b bs)) (listable nmaxb bs) h).0 in
    (leb-true b nmaxb (and_l (leb b nmaxb) (leb b 255) low), leb-true b 255 (and_r (leb b nmaxb) (leb b 255) low))
listable-each nmaxb (b ∷ bs) h (suc i) l =
    listable-each nmaxb bs (and-three (leb b nmaxb && leb b 255) (not (has b bs)) (listable nmaxb bs) h).2 i (omega arith)

-- ---- the block list written

pub block-list-append : (xs ys : List ℕ) → block_list_bytes (xs ++ ys) ≡ block_list_bytes xs ++ block_list_bytes ys
block-list-append [] ys = refl
block-list-append (x ∷ xs) ys = ap (λ r. 0x80 ∷ x ∷ r) (block-list-append xs ys)

-- the elements of one block more
pub block-list-next : (bs : List ℕ) (j : ℕ) → j < length bs → block_list_bytes (take (j + 1) bs) ≡ block_list_bytes (take j bs) ++ (0x80 ∷ byte bs j ∷ [])
block-list-next bs j l = rw (add-one j, take-suc bs j 0 l) (block-list-append (take j bs) (byte bs j ∷ []))

-- one turn of writing elements
pub block-list-put : (list bs two : List ℕ) (i k : ℕ) → take (2 * i) list ≡ block_list_bytes (take i bs) → i < length bs → 2 * length bs ≡ length list
    → two ≡ 0x80 ∷ byte bs i ∷ [] → take (2 * (i + 1)) (put_mid (2 * i) k list two) ≡ block_list_bytes (take (i + 1) bs)
block-list-put list bs two i k e h l t =
    let n : length two ≡ 2 = ap length t in
    take-put_mid (2 * i) k list two (2 * (i + 1)) (omega arith) (omega arith)
    ∙ rw (e, t) (sym (block-list-next bs i h))

-- ---- the block list read

-- one number more
pub numbers-more : (from zeros : List ℕ) (i : ℕ) → i < length from → length from ≤ length zeros
    → set (overwrite (take i from) zeros) i (byte from i) ≡ overwrite (take (i + 1) from) zeros
numbers-more from zeros i h l =
    ap (λ t. set t i (byte from i)) (sym (sets-front (take i from) zeros (omega (arith, length-take i from))))
    ∙ ap (λ k. set (sets zeros 0 (take i from)) k (byte from i)) (sym place)
    ∙ sets_more zeros from 0 i h
    ∙ sets-front (take (i + 1) from) zeros (omega (arith, length-take (i + 1) from))
  where
    place : 0 + i ≡ i
    place = omega arith

pub length-numbers : (k : ℕ) (bytes : List ℕ) → length (numbers k bytes) ≡ k
length-numbers zero bytes = refl
length-numbers (suc k) bytes = ap suc (length-numbers k (drop 2 bytes))
