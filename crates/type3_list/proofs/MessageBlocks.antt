-- The bytes of some of a message's blocks, as the code fills them; parts of a list of blocks; which blocks change; and which are whole.
-- Assumes nothing.
use mathlib.Core.Path.{◌≡◌, refl, sym, ap, ◌∙◌}
use mathlib.Core.List.{List, [], ◌∷◌, ◌++◌, append-nil, append_assoc}
use Prim.Native.Nat.{ℕ, ◌+◌, ◌-◌, ◌*◌, ◌<◌, ◌≤◌, min}
use native.Mathlib.Numerals.{add-one}
use native.Mathlib.Omega.{arith}
use native.Mathlib.Decide.{dec_le}
use borrow.Rule.Slice.PartMut.{put_mid}
use lib.ListN.{length, take, drop, replicate, length-append, length-take, length-drop, length-replicate, replicate-append-replicate}
use lib.Seq.{length-take-le, take_all, take-suc, take_at, drop_at, take-append-le, take-append-add, drop-append-le, get_or-take, get_or-drop}
use Rattle.tag.specs.Bytes.{byte}
use Rattle.type3_list.proofs.Laying.{lay-next}
use Rattle.tag.proofs.Picks.{picked-in, picked-rises}
use Rattle.type3.specs.Update.{blocks_for, body}
use Rattle.type3_list.specs.Views.Blocks.{filled, message_block, is_changed, changed_blocks, blocks_bytes, Chosen}

-- ---- one block

length-filled : (part : List ℕ) → length (filled part) ≡ 16
length-filled part = length-take-le 16 (part ++ replicate 16 0x00) (simp (length-append, length-replicate) (omega arith))

-- a part that is long enough is not filled
pub whole-filled : (part : List ℕ) → 16 ≤ length part → take 16 part ≡ filled part
whole-filled part l = sym (take-append-le 16 part (replicate 16 0x00) l)

-- the first sixteen bytes of a part are enough
pub part_filled : (part : List ℕ) → filled (take 16 part) ≡ filled part
part_filled part = go (dec_le 16 (length part))
  where
    go : Dec (16 ≤ length part) → filled (take 16 part) ≡ filled part
    go (yes l) =
        let sixteen : length (take 16 part) ≡ 16 = length-take-le 16 part l in
        sym (whole-filled (take 16 part) (omega arith)) ∙ take_all 16 (take 16 part) (omega arith) ∙ whole-filled part l
    go (no n) = ap filled (take_all 16 part (omega arith))

-- a part of at most sixteen bytes before the 00h that it leaves of sixteen
pub short-filled : (part : List ℕ) → length part ≤ 16 → part ++ drop (length part) (replicate 16 0x00) ≡ filled part
short-filled part l =
    let n = length part in
    let r = 16 - n in
    let a : n + r ≡ 16 = omega arith in
    let b : r + n ≡ 16 = omega arith in
    let front : replicate {A = ℕ} 16 0x00 ≡ replicate n 0x00 ++ replicate r 0x00 = rw (replicate-append-replicate {A = ℕ} n r 0x00, a) in
    let back : replicate {A = ℕ} 16 0x00 ≡ replicate r 0x00 ++ replicate n 0x00 = rw (replicate-append-replicate {A = ℕ} r n 0x00, b) in
    let dropped : drop n (replicate {A = ℕ} 16 0x00) ≡ replicate r 0x00
    = ap (drop n) front ∙ drop_at (replicate n 0x00) (replicate r 0x00) n (length-replicate {A = ℕ} n 0x00) in
    let taken : take r (replicate {A = ℕ} 16 0x00) ≡ replicate r 0x00
    = ap (take r) back ∙ take_at (replicate r 0x00) (replicate n 0x00) r (length-replicate {A = ℕ} r 0x00) in
    ap (λ x. part ++ x) (dropped ∙ sym taken)
    ∙ sym (ap (λ k. take k (part ++ replicate 16 0x00)) (sym a) ∙ take-append-add part (replicate 16 0x00) r)

-- the message's block after i others is what the filler makes of the part that starts there
pub block-filled : (m : List ℕ) (i : ℕ) → i < blocks_for (length m) → filled (drop (16 * i) m) ≡ take 16 (drop (16 * i) (body m))
block-filled m i l =
    let part = drop (16 * i) m in
    let short = 16 * blocks_for (length m) - length m in
    let sixteen : short + (16 - short) ≡ 16 = omega arith in
    let zeros = replicate {A = ℕ} short 0x00 in
    let more = replicate {A = ℕ} (16 - short) 0x00 in
    let both : replicate {A = ℕ} 16 0x00 ≡ zeros ++ more = rw (replicate-append-replicate {A = ℕ} short (16 - short) 0x00, sixteen) in
    let enough : 16 ≤ length (part ++ zeros) = simp (length-append, length-drop, length-replicate) (omega arith) in
    rw (both, ← append_assoc part zeros more, take-append-le 16 (part ++ zeros) more enough)
    (ap (take 16) (sym (drop-append-le (16 * i) m zeros (omega arith))))

-- ---- several

pub length-blocks : (m bs : List ℕ) → length (blocks_bytes m bs) ≡ 16 * length bs
length-blocks m [] = refl
length-blocks m (b ∷ bs) =
    omega (arith, length-append (message_block m b) (blocks_bytes m bs), length-filled (drop (16 * (b - 1)) m), length-blocks m bs)

blocks-append : (m xs ys : List ℕ) → blocks_bytes m (xs ++ ys) ≡ blocks_bytes m xs ++ blocks_bytes m ys
blocks-append m [] ys = refl
blocks-append m (x ∷ xs) ys =
    ap (λ r. message_block m x ++ r) (blocks-append m xs ys) ∙ sym (append_assoc (message_block m x) (blocks_bytes m xs) (blocks_bytes m ys))

-- one block more
blocks_more : (m bs : List ℕ) (j : ℕ) → j < length bs → blocks_bytes m (take (j + 1) bs) ≡ blocks_bytes m (take j bs) ++ message_block m (byte bs j)
blocks_more m bs j l =
    rw (add-one j, take-suc bs j 0 l)
    (blocks-append m (take j bs) (byte bs j ∷ []) ∙ ap (λ x. blocks_bytes m (take j bs) ++ x) (append-nil (message_block m (byte bs j))))

-- the next block laid after those laid
pub block-laid : (m bs out t z : List ℕ) (j : ℕ) → j < length bs → out ≡ blocks_bytes m (take j bs) ++ drop (16 * j) t → z ≡ message_block m (byte bs j)
    → put_mid (16 * j) (16 * (j + 1) - 16 * j) out z ≡ blocks_bytes m (take (j + 1) bs) ++ drop (16 * (j + 1)) t
block-laid m bs out t z j l q e =
    let sixteen : 16 * (j + 1) - 16 * j ≡ 16 = omega arith in
    let next : 16 * j + 16 ≡ 16 * (j + 1) = omega arith in
    let long : length (blocks_bytes m (take j bs)) ≡ 16 * j = length-blocks m (take j bs) ∙ ap (λ n. 16 * n) (length-take-le j bs (omega arith)) in
    let laid : put_mid (16 * j) (16 * (j + 1) - 16 * j) out z ≡ (blocks_bytes m (take j bs) ++ message_block m (byte bs j)) ++ drop (16 * j + 16) t
    = rw (sixteen, e) (lay-next out (blocks_bytes m (take j bs)) t (16 * j) q long (message_block m (byte bs j)) 16) in
    laid ∙ rw (next, blocks_more m bs j l)

-- ---- lists of blocks

-- the blocks of a command are some of the message's
pub part-chosen : {m bs : List ℕ} (n s : ℕ) → Chosen m bs → Chosen m (take n (drop s bs))
part-chosen {m} {bs} n s c = record {
  few = c.few;
  from_one = λ j l. rw (at j (omega (arith, long))) (c.from_one (s + j) (omega (arith, long)));
  inside = λ j l. rw (at j (omega (arith, long))) (c.inside (s + j) (omega (arith, long)));
  rising = λ j l.
      let next : s + (j + 1) ≡ s + j + 1 = omega arith in
      rw (at j (omega (arith, long)), at (j + 1) (omega (arith, long)), next) (c.rising (s + j) (omega (arith, long)));
}
  where
    long : length (take n (drop s bs)) ≡ min n (length bs - s)
    long = length-take n (drop s bs) ∙ ap (min n) (length-drop s bs)

    at : (j : ℕ) → j < n → byte (take n (drop s bs)) j ≡ byte bs (s + j)
    at j l = get_or-take n (drop s bs) j 0 l ∙ get_or-drop s bs j 0

-- those that change
pub changed-chosen : (i m : List ℕ) → blocks_for (length m) ≤ 255 → Chosen m (changed_blocks i m)
changed-chosen i m l =
    let k = blocks_for (length m) in
    record {
      few = l;
      from_one = λ j h. omega (arith, (picked-in (is_changed i m) k 1 j h).0);
      inside = λ j h. omega (arith, (picked-in (is_changed i m) k 1 j h).1);
      rising = picked-rises (is_changed i m) k 1;
    }
