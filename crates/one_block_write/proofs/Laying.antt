-- The bytes of write commands: one command as the code lays it, the command of a block, and the commands of several blocks.
-- Assumes nothing.
use mathlib.Core.Path.{◌≡◌, refl, sym, ap, ◌∙◌}
use mathlib.Core.List.{List, [], ◌∷◌, ◌++◌, append-nil, append_assoc}
use Prim.Native.Nat.{ℕ, suc, ◌+◌, ◌-◌, ◌*◌, ◌<◌, ◌≤◌}
use native.Mathlib.Nat.{mul-le-mul_left, mul-div_cancel_left}
use native.Mathlib.Numerals.{add-one}
use native.Mathlib.Omega.{arith}
use borrow.Rule.Slice.PartMut.{put_mid}
use lib.ListN.{length, get_or, set, take, drop, length-append, length-take, length-drop, drop_of_length-le}
use lib.Seq.{drop-cons, drop_at, set_at, length-take-le, take-suc, get_or-take}
use Rattle.tag.specs.Bytes.{byte}
use Rattle.tag.specs.Plan.{block_of}
use Rattle.tag.proofs.Blocks.{block-length}
use Rattle.tag.proofs.Filling.{lent, lay-part}
use Rattle.one_block_write.specs.Views.Listing.{command_length, command_bytes, block_bytes, blocks_bytes, store_bytes}

-- a block below n of n blocks
pub block_inside : (z b n m : ℕ) → b < n → z * n ≤ m → z * b + z ≤ m
block_inside z b n m l h = let k : z * suc b ≤ z * n = mul-le-mul_left z l in omega arith

module _ (front : List ℕ) where
  -- ---- one command

  pub length-command : (b : ℕ) (bytes : List ℕ) → length (command_bytes front b bytes) ≡ command_length front (length bytes)
  length-command b bytes = length-append front (b ∷ bytes) ∙ omega arith

  -- laid in three steps: the bytes, in a borrowed part; the front; and the block's number between them
  pub command-laid : (out bytes : List ℕ) (b : ℕ) → command_length front (length bytes) ≤ length out
      → set (front ++ drop (length front) (put_mid (length front + 1) (length front + 1 + length bytes - (length front + 1)) out bytes)) (length front) b
      ≡ command_bytes front b bytes ++ drop (command_length front (length bytes)) out
  command-laid out bytes b l =
      let n = length front in
      let a = length front + 1 in
      let k = length bytes in
      let x = put_mid a (a + k - a) out bytes in
      let rest = drop (a + k) out in
      let none : length (take (a + k - a) (drop a out)) ≤ k = rw (length-take, length-drop) (omega arith) in
      let first : length (take a out) ≡ a = length-take-le a out (omega arith) in
      let is : x ≡ take a out ++ (bytes ++ rest)
      = lent out bytes bytes a (a + k) k (omega arith) (omega arith)
      (sym (ap (λ ys. bytes ++ ys) (drop_of_length-le (take (a + k - a) (drop a out)) none) ∙ append-nil bytes)) in
      let long : n < length x = omega (arith, ap length is, length-append (take a out) (bytes ++ rest), first) in
      let tail : drop (suc n) x ≡ bytes ++ rest
      = ap (λ d. drop d x) (sym (add-one n)) ∙ ap (drop a) is ∙ drop_at (take a out) (bytes ++ rest) a first in
      ap (λ ys. set (front ++ ys) n b) (drop-cons x n 0 long)
      ∙ set_at front (get_or x n 0) (drop (suc n) x) b n refl
      ∙ ap (λ ys. front ++ b ∷ ys) tail
      ∙ sym (append_assoc front (b ∷ bytes) rest)

  -- the same where the command takes all there is
  pub command-whole : (out bytes : List ℕ) (b : ℕ) → length out ≡ command_length front (length bytes)
      → set (front ++ drop (length front) (put_mid (length front + 1) (length front + 1 + length bytes - (length front + 1)) out bytes)) (length front) b
      ≡ command_bytes front b bytes
  command-whole out bytes b l =
      command-laid out bytes b (omega (arith, l))
      ∙ ap (λ ys. command_bytes front b bytes ++ ys) (drop_of_length-le out (omega (arith, l)))
      ∙ append-nil (command_bytes front b bytes)

  module _ (z : ℕ) where
    pub length-block : (i : List ℕ) (b : ℕ) → z * b + z ≤ length i → length (block_bytes front z i b) ≡ command_length front z
    length-block i b h = length-command b (take z (drop (z * b) i)) ∙ ap (command_length front) (block-length z i b h)

    -- the command of a block as a store
    pub block_one : 0 < z → (i : List ℕ) (b : ℕ) → store_bytes front z (block_of z i b) ≡ block_bytes front z i b
    block_one pos i b = ap (λ c. command_bytes front c (take z (drop (z * b) i))) (mul-div_cancel_left b pos)

    -- ---- the commands of several blocks

    module _ (i : List ℕ) where
      blocks-append : (xs ys : List ℕ) → blocks_bytes front z i (xs ++ ys) ≡ blocks_bytes front z i xs ++ blocks_bytes front z i ys
      unfolding blocks_bytes
      blocks-append [] ys = refl
      blocks-append (b ∷ xs) ys =
          ap (λ bytes. block_bytes front z i b ++ bytes) (blocks-append xs ys)
          ∙ sym (append_assoc (block_bytes front z i b) (blocks_bytes front z i xs) (blocks_bytes front z i ys))

      pub length-blocks : (bs : List ℕ) → ((j : ℕ) → j < length bs → z * byte bs j + z ≤ length i)
          → length (blocks_bytes front z i bs) ≡ command_length front z * length bs
      unfolding blocks_bytes
      length-blocks [] h = omega arith
      length-blocks (b ∷ bs) h =
          omega (
            arith,
            length-append (block_bytes front z i b) (blocks_bytes front z i bs),
            length-block i b (h 0 (omega arith)),
            length-blocks bs (λ j l. h (suc j) (omega arith)),
          )

      blocks_more : (bs : List ℕ) (j : ℕ) → j < length bs
          → blocks_bytes front z i (take (j + 1) bs) ≡ blocks_bytes front z i (take j bs) ++ block_bytes front z i (byte bs j)
      unfolding blocks_bytes
      blocks_more bs j l =
          rw (add-one j, take-suc bs j 0 l)
          (blocks-append (take j bs) (byte bs j ∷ [])
          ∙ ap (λ bytes. blocks_bytes front z i (take j bs) ++ bytes) (append-nil (block_bytes front z i (byte bs j))))

      -- a turn of the loop over the blocks: what is written so far grows by the block's command
      pub block-next : (bs out list part : List ℕ) (j : ℕ) → j < length bs → ((k : ℕ) → k < length bs → z * byte bs k + z ≤ length i)
          → command_length front z * (j + 1) ≤ length out
          → out ≡ blocks_bytes front z i (take j bs) ++ drop (command_length front z * j) list
          → part ≡ block_bytes front z i (byte bs j) ++ drop (command_length front z) (take (length out - command_length front z * j) (drop (command_length front z * j) out))
          → put_mid (command_length front z * j) (length out - command_length front z * j) out part
          ≡ blocks_bytes front z i (take (j + 1) bs) ++ drop (command_length front z * (j + 1)) list
      block-next bs out list part j l h room e q =
          let step = command_length front z in
          let next : step * j + step ≡ step * (j + 1) = omega arith in
          let few : length (take j bs) ≡ j = length-take-le j bs (omega arith) in
          let long : length (blocks_bytes front z i (take j bs)) ≡ step * j
          = length-blocks (take j bs) (λ k u. rw (get_or-take j bs k 0 (omega (arith, few))) (h k (omega (arith, few)))) ∙ ap (λ n. step * n) few in
          lay-part out (blocks_bytes front z i (take j bs)) list (step * j) e long (block_bytes front z i (byte bs j)) part (length out) step (omega arith) (omega arith) q
          ∙ rw (next, blocks_more bs j l)
