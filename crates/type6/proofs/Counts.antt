-- How many bytes our list for a Type 6 tag takes: at most 256 · 35, on any tag. The container's blocks and the guard block are not
-- written between the guard block's two commands, so there are at most 256 commands.
-- Assumes nothing.
use mathlib.Core.Path.{◌≡◌, refl, sym}
use mathlib.Core.Bool.{Bool, true, false, not}
use mathlib.Core.List.{List, [], ◌∷◌, map}
use Prim.Native.Nat.{ℕ, zero, suc, ◌+◌, ◌-◌, ◌*◌, ◌/◌, ◌<◌, ◌≤◌}
use native.Mathlib.Nat.{mul-le-mul_left}
use native.Mathlib.Omega.{arith}
use native.Mathlib.Decide.{ℕ_discrete}
use borrow.Author.Tests.{eq-eqb}
use lib.Dec.{eqb}
use lib.ListN.{length, length-append}
use Rattle.tag.specs.Bytes.{byte}
use Rattle.tag.specs.Stores.{Store}
use Rattle.tag.specs.Plan.{new_image, is_there, between, list, differing}
use Rattle.tag.specs.TagType.{joined, list_bytes}
use Rattle.tag.specs.Cuts.{Ready}
use Rattle.tag.proofs.Logic.{and_r, one_at_most}
use Rattle.tag.proofs.Each.{Each, each_of}
use Rattle.tag.proofs.Addresses.{above-run}
use Rattle.tag.proofs.Blocks.{in-block}
use Rattle.tag.proofs.There.{touches, touched-new}
use Rattle.tag.proofs.Sending.{touch-bounds}
use Rattle.tag.proofs.Counts.{counted-above, length-list}
use Rattle.tag.proofs.Laws.{Sent}
use Rattle.type6.specs.Container.{tag_block_size, file_block, file_at}
use Rattle.type6.specs.Update.{addresses, values, plan}
use Rattle.type6.specs.Codec.{encoded}
use Rattle.type6.specs.Type6.{type6}
use Rattle.type6.proofs.Message.{size-bounds, Bounds, bounds}
use Rattle.type6.proofs.Laws.{type6-laws, ready-room}

module _ (i m : List ℕ) (r : Ready type6 i m) where
  known : Bounds i
  known = bounds i (ready-room i m r).passes

  -- a block before the file holds no byte to set
  untouched : (b : ℕ) → b < file_block i → touches (tag_block_size i) (addresses (file_at i) m) (values m) b ≡ true → ⊥
  untouched b l e =
      let f = file_at i in
      let h : tag_block_size i * suc b ≤ tag_block_size i * file_block i = mul-le-mul_left (tag_block_size i) l in
      let (y, lo, hi, q) = touch-bounds (tag_block_size i) (f + (2 + length m)) (f - 1) (addresses f m) (values m) b
      (omega (arith, known.past), (omega arith, above-run (length m) (suc f) (f + (2 + length m)) (omega arith))) e in
      omega (arith, ((in-block (tag_block_size i) b y).0 q).1, known.past)

  -- so neither it nor the guard block is written between the guard block's two commands
  not-between : (b : ℕ) → b < suc (file_block i) → between (plan i m) i b ≡ false
  not-between b l = go (ℕ_discrete b (file_block i)) (between (plan i m) i b) refl
    where
      go : Dec (b ≡ file_block i) → (c : Bool) → between (plan i m) i b ≡ c → between (plan i m) i b ≡ false
      go (yes e) c q = rw (eq-eqb b (file_block i) e)
      go (no n) false q = q
      go (no n) true q =
          absurd (untouched b (omega arith)
          (touched-new (tag_block_size i) (addresses (file_at i) m) (values m) i b (and_r (not (eqb b (file_block i))) (not (is_there (tag_block_size i) i (new_image (plan i m) i) b)) q)))

  some-container : 0 < file_block i
  some-container = positive (tag_block_size i) (file_block i) known.past
    where
      positive : (z g : ℕ) → 8 ≤ z * g → 0 < g
      positive z zero l = omega arith
      positive z (suc g) l = omega arith

  few-commands : length (list (plan i m) i) ≤ 256
  few-commands =
      let few : differing (plan i m) i ≤ 0 + length i / tag_block_size i - suc (file_block i)
      = counted-above (between (plan i m) i) (length i / tag_block_size i) 0 (suc (file_block i)) not-between in
      omega (arith, length-list (plan i m) i, (one_at_most (plan i m).is_shut).1, few, some-container, known.blocks_are, known.guard-inside)

-- ---- the bytes of the list

joined_length : (z : ℕ) (cs : List (List Store)) → Each (λ ss. length (encoded ss) ≡ z) cs → length (joined (map encoded cs)) ≡ length cs * z
joined_length z [] h = omega arith
joined_length z (c ∷ cs) h = omega (arith, length-append (encoded c) (joined (map encoded cs)), h.0, joined_length z cs h.1)

module _ (i m : List ℕ) (r : Ready type6 i m) where
  list-bytes : length (list_bytes type6 (plan i m) i) ≡ length (list (plan i m) i) * (3 + tag_block_size i)
  list-bytes =
      joined_length (3 + tag_block_size i) (list (plan i m) i)
      (each_of (Sent type6 i) (λ ss. length (encoded ss) ≡ 3 + tag_block_size i) (list (plan i m) i) (λ ss s. sym (s.whole [])) (type6-laws.sent i m r))

  -- a list buffer that is long enough for every tag
  pub list-most : length (list_bytes type6 (plan i m) i) ≤ 256 * 35
  list-most = rw list-bytes (product (length (list (plan i m) i)) (3 + tag_block_size i) (few-commands i m r) (omega (arith, size-bounds (byte i 5))))
    where
      product : (a b : ℕ) → a ≤ 256 → b ≤ 35 → a * b ≤ 256 * 35
      product a b l h = let j : a * b ≤ a * 35 = mul-le-mul_left a h in omega arith
