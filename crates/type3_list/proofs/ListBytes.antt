-- Our list for a Type 3 tag, as the code lays it: block 0 shut, the message's blocks that change w to a command, block 0 opened.
-- Assumes nothing.
use mathlib.Core.Path.{◌≡◌, refl, sym, ap, ◌∙◌}
use mathlib.Core.Bool.{Bool, true, false, not, cond}
use mathlib.Core.List.{List, [], ◌∷◌, ◌++◌, map, append-nil}
use Prim.Native.Nat.{ℕ, zero, suc, ◌+◌, ◌-◌, ◌*◌, ◌/◌, ◌<◌, ◌≤◌, min}
use native.Mathlib.Omega.{arith}
use borrow.Author.Tests.{ne_eqb}
use lib.Dec.{eqb}
use lib.ListN.{length, take, drop, length-append, length-map}
use Rattle.tag.specs.Bytes.{byte, same}
use Rattle.tag.specs.Stores.{Store}
use Rattle.tag.specs.Plan.{new_image, block_of, between, picks, chunk, chunks, first_store, last_store, middle, list, differing}
use Rattle.tag.specs.TagType.{joined, list_bytes}
use Rattle.tag.proofs.Runs.{map-take, map-drop}
use Rattle.tag.proofs.Picks.{length-picks, picked-like, picks-picked, picks-part}
use Rattle.tag.proofs.Chunks.{chunk-more, joined-append}
use Rattle.tag.proofs.Counts.{length-list}
use Rattle.type3.specs.AttributeInformation.{attribute_information}
use Rattle.type3.specs.Update.{blocks_for, blocks_per_command, closed, plan}
use Rattle.type3.specs.Codec.{command_bytes, stored_bytes, encoded}
use Rattle.type3.specs.Type3.{type3}
use Rattle.type3.proofs.Update.{HasRoom, inside}
use Rattle.type3.proofs.Between.{between-guard, between-past}
use Rattle.type3_list.specs.Views.Blocks.{is_changed, changed_blocks, blocks_bytes, Chosen}
use Rattle.type3_list.specs.Views.Listing.{attribute_information_block, attribute_command, message_command, message_commands, shut_command, list_as, list_length}
use Rattle.type3_list.proofs.AttributeInformation.{length-attribute-command, length-shut}
use Rattle.type3_list.proofs.MessageBlocks.{part-chosen, changed-chosen}
use Rattle.type3_list.proofs.Dealing.{length-commands}
use Rattle.type3_list.proofs.StoredBlocks.{closed_block, new-block, new-at}

block-list-of : (j us : List ℕ) → map (λ s. s.at / 16) (map (block_of 16 j) us) ≡ us
block-list-of j [] = refl
block-list-of j (b ∷ us) = let back : 16 * b / 16 ≡ b = omega arith in cc (block-list-of j us)

-- ---- the commands between block 0's two

module _ (idm i m : List ℕ) (r : HasRoom i m) where
  new : ℕ → Store
  new = block_of 16 (new_image (plan i m) i)

  stored-blocks : (bs : List ℕ) → ((j : ℕ) → j < length bs → 0 < byte bs j) → ((j : ℕ) → j < length bs → byte bs j ≤ blocks_for (length m))
      → stored_bytes (map new bs) ≡ blocks_bytes m bs
  unfolding new
  stored-blocks [] from_one inside = refl
  stored-blocks (b ∷ bs) from_one inside =
      cc (
        new-at i m r b (from_one 0 (omega arith)) (inside 0 (omega arith)),
        stored-blocks bs (λ j l. from_one (suc j) (omega arith)) (λ j l. inside (suc j) (omega arith)),
      )

  -- a command that stores some of the message's blocks
  block-commands : (bs : List ℕ) → Chosen m bs → encoded idm (map new bs) ≡ message_command idm m bs
  unfolding new
  block-commands bs c = cc (block-list-of (new_image (plan i m) i) bs, stored-blocks bs c.from_one c.inside)

  -- those of the blocks bs, w to a command
  chunk_bytes : (bs : List ℕ) → Chosen m bs → (w t : ℕ) → joined (map (encoded idm) (chunk w t (map new bs))) ≡ message_commands idm m w bs t
  unfolding message_commands
  chunk_bytes bs c w zero = refl
  chunk_bytes bs c w (suc t) =
      let part : take w (drop (w * t) (map new bs)) ≡ map new (take w (drop (w * t) bs))
      = ap (take w) (map-drop new (w * t) bs) ∙ map-take new w (drop (w * t) bs) in
      ap (λ cs. joined (map (encoded idm) cs)) (chunk-more w t (map new bs))
      ∙ joined-append (encoded idm) (chunk w t (map new bs)) (take w (drop (w * t) (map new bs)))
      ∙ cc (chunk_bytes bs c w t, ap (encoded idm) part ∙ block-commands (take w (drop (w * t) bs)) (part-chosen w (w * t) c))

  -- the blocks between are the message's that change
  chosen_is : picks (between (plan i m) i) 16 (new_image (plan i m) i) 0 (length i / 16) ≡ map new (changed_blocks i m)
  unfolding new
  chosen_is =
      let k = blocks_for (length m) in
      picks-part (between (plan i m) i) 16 (new_image (plan i m) i) 1 k (length i / 16) (omega (arith, inside i m r))
      (between-guard i m) (λ b l u. between-past i m b l)
      ∙ picks-picked (between (plan i m) i) 16 (new_image (plan i m) i) k 1
      ∙ ap (map (block_of 16 (new_image (plan i m) i))) (picked-like (between (plan i m) i) (is_changed i m) k 1 like)
    where
      like : (b : ℕ) → 1 ≤ b → b < 1 + blocks_for (length m) → between (plan i m) i b ≡ is_changed i m b
      like b lo up =
          rw (ne_eqb b 0 (λ e. omega arith)) (ap (λ x. not (same (take 16 (drop (16 * b) i)) x)) (new-at i m r b (omega arith) (omega arith)))

  many : length (map new (changed_blocks i m)) ≡ length (changed_blocks i m)
  many = length-map (changed_blocks i m) new

  pub list_count : (w t : ℕ) → w ≡ blocks_per_command (byte i 2) → t ≡ (length (changed_blocks i m) + (w - 1)) / w
      → length (list (plan i m) i) ≡ cond (eqb (byte i 9) 0x0F) 0 1 + t + 1
  list_count w t e f =
      let p = plan i m in
      let differ : differing p i ≡ length (changed_blocks i m)
      = sym (length-picks (between p i) 16 (new_image p i) 0 (length i / 16)) ∙ ap length chosen_is ∙ many in
      length-list p i
      ∙ ap (λ k. cond (eqb (byte i 9) 0x0F) 0 1 + (k + (blocks_per_command (byte i 2) - 1)) / blocks_per_command (byte i 2) + 1) differ
      ∙ ap (λ v. cond (eqb (byte i 9) 0x0F) 0 1 + (length (changed_blocks i m) + (v - 1)) / v + 1) (sym e)
      ∙ ap (λ c. cond (eqb (byte i 9) 0x0F) 0 1 + c + 1) (sym f)

  middle-bytes : (w t : ℕ) → w ≡ blocks_per_command (byte i 2) → t ≡ (length (changed_blocks i m) + (w - 1)) / w → blocks_for (length m) ≤ 255
      → joined (map (encoded idm) (middle (plan i m) i)) ≡ message_commands idm m w (changed_blocks i m) t
  middle-bytes w t e f few =
      let bs = changed_blocks i m in
      ap (λ ss. joined (map (encoded idm) (chunks (blocks_per_command (byte i 2)) ss))) chosen_is
      ∙ ap (λ v. joined (map (encoded idm) (chunks v (map new bs)))) (sym e)
      ∙ ap (λ k. joined (map (encoded idm) (chunk w ((k + (w - 1)) / w) (map new bs)))) many
      ∙ ap (λ c. joined (map (encoded idm) (chunk w c (map new bs)))) (sym f)
      ∙ chunk_bytes bs (changed-chosen i m few) w t

  -- ---- the whole list

  block-command : (j : List ℕ) (flag n : ℕ) → take 16 j ≡ attribute_information_block i flag n → encoded idm (block_of 16 j 0 ∷ []) ≡ attribute_command idm i flag n
  block-command j flag n e = ap (command_bytes idm (0 ∷ [])) (append-nil (take 16 j) ∙ e)

  -- its bytes; Ln comes back as it was because its two lower bytes are below 256
  pub list-bytes : (w t : ℕ) → w ≡ blocks_per_command (byte i 2) → t ≡ (length (changed_blocks i m) + (w - 1)) / w → blocks_for (length m) ≤ 255
      → byte i 12 < 256 → byte i 13 < 256
      → list_bytes (type3 idm) (plan i m) i ≡ list_as idm i m (attribute_information i).ln (eqb (byte i 9) 0x0F) w t (changed_blocks i m)
  list-bytes w t e f few b12 b13 = go (eqb (byte i 9) 0x0F) refl
    where
      shut : encoded idm (first_store (plan i m) ∷ []) ≡ attribute_command idm i 0x0F (attribute_information i).ln
      shut = block-command (closed i) 0x0F (attribute_information i).ln (closed_block i (omega (arith, inside i m r)) b12 b13)

      opened : encoded idm (last_store (plan i m) i ∷ []) ≡ attribute_command idm i 0x00 (length m)
      opened = block-command (new_image (plan i m) i) 0x00 (length m) (new-block i m r)

      rest : joined (map (encoded idm) (middle (plan i m) i ++ (last_store (plan i m) i ∷ []) ∷ []))
          ≡ message_commands idm m w (changed_blocks i m) t ++ attribute_command idm i 0x00 (length m)
      rest = joined-append (encoded idm) (middle (plan i m) i) (last_store (plan i m) i ∷ []) ∙ cc (middle-bytes w t e f few, opened)

      go : (c : Bool) → eqb (byte i 9) 0x0F ≡ c
          → list_bytes (type3 idm) (plan i m) i ≡ list_as idm i m (attribute_information i).ln (eqb (byte i 9) 0x0F) w t (changed_blocks i m)
      go true q = rw q rest
      go false q = rw q (cc (shut, rest))

-- the number of its bytes
pub length-list-as : (idm i m : List ℕ) (ln : ℕ) (is_shut : Bool) (w t : ℕ) (bs : List ℕ) → length idm ≡ 8 → length bs ≤ w * t
    → length (list_as idm i m ln is_shut w t bs) ≡ list_length is_shut t (length bs)
length-list-as idm i m ln is_shut w t bs eight enough =
    let shut = shut_command idm i ln is_shut in
    let body = message_commands idm m w bs t in
    let opened = attribute_command idm i 0x00 (length m) in
    let most : min (w * t) (length bs) ≡ length bs = omega arith in
    omega (
      arith,
      length-append shut (body ++ opened),
      length-append body opened,
      length-shut idm i ln is_shut eight,
      length-attribute-command idm i 0x00 (length m) eight,
      length-commands idm m w bs t eight,
      most,
    )
