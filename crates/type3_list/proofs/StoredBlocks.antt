-- The blocks that our list stores, byte by byte: block 0 of the closed image and of the new one, and the new image's blocks 1
-- to k, which hold the message.
-- Assumes nothing.
use mathlib.Core.Path.{◌≡◌, refl, sym, ap, subst, ◌∙◌}
use mathlib.Core.List.{List, [], ◌++◌, map, append-nil}
use Prim.Native.Nat.{ℕ, ◌+◌, ◌-◌, ◌*◌, ◌/◌, ◌%◌, ◌<◌, ◌≤◌}
use native.Mathlib.Omega.{arith}
use lib.ListN.{length, take, drop, length-drop, take-append-drop}
use lib.Seq.{take_all, drop-drop, take-append-le, drop-append-le}
use Rattle.tag.specs.Bytes.{byte, run, overlay}
use Rattle.tag.specs.Plan.{new_image}
use Rattle.tag.proofs.Addresses.{overlay-reads}
use Rattle.tag.proofs.Runs.{length_run, map-run}
use Rattle.type3.specs.AttributeInformation.{steady_sum, attribute_information}
use Rattle.type3.specs.Update.{blocks_for, addresses, ln_sum, body, values, closed_sum, closed, plan}
use Rattle.type3.proofs.Update.{closed-else, closed-length, closed-reads, above-addresses, length-body, new-agrees, new-length, HasRoom, inside}
use Rattle.type3_list.specs.Views.Blocks.{message_block}
use Rattle.type3_list.specs.Views.Listing.{attribute_information_block}
use Rattle.type3_list.proofs.AttributeInformation.{sixteen}
use Rattle.type3_list.proofs.MessageBlocks.{block-filled}

-- ---- the closed image

-- with Ln as it was
pub closed_block : (i : List ℕ) → 16 ≤ length i → byte i 12 < 256 → byte i 13 < 256
    → take 16 (closed i) ≡ attribute_information_block i 0x0F (attribute_information i).ln
unfolding attribute_information_block
closed_block i l b12 b13 =
    let ln = (attribute_information i).ln in
    let high : byte i 11 ≡ ln / 65536 = omega arith in
    let mid : byte i 12 ≡ ln / 256 % 256 = omega arith in
    let low : byte i 13 ≡ ln % 256 = omega arith in
    let sum : closed_sum i ≡ steady_sum i + 0x0F + ln_sum ln = omega arith in
    sixteen (closed i) (omega (arith, closed-length i))
    ∙ cc (
      closed-else i 0 refl,
      closed-else i 1 refl,
      closed-else i 2 refl,
      closed-else i 3 refl,
      closed-else i 4 refl,
      closed-else i 5 refl,
      closed-else i 6 refl,
      closed-else i 7 refl,
      closed-else i 8 refl,
      closed-else i 10 refl,
      closed-else i 11 refl,
      closed-else i 12 refl,
      closed-else i 13 refl,
      closed-reads i l,
      high,
      mid,
      low,
      sum,
    )

-- ---- the new image

module _ (i m : List ℕ) (r : HasRoom i m) where
  new : List ℕ
  new = new_image (plan i m) i

  -- what writing sets is read back
  new-reads : map (byte new) (take (length (values i m)) (addresses m)) ≡ values i m
  unfolding new
  new-reads =
      subst (λ vs. map (byte (overlay (addresses m) vs i)) (take (length (values i m)) (addresses m)) ≡ values i m) (append-nil (values i m))
      (overlay-reads (length i) (values i m) [] (addresses m) i 8 (above-addresses m (length i) (inside i m r)) (omega arith)
      (omega (arith, length-body m, length_run (16 * blocks_for (length m)) 16)))

  pub new-block : take 16 (new_image (plan i m) i) ≡ attribute_information_block i 0x00 (length m)
  unfolding new attribute_information_block
  new-block =
      let same = new-agrees i m in
      let set = new-reads in
      let sum : steady_sum i + ln_sum (length m) ≡ steady_sum i + 0x00 + ln_sum (length m) = omega arith in
      sixteen new (omega (arith, new-length i m, inside i m r))
      ∙ cc (same 0 refl, same 1 refl, same 2 refl, same 3 refl, same 4 refl, same 5 refl, same 6 refl, same 7 refl, same 8 refl, same 10 refl, set, sum)

  -- past block 0 are the message's blocks
  new-body : take (16 * blocks_for (length m)) (drop 16 new) ≡ body m
  unfolding new
  new-body =
      let k = blocks_for (length m) in
      let set = new-reads in
      let rest : map (byte new) (take (length (body m)) (run 16 (16 * k))) ≡ body m = cc in
      sym (map-run (16 * k) 16 new (omega (arith, new-length i m, inside i m r)))
      ∙ ap (map (byte new)) (sym (take_all (length (body m)) (run 16 (16 * k)) (omega (arith, length-body m, length_run (16 * k) 16))))
      ∙ rest

  -- so each block is the message's
  pub new-at : (b : ℕ) → 0 < b → b ≤ blocks_for (length m) → take 16 (drop (16 * b) (new_image (plan i m) i)) ≡ message_block m b
  unfolding new
  new-at b l h =
      let k = blocks_for (length m) in
      let s = b - 1 in
      let place : 16 * b ≡ 16 + 16 * s = omega arith in
      let past = drop (16 * k) (drop 16 new) in
      let whole : drop 16 new ≡ body m ++ past = sym (take-append-drop (16 * k) (drop 16 new)) ∙ ap (λ x. x ++ past) new-body in
      ap (λ a. take 16 (drop a new)) place
      ∙ ap (take 16) (sym (drop-drop (16 * s) 16 new) ∙ ap (drop (16 * s)) whole ∙ drop-append-le (16 * s) (body m) past (omega (arith, length-body m)))
      ∙ take-append-le 16 (drop (16 * s) (body m)) past (omega (arith, length-drop (16 * s) (body m), length-body m))
      ∙ sym (block-filled m s (omega arith))
