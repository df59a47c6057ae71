-- A plan whose commands store one block each: the list made from the two images is the plan's, for every type whose command is the
-- front, the block's number and the block's bytes. A type has to show this of whole blocks only.
-- Assumes nothing.
use mathlib.Core.Path.{◌≡◌, refl, sym, ap, ◌∙◌}
use mathlib.Core.Bool.{Bool, true, false, cond}
use mathlib.Core.List.{List, [], ◌∷◌, ◌++◌, map}
use Prim.Native.Nat.{ℕ, suc, ◌+◌, ◌-◌, ◌*◌, ◌/◌, ◌<◌, ◌≤◌}
use native.Mathlib.Omega.{arith}
use lib.ListN.{length, take, drop, length-map}
use Rattle.tag.specs.Bytes.{byte}
use Rattle.tag.specs.Stores.{Store}
use Rattle.tag.specs.Plan.{Plan, new_image, block_of, between_by, between, picks, chunk, chunks, last_store, middle, list, counted, differing}
use Rattle.tag.specs.TagType.{TagType, written, joined, list_bytes, fitted, write_by}
use Rattle.tag.proofs.Images.{length-overlay}
use Rattle.tag.proofs.Blocks.{Blockwise, block-length}
use Rattle.tag.proofs.Picks.{length-picked, picked-in, picks-picked}
use Rattle.tag.proofs.Chunks.{joined-append}
use Rattle.tag.proofs.Counts.{length-list}
use Rattle.one_block_write.specs.Views.Listing.{command_bytes, block_bytes, blocks_bytes, store_bytes, chosen, guarded_bytes, guarded_output}
use Rattle.one_block_write.proofs.Laying.{block_inside, block_one}

module _ (T : TagType) (front : List ℕ) (p : Plan) (i new shut : List ℕ)
    (each : (s : Store) → length s.bytes ≡ p.block_size → T.encoded (s ∷ []) ≡ store_bytes front p.block_size s)
    (w : Blockwise p i)
    (one : p.width ≡ 1)
    (new-is : new ≡ new_image p i)
    (shut-is : shut ≡ take p.block_size (drop (p.block_size * p.guard) p.closed)) where
  abbrev z : ℕ
  z = p.block_size

  as_long : length new ≡ length i
  as_long = ap length new-is ∙ length-overlay p.addresses p.values i

  -- the blocks between
  abbrev bs : List ℕ
  bs = chosen p.block_size i new p.guard

  block-is : (j : List ℕ) (b : ℕ) → z * b + z ≤ length j → T.encoded (block_of z j b ∷ []) ≡ block_bytes front z j b
  block-is j b h = each (block_of z j b) (block-length z j b h) ∙ block_one front z w.some_size j b

  guard-is : (j : List ℕ) → length j ≡ length i → T.encoded (block_of z j p.guard ∷ []) ≡ block_bytes front z j p.guard
  guard-is j l = block-is j p.guard (block_inside z p.guard (length i / z) (length j) w.inside (omega (arith, w.whole)))

  -- a command for each block
  chunk-one : (cs : List ℕ) → ((j : ℕ) → j < length cs → z * byte cs j + z ≤ length new)
      → joined (map T.encoded (chunk 1 (length cs) (map (block_of z new) cs))) ≡ blocks_bytes front z new cs
  unfolding blocks_bytes
  chunk-one [] h = refl
  chunk-one (b ∷ cs) h =
      ap (λ bytes. bytes ++ joined (map T.encoded (chunk 1 (length cs) (map (block_of z new) cs)))) (block-is new b (h 0 (omega arith)))
      ∙ ap (λ bytes. block_bytes front z new b ++ bytes) (chunk-one cs (λ j l. h (suc j) (omega arith)))

  bs-inside : (j : ℕ) → j < length bs → z * byte bs j + z ≤ length new
  bs-inside j l =
      block_inside z (byte bs j) (length new / z) (length new)
      (omega (arith, (picked-in (between_by z p.guard i new) (length new / z) 0 j l).1))
      (omega (arith, as_long, w.whole, ap (λ n. z * (n / z)) as_long))

  middle-is : joined (map T.encoded (middle p i)) ≡ blocks_bytes front z new bs
  middle-is =
      let n = length i / z in
      let stores = map (block_of z new) bs in
      let many : (length stores + (1 - 1)) / 1 ≡ length bs = omega (arith, length-map bs (block_of z new)) in
      ap (λ v. joined (map T.encoded (chunks v (picks (between p i) z (new_image p i) 0 n)))) one
      ∙ ap (λ j. joined (map T.encoded (chunks 1 (picks (between_by z p.guard i j) z j 0 n)))) (sym new-is)
      ∙ ap (λ k. joined (map T.encoded (chunks 1 (picks (between_by z p.guard i new) z new 0 (k / z))))) (sym as_long)
      ∙ ap (λ ss. joined (map T.encoded (chunks 1 ss))) (picks-picked (between_by z p.guard i new) z new (length new / z) 0)
      ∙ ap (λ c. joined (map T.encoded (chunk 1 c stores))) many
      ∙ chunk-one bs bs-inside

  count-is : cond p.is_shut 0 1 + length bs + 1 ≡ length (list p i)
  count-is =
      let e : length bs ≡ differing p i
      = length-picked (between_by z p.guard i new) 0 (length new / z)
      ∙ ap (λ n. counted (between_by z p.guard i new) 0 (n / z)) as_long
      ∙ ap (λ j. counted (between_by z p.guard i j) 0 (length i / z)) new-is in
      sym (length-list p i ∙ rw one (omega (arith, e)))

  bytes-are : list_bytes T p i ≡ guarded_bytes front z new bs p.guard shut p.is_shut
  bytes-are = go p.is_shut refl
    where
      opened : T.encoded (last_store p i ∷ []) ≡ block_bytes front z new p.guard
      opened = guard-is (new_image p i) (length-overlay p.addresses p.values i) ∙ ap (λ j. block_bytes front z j p.guard) (sym new-is)

      rest : joined (map T.encoded (middle p i ++ (last_store p i ∷ []) ∷ [])) ≡ blocks_bytes front z new bs ++ block_bytes front z new p.guard
      rest =
          joined-append T.encoded (middle p i) (last_store p i ∷ [])
          ∙ ap (λ bytes. bytes ++ T.encoded (last_store p i ∷ [])) middle-is
          ∙ ap (λ bytes. blocks_bytes front z new bs ++ bytes) opened

      go : (c : Bool) → p.is_shut ≡ c → list_bytes T p i ≡ guarded_bytes front z new bs p.guard shut p.is_shut
      go true q = rw q rest
      go false q =
          rw q
          (ap (λ bytes. bytes ++ joined (map T.encoded (middle p i ++ (last_store p i ∷ []) ∷ [])))
          (guard-is p.closed w.closed-length ∙ ap (command_bytes front p.guard) (sym shut-is))
          ∙ ap (λ bytes. command_bytes front p.guard shut ++ bytes) rest)

  -- what is written is the plan's list
  pub plan-output : (room : ℕ) → guarded_output room front z i new p.guard shut p.is_shut ≡ write_by T room i (written p)
  plan-output room =
      ap (λ n. fitted room n (guarded_bytes front z new bs p.guard shut p.is_shut)) count-is ∙ ap (fitted room (length (list p i))) (sym bytes-are)
