-- Blocks and their numbers: a command holds blocks, and its bytes list their numbers.
-- Assumes nothing.
use mathlib.Core.Path.{◌≡◌, refl, sym, ap, ◌∙◌}
use mathlib.Core.List.{List, [], ◌∷◌}
use Prim.Native.Nat.{ℕ, zero, suc, ◌<◌}
use native.Mathlib.Omega.{arith}
use lib.ListN.{length, get_or}
use Rattle.std.proofs.lemmas.List.{ext_get_or, get_or-map, length-map}
use Rattle.tag.specs.declared.Block.{Block}
use Rattle.tag.specs.Bytes.{byte}
use Rattle.type3_commands.specs.CodecContracts.{block_numbers, blocks_of}

-- blocks by their numbers have these numbers
pub numbers-back : (ns : List ℕ) → block_numbers (blocks_of ns) ≡ ns
numbers-back [] = refl
numbers-back (n ∷ ns) = ap (λ l. n ∷ l) (numbers-back ns)

-- the number of the block at place k
pub number_at : (bs : List Block) (k : ℕ) → (get_or bs k (record { 0 = 0 })).0 ≡ byte (block_numbers bs) k
number_at [] k = refl
number_at (b ∷ bs) zero = refl
number_at (b ∷ bs) (suc k) = number_at bs k

-- numbers or blocks made one at a time
pub all-numbers : (bs : List Block) (ns : List ℕ) → length ns ≡ length bs → ((i : ℕ) → i < length bs → byte ns i ≡ (get_or bs i (record { 0 = 0 })).0)
    → ns ≡ block_numbers bs
all-numbers bs ns n h =
    ext_get_or 0 ns (block_numbers bs) (n ∙ sym (length-map bs (λ b. b.0))) (λ i l. h i (omega (arith, n)) ∙ number_at bs i)

pub all-blocks : (ns : List ℕ) (bs : List Block) → length bs ≡ length ns → ((i : ℕ) → i < length ns → (get_or bs i (record { 0 = 0 })).0 ≡ byte ns i)
    → bs ≡ blocks_of ns
all-blocks ns bs n h =
    ext_get_or (record { 0 = 0 }) bs (blocks_of ns) (n ∙ sym (length-map ns (λ k. record { 0 = k })))
    (λ i l. ap (λ k. record { 0 = k }) (h i (omega (arith, n))) ∙ sym (get_or-map (λ k. record { 0 = k }) ns i 0 (record { 0 = 0 }) (omega (arith, n))))
