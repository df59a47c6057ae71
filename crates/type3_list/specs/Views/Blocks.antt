-- The message's blocks by number: their bytes as the code fills them, and what a list of such numbers must satisfy.
-- Assumes nothing.
use Rattle.std.specs.Prelude.{Bool, not, List, [], ◌∷◌, ◌++◌, ℕ, ◌+◌, ◌-◌, ◌*◌, ◌<◌, ◌≤◌, length, take, drop, replicate}
use Rattle.tag.specs.Bytes.{byte, same}
use Rattle.tag.specs.Views.Picked.{picked}
use Rattle.type3.specs.Update.{blocks_for}

-- the block at the start of a part of the message: its first sixteen bytes, 00h past its end
abbrev pub filled : List ℕ → List ℕ
filled part = take 16 (part ++ replicate 16 0x00)

-- block b of the message, which starts at block 1
abbrev pub message_block : List ℕ → ℕ → List ℕ
message_block m b = filled (drop (16 * (b - 1)) m)

-- does the tag hold other bytes in block b
abbrev pub is_changed : List ℕ → List ℕ → ℕ → Bool
is_changed i m b = not (same (take 16 (drop (16 * b) i)) (message_block m b))

-- the blocks that a list writes between block 0's two commands
abbrev pub changed_blocks : List ℕ → List ℕ → List ℕ
changed_blocks i m = picked (is_changed i m) 1 (blocks_for (length m))

-- the bytes of several
abbrev pub blocks_bytes : List ℕ → List ℕ → List ℕ
blocks_bytes m [] = []
blocks_bytes m (b ∷ bs) = message_block m b ++ blocks_bytes m bs

-- some of the message's blocks, rising
pub record Chosen (m bs : List ℕ) : Type 0 where
  pub few : blocks_for (length m) ≤ 255
  pub from_one : (j : ℕ) → j < length bs → 0 < byte bs j
  pub inside : (j : ℕ) → j < length bs → byte bs j ≤ blocks_for (length m)
  pub rising : (j : ℕ) → j + 1 < length bs → byte bs j < byte bs (j + 1)
