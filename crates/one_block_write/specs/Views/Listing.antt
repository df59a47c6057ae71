-- What the code writes as a list. A type of tag passes in the bytes of a command before the block's number (front), the block size
-- (z), the image and the new one, the guard block (g), the bytes that it is shut with, and whether it is shut already.
-- Assumes nothing.
use Rattle.std.specs.Prelude.{◌≡◌, Bool, cond, List, [], ◌∷◌, ◌++◌, ℕ, ◌+◌, ◌*◌, ◌/◌, ◌<◌, ◌≤◌, length, take, drop}
use Rattle.tag.specs.Bytes.{byte}
use Rattle.tag.specs.Stores.{Store}
use Rattle.tag.specs.Plan.{between_by}
use Rattle.tag.specs.Views.Picked.{picked}
use Rattle.tag.specs.TagType.{Output, fitted}

-- the bytes of a command, and how many they are
abbrev pub command_bytes : List ℕ → ℕ → List ℕ → List ℕ
command_bytes front b bytes = front ++ b ∷ bytes

abbrev pub command_length : List ℕ → ℕ → ℕ
command_length front z = length front + 1 + z

-- the command of block b, with the image's bytes
abbrev pub block_bytes : List ℕ → ℕ → List ℕ → ℕ → List ℕ
block_bytes front z i b = command_bytes front b (take z (drop (z * b) i))

-- the commands of several blocks
unfoldable pub blocks_bytes : List ℕ → ℕ → List ℕ → List ℕ → List ℕ
blocks_bytes front z i [] = []
blocks_bytes front z i (b ∷ bs) = block_bytes front z i b ++ blocks_bytes front z i bs

-- the command of a store
abbrev pub store_bytes : List ℕ → ℕ → Store → List ℕ
store_bytes front z s = command_bytes front (s.at / z) s.bytes

-- the command that shuts the guard block, unless that is shut already, and its length
abbrev pub shut_command : List ℕ → ℕ → List ℕ → Bool → List ℕ
shut_command front g shut is_shut = cond is_shut [] (command_bytes front g shut)

abbrev pub shut_length : List ℕ → ℕ → Bool → ℕ
shut_length front z is_shut = cond is_shut 0 (command_length front z)

-- the blocks between the guard block's two commands
abbrev pub chosen : ℕ → List ℕ → List ℕ → ℕ → List ℕ
chosen z i new g = picked (between_by z g i new) 0 (length new / z)

-- the list's bytes, with the blocks bs between
abbrev pub guarded_bytes : List ℕ → ℕ → List ℕ → List ℕ → ℕ → List ℕ → Bool → List ℕ
guarded_bytes front z new bs g shut is_shut = shut_command front g shut is_shut ++ (blocks_bytes front z new bs ++ block_bytes front z new g)

abbrev pub guarded_output : ℕ → List ℕ → ℕ → List ℕ → List ℕ → ℕ → List ℕ → Bool → Output
guarded_output room front z i new g shut is_shut =
    fitted room (cond is_shut 0 1 + length (chosen z i new g) + 1) (guarded_bytes front z new (chosen z i new g) g shut is_shut)

-- all the blocks lie in the image
abbrev pub BlocksAsked : ℕ → List ℕ → List ℕ → Type 0
BlocksAsked z i bs = (j : ℕ) → j < length bs → byte bs j < length i / z

-- whole blocks, few enough to be named by a byte; and a short command
pub record Listed (front : List ℕ) (z : ℕ) (i new : List ℕ) (g : ℕ) (shut : List ℕ) : Type 0 where
  pub some_size : 0 < z
  pub short : command_length front z ≤ 256
  pub as_long : length new ≡ length i
  pub whole : length new ≡ z * (length new / z)
  pub few : length new / z ≤ 256
  pub inside : g < length new / z
  pub shut_whole : length shut ≡ z
