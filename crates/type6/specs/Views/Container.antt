-- What the code knows of a tag's container, as the definitions have it.
-- Assumes nothing.
use Rattle.std.specs.Prelude.{◌≡◌, false, cond, List, ℕ, ◌+◌, ◌*◌, ◌<◌, ◌≤◌, eqb, length}
use Rattle.tag.specs.Checks.{fine, first_of}
use Rattle.tag.specs.Reading.{message, empty, Answer, answer}
use Rattle.type6.specs.declared.container.Container.{Container}
use Rattle.type6.specs.Container.{tag_block_size, block_count, file_at, capacity, nlen, checks, may_write}

-- the code's container is what the image says
pub record Says (i : List ℕ) (c : Container) : Type 0 where
  pub size_is : c.size ≡ tag_block_size i
  pub blocks_are : c.blocks ≡ block_count i
  pub file_is : c.file.0 ≡ file_at i
  pub capacity_is : c.capacity ≡ capacity i
  pub nlen_is : c.nlen ≡ nlen i
  pub writable_is : c.writable ≡ may_write i

-- and the bounds that the tests have shown
pub record Attests (i : List ℕ) (c : Container) : Type 0 where
  pub says : Says i c
  pub some_size : 0 < c.size
  pub small : c.size ≤ 32
  pub few : c.blocks ≤ 256
  pub short : length i ≤ 8192
  pub whole : length i ≡ c.size * c.blocks
  pub low : c.file.0 < 40
  pub inside : c.file.0 + 2 + c.capacity ≤ length i
  pub nlen_fits : c.nlen ≤ c.capacity

-- a tag that passes all tests, with its container
pub record Readable (i : List ℕ) (c : Container) : Type 0 where
  pub passes : first_of (checks i) ≡ fine
  pub known : Attests i c

-- what the container says of a message, and of the room for one
abbrev pub answer_for : Container → Answer
answer_for c =
    cond (eqb c.nlen 0) (answer empty 0 0 false c.writable c.capacity)
    (answer message (2 + c.file.0) c.nlen false c.writable c.capacity)
