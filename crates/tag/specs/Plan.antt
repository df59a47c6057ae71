-- Which bytes writing a message sets, and the list of commands that sets them, for every type of tag. The list shuts a guard block
-- first, and while it is shut the tag holds no message. The list then writes the other blocks. It opens the guard block last, with
-- all its new bytes. What is there already is left out (02, E4): the first command if the guard block is shut, and every other block
-- that holds its new bytes. The last command always stays.
-- Assumes nothing.
use Rattle.std.specs.Prelude.{Bool, true, false, not, ◌&&◌, cond, List, [], ◌∷◌, ◌++◌, ℕ, zero, suc, ◌+◌, ◌-◌, ◌*◌, ◌/◌, eqb, length, take, drop}
use Rattle.tag.specs.Bytes.{overlay, is_set, same}
use Rattle.tag.specs.Stores.{Store}

pub record Plan : Type 0 where
  -- the addresses of the bytes to set, and their values; the longer of the two lists is cut off
  pub addresses : List ℕ
  pub values : List ℕ
  -- how many bytes a block has, and how many blocks a command may store
  pub block_size : ℕ
  pub width : ℕ
  -- the guard block (the requirements' A for Type 2, block 0 for Type 3), and the image that it is shut with
  pub guard : ℕ
  pub closed : List ℕ
  -- is the guard block shut already, in 02's words for the type
  pub is_shut : Bool

-- the tag with all bytes set
abbrev pub new_image : Plan → List ℕ → List ℕ
new_image p i = overlay p.addresses p.values i

-- protected (the requirements' word): all bytes but those to set
abbrev pub protected : Plan → ℕ → Bool
protected p a = not (is_set p.addresses p.values a)

-- block b of an image, to be stored
abbrev pub block_of : ℕ → List ℕ → ℕ → Store
block_of z n b = record { at = z * b; bytes = take z (drop (z * b) n) }

-- does block b of the tag i already hold its bytes of the image n
abbrev pub is_there : ℕ → List ℕ → List ℕ → ℕ → Bool
is_there z i n b = same (take z (drop (z * b) i)) (take z (drop (z * b) n))

-- is block b written between the guard block's two commands. One that holds no byte to set has all its new bytes, so there is no need
-- to say that a block written is touched (the requirements' word)
abbrev pub between_by : ℕ → ℕ → List ℕ → List ℕ → ℕ → Bool
between_by z g i n b = not (eqb b g) && not (is_there z i n b)

abbrev pub between : Plan → List ℕ → ℕ → Bool
between p i b = between_by p.block_size p.guard i (new_image p i) b

-- those of the k blocks from b on that the test picks, rising, with their bytes from the image n
unfoldable pub picks : (ℕ → Bool) → ℕ → List ℕ → ℕ → ℕ → List Store
picks t z n b zero = []
picks t z n b (suc k) = elim (t b) [ true ↦ block_of z n b ∷ picks t z n (suc b) k | false ↦ picks t z n (suc b) k ]

-- c commands of w stores each, the last taking what remains
abbrev pub chunk : ℕ → ℕ → List Store → List (List Store)
chunk w zero ss = []
chunk w (suc c) ss = take w ss ∷ chunk w c (drop w ss)

-- as many commands as are needed
abbrev pub chunks : ℕ → List Store → List (List Store)
chunks w ss = chunk w ((length ss + (w - 1)) / w) ss

-- what shuts the guard block, and what opens it
abbrev pub first_store : Plan → Store
first_store p = block_of p.block_size p.closed p.guard

abbrev pub last_store : Plan → List ℕ → Store
last_store p i = block_of p.block_size (new_image p i) p.guard

-- the first command, unless the guard block is shut already
abbrev pub first : Plan → List (List Store)
first p = cond p.is_shut [] ((first_store p ∷ []) ∷ [])

-- the commands between the guard block's two: blocks are left out first, and what remains is dealt out to commands
abbrev pub middle : Plan → List ℕ → List (List Store)
middle p i = chunks p.width (picks (between p i) p.block_size (new_image p i) 0 (length i / p.block_size))

-- the list for the tag i
abbrev pub list : Plan → List ℕ → List (List Store)
list p i = first p ++ (middle p i ++ (last_store p i ∷ []) ∷ [])

-- ---- how many commands that is (02, E4)

-- how many of the k blocks from b on pass the test
abbrev pub counted : (ℕ → Bool) → ℕ → ℕ → ℕ
counted test b zero = 0
counted test b (suc k) = cond (test b) 1 0 + counted test (suc b) k

-- r: the blocks of the tag i other than the guard block whose new bytes differ
abbrev pub differing : Plan → List ℕ → ℕ
differing p i = counted (between p i) 0 (length i / p.block_size)

-- 1 if the first command stays, r/w rounded up, and 1 for the last
abbrev pub command_count : Plan → List ℕ → ℕ
command_count p i = cond p.is_shut 0 1 + (differing p i + (p.width - 1)) / p.width + 1
