-- Writing a message to a Type 6 tag: whether its blocks are large enough, and which bytes are set.
-- Assumes nothing.
use Rattle.std.specs.Prelude.{Bool, List, [], ◌∷◌, ℕ, suc, ◌/◌, ◌%◌, leb, eqb, length}
use Rattle.tag.specs.Bytes.{run, overlay}
use Rattle.tag.specs.Plan.{Plan}
use Rattle.type6.specs.Container.{tag_block_size, file_block, file_at, nlen}

-- one command sets both bytes of NLEN; 14 if the blocks are too small for that
abbrev pub block_size_suffices : List ℕ → Bool
block_size_suffices i = leb 2 (tag_block_size i)

-- what writing sets in a file at f: NLEN and the message. Nothing is set after the message
abbrev pub addresses : ℕ → List ℕ → List ℕ
addresses f m = f ∷ suc f ∷ run (suc (suc f)) (length m)

abbrev pub values : List ℕ → List ℕ
values m = length m % 256 ∷ length m / 256 ∷ m

-- the tag with NLEN zero
abbrev pub closed_at : ℕ → List ℕ → List ℕ
closed_at f i = overlay (f ∷ suc f ∷ []) (0x00 ∷ 0x00 ∷ []) i

-- the guard block is the file's first; it is shut already if NLEN is zero
abbrev pub plan : List ℕ → List ℕ → Plan
plan i m = record {
  addresses = addresses (file_at i) m;
  values = values m;
  block_size = tag_block_size i;
  width = 1;
  guard = file_block i;
  closed = closed_at (file_at i) i;
  is_shut = eqb (nlen i) 0;
}
