-- What a type of tag's functions for one command of a list promise.
-- Assumes nothing.
use Rattle.std.specs.Prelude.{◌≡◌, Bool, List, ℕ, ◌+◌, ◌<◌, ◌≤◌, length, take, drop}
use Rattle.tag.specs.Stores.{formed, tag_after}
use Rattle.tag.specs.TagType.{TagType}

-- the command at `at` takes `size` bytes of the list
pub record Piece (T : TagType) (i list : List ℕ) (at size : ℕ) : Type 0 where
  pub cut_is : take (T.span i (drop at list)) (drop at list) ≡ take size (drop at list)
  pub rest_is : drop (T.span i (drop at list)) (drop at list) ≡ drop (at + size) list
  pub some_bytes : 0 < size
  pub inside : at + size ≤ length list

-- the tag j was given a command's bytes, and j' is left; r says whether they are well formed
abbrev pub Applied : TagType → List ℕ → List ℕ → List ℕ → Bool → List ℕ → Type 0
Applied T i j bytes r j' = (r ≡ formed (T.command i bytes)) × (j' ≡ tag_after j (T.command i bytes))
