-- The areas declared so far, as the skip table shows them: how many areas it was made to skip, one after the other.
-- Assumes nothing.
use Rattle.std.specs.Prelude.{◌≡◌, List, ℕ, zero, suc, ◌≤◌, length, replicate}
use Rattle.tlv.specs.Views.Areas.{SkipsSet}

-- u is t with one more area skipped, inside the addresses from first up to end
pub record OneMore (first end : ℕ) (t u : List ℕ) : Type 0 where
  pub from : ℕ
  pub to : ℕ
  pub late : first ≤ from
  pub inside : to ≤ end
  pub skips : SkipsSet t u from to

-- u is t with n more areas skipped
unfoldable pub Added : ℕ → ℕ → ℕ → List ℕ → List ℕ → Type 0
Added first end zero t u = u ≡ t
Added first end (suc n) t u = (s : List ℕ) × Added first end n t s × OneMore first end s u

-- u is t with the areas skipped that were declared until the walk ended. Which and how many these are is left free here.
abbrev pub Declared : ℕ → ℕ → List ℕ → List ℕ → Type 0
Declared first end t u = (n : ℕ) × Added first end n t u

-- the table of n areas, which was all zeros before the first
abbrev pub TableOf : ℕ → ℕ → List ℕ → Type 0
TableOf end n table = Added 0 end n (replicate (length table) 0) table

-- a table that areas made, however many
abbrev pub TableOfAreas : ℕ → List ℕ → Type 0
TableOfAreas end table = (n : ℕ) × TableOf end n table

-- the same, wherever the data area ends that the areas lie in
abbrev pub MadeByAreas : List ℕ → Type 0
MadeByAreas table = (end : ℕ) × TableOfAreas end table
