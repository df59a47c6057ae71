-- The numbers of the blocks that a list writes, as the code collects them.
-- Assumes nothing.
use Rattle.std.specs.Prelude.{Bool, cond, List, [], ◌∷◌, ℕ, zero, suc}

-- those of the k blocks from b on that the test picks, rising
abbrev pub picked : (ℕ → Bool) → ℕ → ℕ → List ℕ
picked t b zero = []
picked t b (suc k) = cond (t b) (b ∷ picked t (suc b) k) (picked t (suc b) k)
