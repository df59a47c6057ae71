-- Blocks in rising order, as most commands list them.
-- Assumes nothing.
use Rattle.std.specs.Prelude.{Bool, true, ◌&&◌, List, [], ◌∷◌, ℕ, ◌+◌, leb}

-- the blocks rise, from low on and up to most
abbrev pub rising : ℕ → ℕ → List ℕ → Bool
rising most low [] = true
rising most low (b ∷ bs) = leb low b && leb b most && rising most (b + 1) bs
