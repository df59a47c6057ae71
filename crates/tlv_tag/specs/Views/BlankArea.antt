-- What a walk over a data area starts with: a skip table in which nothing is skipped yet.
-- Assumes nothing.
use Rattle.std.specs.Prelude.{◌≡◌, List, ℕ, ◌≤◌, length, replicate}

-- the data area lies inside the image and the table
pub record BlankArea (image table : List ℕ) (first end : ℕ) : Type 0 where
  pub ordered : first ≤ end
  pub in_table : end ≤ length table
  pub in_image : end ≤ length image
  pub short : length table ≤ 1024
  pub zeros : table ≡ replicate (length table) 0
