-- What the code knows of a tag whose capability container passes the tests.
-- Assumes nothing.
use Rattle.std.specs.Prelude.{◌≡◌, Bool, List, ℕ, ◌+◌, ◌*◌, ◌≤◌, length}
use Rattle.tag.specs.Bytes.{byte}
use Rattle.tag.specs.Checks.{fine, first_of}
use Rattle.type2.specs.Memory.{memory}

-- a tag whose checks pass, with its data area's end and whether it is writable
pub record Inside (i : List ℕ) (end : ℕ) (w : Bool) : Type 0 where
  pub sound : first_of (memory.checks i) ≡ fine
  pub ends : end ≡ 16 + 8 * byte i 14
  pub inside : end ≤ length i
  pub short : length i ≤ 1024
  pub access : w ≡ memory.writable i
