-- The whole list, the guard block's two commands and those between them: its length, and what is answered for it.
-- Assumes nothing.
use mathlib.Core.Path.{◌≡◌, refl, ap, ◌∙◌}
use mathlib.Core.Bool.{Bool, true, false, not, cond}
use mathlib.Core.List.{List, ◌++◌}
use Prim.Native.Nat.{ℕ, ◌+◌, ◌*◌, ◌/◌, ◌<◌, ◌≤◌}
use native.Mathlib.Omega.{arith}
use borrow.Author.Tests.{le-leb, lt-leb}
use mir.Val.{bool_byte}
use lib.ListN.{length, length-append}
use Rattle.tag.specs.Bytes.{byte}
use Rattle.tag.specs.Plan.{between_by}
use Rattle.tag.specs.TagType.{refused_output, output}
use Rattle.tag.proofs.Picks.{picked-in}
use Rattle.one_block_write.specs.Views.Listing.{command_length, block_bytes, blocks_bytes, shut_command, shut_length, chosen, guarded_bytes, guarded_output, BlocksAsked, Listed}
use Rattle.one_block_write.proofs.Laying.{block_inside, length-command, length-block, length-blocks}

-- the command that shuts the guard block, if it stays, is one command long
pub shut-step : (front : List ℕ) (z : ℕ) (is_shut : Bool) → shut_length front z is_shut ≡ command_length front z * cond is_shut 0 1
shut-step front z true = omega arith
shut-step front z false = omega arith

pub length-shut : (front : List ℕ) (g : ℕ) (shut : List ℕ) (is_shut : Bool) → length (shut_command front g shut is_shut) ≡ shut_length front (length shut) is_shut
length-shut front g shut true = refl
length-shut front g shut false = length-command front g shut

-- the flag as a number of commands
pub shut-count : (is_shut : Bool) → bool_byte (not is_shut) ≡ cond is_shut 0 1
shut-count true = refl
shut-count false = refl

module _ (front : List ℕ) (z : ℕ) (i new : List ℕ) (g : ℕ) (shut : List ℕ) (h : Listed front z i new g shut) where
  pub guard-inside : z * g + z ≤ length new
  guard-inside = block_inside z g (length new / z) (length new) h.inside (omega (arith, h.whole))

  -- the blocks between lie in the image
  pub chosen-below : BlocksAsked z new (chosen z i new g)
  chosen-below j l = omega (arith, (picked-in (between_by z g i new) (length new / z) 0 j l).1)

  chosen-inside : (j : ℕ) → j < length (chosen z i new g) → z * byte (chosen z i new g) j + z ≤ length new
  chosen-inside j l = block_inside z (byte (chosen z i new g) j) (length new / z) (length new) (chosen-below j l) (omega (arith, h.whole))

  pub length-middle : length (blocks_bytes front z new (chosen z i new g)) ≡ command_length front z * length (chosen z i new g)
  length-middle = length-blocks front z new (chosen z i new g) chosen-inside

  module _ (is_shut : Bool) where
    length-guarded : length (guarded_bytes front z new (chosen z i new g) g shut is_shut) ≡ command_length front z * (cond is_shut 0 1 + length (chosen z i new g) + 1)
    length-guarded =
        let first = shut_command front g shut is_shut in
        let mid = blocks_bytes front z new (chosen z i new g) in
        let long : length first ≡ command_length front z * cond is_shut 0 1
        = length-shut front g shut is_shut ∙ ap (λ n. shut_length front n is_shut) h.shut_whole ∙ shut-step front z is_shut in
        omega (
          arith,
          length-append first (mid ++ block_bytes front z new g),
          length-append mid (block_bytes front z new g),
          long,
          length-middle,
          length-block front z new g guard-inside,
        )

    pub guarded-short : (room : ℕ) → room < command_length front z * (cond is_shut 0 1 + length (chosen z i new g) + 1)
        → guarded_output room front z i new g shut is_shut ≡ refused_output 12
    guarded-short room l = rw (lt-leb (length (guarded_bytes front z new (chosen z i new g) g shut is_shut)) room (omega (arith, length-guarded)))

    pub guarded-fits : (room : ℕ) → command_length front z * (cond is_shut 0 1 + length (chosen z i new g) + 1) ≤ room
        → guarded_output room front z i new g shut is_shut
        ≡ output (cond is_shut 0 1 + length (chosen z i new g) + 1) (guarded_bytes front z new (chosen z i new g) g shut is_shut)
    guarded-fits room l = rw (le-leb (length (guarded_bytes front z new (chosen z i new g) g shut is_shut)) room (omega (arith, length-guarded)))

    -- the length that the code tests, and where the list ends
    pub whole_length : command_length front z * (cond is_shut 0 1 + length (chosen z i new g) + 1)
        ≡ shut_length front z is_shut + command_length front z * length (chosen z i new g) + command_length front z
    whole_length = omega (arith, shut-step front z is_shut)

    pub guarded-end : shut_length front z is_shut + command_length front z * length (chosen z i new g) + command_length front z
        ≡ length (guarded_bytes front z new (chosen z i new g) g shut is_shut)
    guarded-end = omega (arith, length-guarded, shut-step front z is_shut)
