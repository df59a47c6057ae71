-- Whether a message may be written to a tag that reads, by the code's container.
-- Assumes nothing.
use Rattle.std.specs.Prelude.{not, List, [], ◌∷◌, ℕ, leb, eqb, Result, Ok, Err}
use Rattle.tag.specs.declared.refusals.Refusal as code
use Rattle.tag.specs.Refusals.{empty_message, not_writable, block_too_small, message_too_long}
use Rattle.tag.specs.Checks.{Check, check, Checked, fine, fault}
use Rattle.tag.specs.Answers.{number_of}
use Rattle.type6.specs.declared.container.Container.{Container}

-- the code's answer of some tests
abbrev pub tested_as : Result (Unit {0}) code.Refusal → Checked
tested_as (Ok u) = fine
tested_as (Err e) = fault (number_of e)

-- 9, 10, 14 and 11, in this order, for a message of n bytes
abbrev pub space_checks : Container → ℕ → List Check
space_checks c n =
    check (not (eqb n 0)) empty_message
    ∷ check c.writable not_writable
    ∷ check (leb 2 c.size) block_too_small
    ∷ check (leb n c.capacity) message_too_long
    ∷ []
