-- Whether a message may be written to a tag that reads, by the code's attribute information.
-- Assumes nothing.
use Rattle.std.specs.Prelude.{not, List, [], ◌∷◌, ℕ, ◌*◌, leb, eqb}
use Rattle.tag.specs.Refusals.{empty_message, not_writable, message_too_long}
use Rattle.tag.specs.Checks.{Check, check}
use Rattle.type3.specs.declared.read.AttributeInformation.{AttributeInformation}

-- 9, 10 and 11, in this order, for a message of n bytes
abbrev pub space_checks : AttributeInformation → ℕ → List Check
space_checks a n =
    check (not (eqb n 0)) empty_message
    ∷ check a.writable not_writable
    ∷ check (leb n (16 * a.nmaxb)) message_too_long
    ∷ []
