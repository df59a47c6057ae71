-- The code's attribute information and answers as the definitions have them, and what the code knows about a tag.
-- Assumes nothing.
use Rattle.std.specs.Prelude.{◌≡◌, false, cond, List, ℕ, ◌+◌, ◌*◌, ◌%◌, ◌≤◌, eqb, length, Result, Ok, Err}
use Rattle.tag.specs.declared.refusals.Refusal.{Refusal}
use Rattle.tag.specs.Bytes.{byte}
use Rattle.tag.specs.Checks.{Checked, fine, fault, first_of}
use Rattle.tag.specs.Reading.{message, empty, being-written, Answer, answer}
use Rattle.tag.specs.Answers.{number_of}
use Rattle.type3.specs.declared.read.AttributeInformation.{AttributeInformation}
use Rattle.type3.specs.AttributeInformation.{nmaxb_of, attribute_information, attribute_checks, may_write}

-- ---- the attribute information

-- the answer of tests
abbrev pub checked_as : {A : Type 0} → Result A Refusal → Checked
checked_as (Ok a) = fine
checked_as (Err e) = fault (number_of e)

-- a whole number of blocks, 16 to 4,096 bytes
pub record WholeBlocks (i : List ℕ) : Type 0 where
  pub least : 16 ≤ length i
  pub most : length i ≤ 4096
  pub blocks : length i % 16 ≡ 0

-- the code's attribute information is what block 0 says
pub record Says (i : List ℕ) (a : AttributeInformation) : Type 0 where
  pub nbw_is : a.nbw ≡ byte i 2
  pub nmaxb_is : a.nmaxb ≡ nmaxb_of i
  pub ln_is : a.ln ≡ (attribute_information i).ln
  pub busy_is : a.busy ≡ eqb (byte i 9) 0x0F
  pub writable_is : a.writable ≡ may_write i

-- and the bounds that the tests have shown
pub record Attests (i : List ℕ) (a : AttributeInformation) : Type 0 where
  pub says : Says i a
  pub whole : WholeBlocks i
  pub reach : 16 * (1 + a.nmaxb) ≤ length i
  pub ln_fits : a.ln ≤ 16 * a.nmaxb

-- a tag that passes all tests, with its attribute information
pub record Readable (i : List ℕ) (a : AttributeInformation) : Type 0 where
  pub passes : first_of (attribute_checks (length i) (attribute_information i)) ≡ fine
  pub known : Attests i a

-- ---- the answer of reading

-- what the attribute information says of a message
abbrev pub answer_for : AttributeInformation → Answer
answer_for a =
    cond a.busy (answer being-written 0 0 false a.writable (16 * a.nmaxb))
    (cond (eqb a.ln 0) (answer empty 0 0 false a.writable (16 * a.nmaxb))
    (answer message 16 a.ln false a.writable (16 * a.nmaxb)))
