-- Where a message goes: what writing and judging work out before they look at the message's bytes or at a list. Also the code's
-- answer about it, and what callers rely on.
-- Assumes nothing.
use Rattle.std.specs.Prelude.{◌≡◌, Bool, cond, List, ℕ, ◌<◌, ◌≤◌, leb, eqb, length, Result, Ok, Err}
use Rattle.tag.specs.declared.refusals.Refusal as refusals
use Rattle.tag.specs.Answers.{number_of}
use Rattle.tag.specs.Refusals.{empty_message, not_writable, message_too_long}
use Rattle.tlv.specs.declared.walk.Walk.{Walk}
use Rattle.tlv.specs.Views.Walks.{ahead, Within}
use Rattle.tlv_tag.specs.Message.{Located, refuse, located, capacity_in}

-- a refusal; or the usable addresses after the message TLV's type byte, which have room
pub data Space : Type 0 where
  no_space : ℕ → Space
  space : List ℕ → Space

-- for a message of n bytes, given what was located and whether the tag is writable: reading's refusals, then 9, 10, 11
abbrev pub space_of : Bool → ℕ → Located → Space
space_of w n (refuse r) = no_space r
space_of w n (located us ms) =
    cond (eqb n 0) (no_space empty_message)
    (cond w (cond (leb n (capacity_in (length us))) (space us) (no_space message_too_long))
    (no_space not_writable))

-- ---- the code

abbrev pub space_as : List ℕ → Result Walk refusals.Refusal → Space
space_as table (Err e) = no_space (number_of e)
space_as table (Ok w) = space (ahead table w)

-- a walk with room for a message of n bytes from its place on
pub record Room (image table : List ℕ) (n : ℕ) (w : Walk) : Type 0 where
  pub in_image : w.end.0 ≤ length image
  pub within : Within table w
  pub enough : n < length (ahead table w)
  pub few : length (ahead table w) ≤ 1024

-- the space lies in the data area, after a type byte
abbrev pub SpacePlaced : List ℕ → List ℕ → ℕ → ℕ → ℕ → Result Walk refusals.Refusal → Type 0
SpacePlaced image table n first end (Err e) = Unit {0}
SpacePlaced image table n first end (Ok w) = Room image table n w × (first < w.at.0) × (w.end.0 ≡ end)
