-- What the writer prepares for an update: the new image and the address of the first length byte. Also how many bytes it sets.
-- Assumes nothing.
use Rattle.std.specs.Prelude.{◌≡◌, List, ℕ, ◌+◌, ◌<◌, length, Result, Ok, Err}
use Rattle.tag.specs.Bytes.{overlay}
use Rattle.tag.specs.declared.Address.{Address}
use Rattle.tag.specs.declared.refusals.Refusal as refusals
use Rattle.tag.specs.Answers.{number_of}
use Rattle.tlv_tag.specs.Update.{length_field, tlv_bytes, length_at}
use Rattle.tlv_tag.specs.Views.Space.{Space, no_space, space}

-- how many bytes there are to set for a message of n bytes
abbrev pub tlv_bytes_length : ℕ → ℕ
tlv_bytes_length n = length (length_field n) + (n + 1)

-- the new image, and the address of the first length byte
pub record Prepared (us i m new : List ℕ) (first : ℕ) : Type 0 where
  pub new_is : new ≡ overlay us (tlv_bytes m) i
  pub first_is : first ≡ length_at us
  pub inside : first < length i

-- the code's answer, by the space that there is for the message
abbrev pub PreparedIn : Space → List ℕ → List ℕ → List ℕ → Result Address refusals.Refusal → Type 0
PreparedIn s i m new (Err e) = no_space (number_of e) ≡ s
PreparedIn s i m new (Ok a) = (us : List ℕ) × (space us ≡ s) × Prepared us i m new a.0

-- a refusal leaves the room for the new image as it was
abbrev pub LeftAlone : List ℕ → List ℕ → Result Address refusals.Refusal → Type 0
LeftAlone room room' (Err e) = room' ≡ room
LeftAlone room room' (Ok a) = Unit {0}
