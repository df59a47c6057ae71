-- What reading a tag answers and what a tag holds, for every type of tag. A type gives a `Reading`, which has the message itself.
-- The definitions here turn it into what the caller of `read` gets: the message's length, and the gathering buffer.
-- Assumes nothing.
use Rattle.std.specs.Prelude.{Bool, ◌&&◌, cond, List, [], ℕ, ◌+◌, leb, ltb, length, take, drop}
use Rattle.tag.specs.Bytes.{overwrite}
use Rattle.tag.specs.Refusals.{short_gathering_buffer}

-- what a tag that reads holds
pub data Content : Type 0 where
  message empty being-written : Content

-- what a tag that reads says of itself; without a message `bytes` is empty and `address` is 0
pub record Report : Type 0 where
  pub content : Content
  pub bytes : List ℕ
  pub address : ℕ
  -- interrupted (the requirements' word): a skipped address lies between the message's first and last byte
  pub interrupted : Bool
  pub writable : Bool
  -- the greatest length that fits, whether the tag is writable or not (02, E3)
  pub capacity : ℕ

-- one of the refusals 1 to 8, or a report
pub data Reading : Type 0 where
  unreadable : ℕ → Reading
  reads : Report → Reading

-- 0, or the refusal's number
abbrev pub refusal_number : Reading → ℕ
refusal_number (unreadable r) = r
refusal_number (reads p) = 0

-- the answer of `read`: a refusal; or content, address, length, interrupted, writable, capacity
pub data Answer : Type 0 where
  refusal : ℕ → Answer
  answer : Content → ℕ → ℕ → Bool → Bool → ℕ → Answer

-- an interrupted message that is longer than the gathering buffer
abbrev pub too_short : ℕ → Report → Bool
too_short room p = p.interrupted && ltb room (length p.bytes)

-- the answer for a gathering buffer of length `room`
abbrev pub answer_of : ℕ → Reading → Answer
answer_of room (unreadable r) = refusal r
answer_of room (reads p) =
    cond (too_short room p) (refusal short_gathering_buffer)
    (answer p.content p.address (length p.bytes) p.interrupted p.writable p.capacity)

-- the gathering buffer afterwards: gathering changes only its front, and only if the message is interrupted and fits
abbrev pub gathered_into : List ℕ → Reading → List ℕ
gathered_into buffer (unreadable r) = buffer
gathered_into buffer (reads p) =
    cond (too_short (length buffer) p) buffer
    (cond p.interrupted (overwrite p.bytes buffer) buffer)

-- the n bytes of a slice from a on, or the empty part if they do not all lie in the slice
abbrev pub part : ℕ → ℕ → List ℕ → List ℕ
part a n s = cond (leb (a + n) (length s)) (take n (drop a s)) []

-- the part shown: a part of the image or, if interrupted, of the gathered copy; empty without a message and after a refusal
abbrev pub shown : List ℕ → List ℕ → Answer → List ℕ
shown image gathered (refusal r) = []
shown image gathered (answer message a n interrupted w c) = cond interrupted (part 0 n gathered) (part a n image)
shown image gathered (answer empty a n interrupted w c) = []
shown image gathered (answer being-written a n interrupted w c) = []

-- what a tag holds. Demand 3 compares readings by this alone: empty and being written both hold none
pub data Held : Type 0 where
  broken : Held
  nothing : Held
  holds : List ℕ → Held

abbrev pub held_as : Content → List ℕ → Held
held_as message m = holds m
held_as empty m = nothing
held_as being-written m = nothing

abbrev pub held_of : Reading → Held
held_of (unreadable r) = broken
held_of (reads p) = held_as p.content p.bytes
