-- What a type of tag defines, and what follows for all types alike: the order of the refusals of writing, the bytes of a list, and
-- how they are cut into commands.
-- Assumes nothing.
use Rattle.std.specs.Prelude.{Bool, true, false, not, cond, List, [], ◌∷◌, ◌++◌, map, ℕ, zero, suc, leb, eqb, length, take, drop}
use Rattle.tag.specs.Bytes.{overwrite}
use Rattle.tag.specs.Refusals.{empty_message, not_writable, block_too_small, message_too_long, short_buffer}
use Rattle.tag.specs.Checks.{Check, check, Checked, fine, fault, first_of}
use Rattle.tag.specs.Reading.{Report, Reading, unreadable, reads, Held, held_of}
use Rattle.tag.specs.Stores.{Store, Command}
use Rattle.tag.specs.Plan.{Plan, list}

-- What else the caller states, such as the IDm of Type 3, is fixed before a record is made. It is the same in all calls, so no
-- field takes it as an argument.
pub record TagType : Type 0 where
  pub reading : List ℕ → Reading
  -- are the tag's blocks large enough to write a message; of all types, only Type 6 has some that are not
  pub blocks_suffice : List ℕ → Bool
  -- what writing the message sets; looked at only where writing is not refused
  pub plan : List ℕ → List ℕ → Plan
  -- the command that the tag handed in takes some bytes for
  pub command : List ℕ → List ℕ → Command
  -- how many bytes the first command of a list takes, given the tag handed in and the list's bytes
  pub span : List ℕ → List ℕ → ℕ
  -- the bytes of a well-formed command
  pub encoded : List Store → List ℕ

abbrev pub held : TagType → List ℕ → Held
held T i = held_of (T.reading i)

-- writing is refused with one of 1 to 11 or with 14, or it has a plan
pub data Writing : Type 0 where
  refused_write : ℕ → Writing
  written : Plan → Writing

-- 9, 10, 14, 11, in this order; the message fits if it is no longer than the capacity that reading reports
abbrev pub checks_of : TagType → List ℕ → List ℕ → Report → List Check
checks_of T i m p =
    check (not (eqb (length m) 0)) empty_message
    ∷ check p.writable not_writable
    ∷ check (T.blocks_suffice i) block_too_small
    ∷ check (leb (length m) p.capacity) message_too_long
    ∷ []

abbrev pub planned : Plan → Checked → Writing
planned p fine = written p
planned p (fault r) = refused_write r

abbrev pub writing_by : TagType → List ℕ → List ℕ → Reading → Writing
writing_by T i m (unreadable r) = refused_write r
writing_by T i m (reads p) = planned (T.plan i m) (first_of (checks_of T i m p))

unfoldable pub writing : TagType → List ℕ → List ℕ → Writing
writing T i m = writing_by T i m (T.reading i)

-- the commands laid end to end
abbrev pub joined : List (List ℕ) → List ℕ
joined [] = []
joined (b ∷ bs) = b ++ joined bs

-- the bytes of the list for the tag i
abbrev pub list_bytes : TagType → Plan → List ℕ → List ℕ
list_bytes T p i = joined (map T.encoded (list p i))

-- what is written to a buffer, with the number that is returned; or a refusal
pub data Output : Type 0 where
  refused_output : ℕ → Output
  output : ℕ → List ℕ → Output

-- 12 if the bytes do not fit
abbrev pub fitted : ℕ → ℕ → List ℕ → Output
fitted room n bytes = cond (leb (length bytes) room) (output n bytes) (refused_output short_buffer)

-- a refusal changes no byte of the buffer
abbrev pub output_into : List ℕ → Output → List ℕ
output_into buffer (refused_output r) = buffer
output_into buffer (output n bytes) = overwrite bytes buffer

-- the output of `write` for a list buffer of length `room`; its number is that of the commands
abbrev pub write_by : TagType → ℕ → List ℕ → Writing → Output
write_by T room i (refused_write r) = refused_output r
write_by T room i (written p) = fitted room (length (list p i)) (list_bytes T p i)

abbrev pub write : TagType → ℕ → List ℕ → List ℕ → Output
write T room i m = write_by T room i (writing T i m)

-- a list's bytes, cut into commands from the front; each takes the bytes of its span, and a rest that is too short is the last one
unfoldable pub split_list : (List ℕ → ℕ) → ℕ → List ℕ → List (List ℕ)
split_list span zero bytes = []
split_list span (suc fuel) bytes =
    elim (eqb (length bytes) 0) [
      | true ↦ []
      | false ↦ take (span bytes) bytes ∷ split_list span fuel (drop (span bytes) bytes)
    ]

-- the fuel suffices: a span is at least 1, so there are at most as many commands as bytes
abbrev pub pieces : TagType → List ℕ → List ℕ → List (List ℕ)
pieces T i bytes = split_list (T.span i) (length bytes) bytes

-- the commands that the tag handed in takes a list's bytes for
abbrev pub commands : TagType → List ℕ → List ℕ → List Command
commands T i bytes = map (T.command i) (pieces T i bytes)
