-- Reading the message of a Type 3 tag.
-- Assumes nothing.
use Rattle.std.specs.Prelude.{Bool, false, cond, List, [], ℕ, zero, suc, eqb, length, take, drop}
use Rattle.tag.specs.Checks.{Checked, fine, fault, first_of}
use Rattle.tag.specs.Reading.{Content, message, empty, being-written, Report, Reading, unreadable, reads}
use Rattle.type3.specs.AttributeInformation.{AttributeInformation, capacity, attribute_information, attribute_checks, may_write}

-- a refusal, being written, or the length of the message
pub data Announced : Type 0 where
  refuse : ℕ → Announced
  busy : Announced
  announced : ℕ → Announced

-- WriteFlag 0Fh reads as being written
abbrev pub announce_after : AttributeInformation → Checked → Announced
announce_after a fine = cond (eqb a.write_flag 0x0F) busy (announced a.ln)
announce_after a (fault r) = refuse r

unfoldable pub announce_by : ℕ → AttributeInformation → Announced
announce_by n a = announce_after a (first_of (attribute_checks n a))

abbrev pub announce : List ℕ → Announced
announce i = announce_by (length i) (attribute_information i)

-- the report without a message, and with a message of n bytes from block 1; a Type 3 message is never interrupted
abbrev pub without : Content → List ℕ → Bool → Report
without content i w = record { content = content; bytes = []; address = 0; interrupted = false; writable = w; capacity = capacity i }

abbrev pub with_message : ℕ → List ℕ → Bool → Report
with_message n i w = record {
  content = message;
  bytes = take n (drop 16 i);
  address = 16;
  interrupted = false;
  writable = w;
  capacity = capacity i;
}

-- Ln 0 reads as empty
abbrev pub reading_of : Bool → List ℕ → Announced → Reading
reading_of w i (refuse r) = unreadable r
reading_of w i busy = reads (without being-written i w)
reading_of w i (announced zero) = reads (without empty i w)
reading_of w i (announced (suc n)) = reads (with_message (suc n) i w)

unfoldable pub reading : List ℕ → Reading
reading i = reading_of (may_write i) i (announce i)
