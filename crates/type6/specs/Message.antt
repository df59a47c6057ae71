-- Reading the message of a Type 6 tag.
-- Assumes nothing.
use Rattle.std.specs.Prelude.{Bool, false, List, [], ℕ, zero, suc, ◌+◌, take, drop}
use Rattle.tag.specs.Checks.{Checked, fine, fault, first_of}
use Rattle.tag.specs.Reading.{message, empty, Report, Reading, unreadable, reads}
use Rattle.type6.specs.Container.{file_at, capacity, nlen, checks, may_write}

-- the report, given whether the tag is writable, its capacity c, where its file is, and NLEN. NLEN 0 reads as empty. A Type 6
-- message is never interrupted, and no tag reads as being written
abbrev pub report_of : Bool → ℕ → ℕ → List ℕ → ℕ → Report
report_of w c f i zero = record { content = empty; bytes = []; address = 0; interrupted = false; writable = w; capacity = c }
report_of w c f i (suc n) = record {
  content = message;
  bytes = take (suc n) (drop (2 + f) i);
  address = 2 + f;
  interrupted = false;
  writable = w;
  capacity = c;
}

abbrev pub reading_by : List ℕ → Checked → Reading
reading_by i fine = reads (report_of (may_write i) (capacity i) (file_at i) i (nlen i))
reading_by i (fault r) = unreadable r

unfoldable pub reading : List ℕ → Reading
reading i = reading_by i (first_of (checks i))
