-- Reading the message of a tag that has a TLV area.
-- Assumes nothing.
use Rattle.std.specs.Prelude.{Bool, false, not, cond, List, [], ◌∷◌, map, ℕ, ◌-◌, leb, ltb, length, take}
use Rattle.tag.specs.Bytes.{byte, consecutive}
use Rattle.tag.specs.Refusals.{bad_length}
use Rattle.tag.specs.Checks.{Check, Checked, fine, fault, first_of}
use Rattle.tag.specs.Reading.{message, empty, Report, Reading, unreadable, reads}
use Rattle.tlv.specs.Walk.{Length, bad, len, length_of, Found, lost, found, Layout, message_tlv}

-- a type of tag that has a TLV area
pub record TlvTag : Type 0 where
  pub layout : Layout
  -- refusals 1 to 5
  pub checks : List ℕ → List Check
  pub writable : List ℕ → Bool
  -- how many bytes a block has
  pub block_size : ℕ

-- a refusal; or the usable addresses after the message TLV's type byte, and those of the message
pub data Located : Type 0 where
  refuse : ℕ → Located
  located : List ℕ → List ℕ → Located

-- the message TLV, once its length is taken
unfoldable pub locate_by : List ℕ → Length → Located
locate_by us bad = refuse bad_length
locate_by us (len n vs) = cond (leb n (length vs)) (located us (take n vs)) (refuse bad_length)

abbrev pub locate_from : List ℕ → Found → Located
locate_from i (lost r) = refuse r
locate_from i (found a us) = locate_by us (length_of i us)

abbrev pub locate_after : TlvTag → List ℕ → Checked → Located
locate_after T i fine = locate_from i (message_tlv T.layout i)
locate_after T i (fault r) = refuse r

-- refusals 1 to 5, then the walk, then the message
unfoldable pub locate : TlvTag → List ℕ → Located
locate T i = locate_after T i (first_of (T.checks i))

-- the greatest length that fits, with its length field, in u usable bytes (02, E3); u is at least 1 on a tag that reads
unfoldable pub capacity_in : ℕ → ℕ
capacity_in u = cond (ltb u 255) (u - 1) (cond (leb u 257) 254 (u - 3))

-- the report, given whether the tag is writable, its capacity c, and the message's addresses. Length 0 reads as empty; else the
-- message is its value bytes, skipped addresses left out
abbrev pub report_of : Bool → ℕ → List ℕ → List ℕ → Report
report_of w c i [] = record { content = empty; bytes = []; address = 0; interrupted = false; writable = w; capacity = c }
report_of w c i (a ∷ ms) = record {
  content = message;
  bytes = map (byte i) (a ∷ ms);
  address = a;
  interrupted = not (consecutive (a ∷ ms));
  writable = w;
  capacity = c;
}

abbrev pub reading_of : Bool → List ℕ → Located → Reading
reading_of w i (refuse r) = unreadable r
reading_of w i (located us ms) = reads (report_of w (capacity_in (length us)) i ms)

unfoldable pub reading : TlvTag → List ℕ → Reading
reading T i = reading_of (T.writable i) i (locate T i)
