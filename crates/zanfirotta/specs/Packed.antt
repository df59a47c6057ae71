-- The answers as C gets them, each one number: a refusal in its low byte, and above it the position, or on success the count. A
-- count or a position keeps 56 bits, which is all of it: nothing in a machine's memory has 2^56 commands, records or bytes.
-- Assumes nothing.
use Rattle.std.specs.Prelude.{◌≡◌, Bool, true, false, cond, List, [], ◌∷◌, ℕ, ◌+◌, ◌*◌, ◌%◌, ◌^◌, leb, length}
use Rattle.tag.specs.Bytes.{overwrite}
use Rattle.tag.specs.Reading.{Content, message, empty, being-written, Reading, Answer, refusal, answer, answer_of, gathered_into}
use Rattle.tag.specs.Refusals.{Refusal, plain, positioned, malformed_command}
use Rattle.tag.specs.TagType.{TagType, Output, output_into}
use Rattle.tag.specs.Model.{model, image_after}
use Rattle.tag.specs.Answers.{Returned, refuses, gives, count_of, storing_of}
use Rattle.tag.specs.Judge.{Verdict, accepted, refused}
use Rattle.smart_poster.specs.First.{first, found_into, Told, refuses as refuses-uri, tells_none, tells, told_of}
use Rattle.type2.specs.Codec as two
use Rattle.type3.specs.Codec as three
use Rattle.type6.specs.Codec as six

-- a count or a position, above the low byte
abbrev pub above : ℕ → ℕ
above n = 256 * (n % 2 ^ 56)

-- a refusal, with its position where it has one
abbrev pub packed_refusal : Refusal → ℕ
packed_refusal (plain r) = r
packed_refusal (positioned r p) = r + above p

-- writing, encoding, reading records, expanding and shortening give a count
abbrev pub packed_count : Returned ℕ → ℕ
packed_count (refuses f) = packed_refusal f
packed_count (gives n) = above n

-- judging gives a count, or a refusal with a position
abbrev pub packed_verdict : Verdict → ℕ
packed_verdict (accepted n) = above n
packed_verdict (refused r p) = r + above p

-- the model gives no count
abbrev pub packed_storing : Returned (Unit {0}) → ℕ
packed_storing (refuses f) = packed_refusal f
packed_storing (gives u) = 0

-- ---- reading

abbrev pub packed_read : Answer → ℕ
packed_read (refusal r) = r
packed_read (answer content a n interrupted w c) = 0

abbrev pub content_number : Content → ℕ
content_number message = 1
content_number empty = 2
content_number being-written = 3

abbrev pub flag_of : Bool → ℕ
flag_of false = 0
flag_of true = 1

-- the report afterwards: content, address, length, interrupted, writable, capacity; unchanged after a refusal
abbrev pub report_into : List ℕ → Answer → List ℕ
report_into out (refusal r) = out
report_into out (answer content a n interrupted w c) = content_number content ∷ a ∷ n ∷ flag_of interrupted ∷ flag_of w ∷ c ∷ []

-- ---- decoding

abbrev pub packed_decoded2 : two.Decoded → ℕ
packed_decoded2 (two.undecoded f) = packed_refusal f
packed_decoded2 (two.decoded b bytes) = 0

-- a command's block, and its bytes; unchanged after a refusal
abbrev pub block_into : ℕ → two.Decoded → ℕ
block_into old (two.undecoded f) = old
block_into old (two.decoded b bytes) = b

abbrev pub data_into : List ℕ → two.Decoded → List ℕ
data_into old (two.undecoded f) = old
data_into old (two.decoded b bytes) = bytes

abbrev pub packed_decoded3 : three.Decoded → ℕ
packed_decoded3 (three.undecoded f) = packed_refusal f
packed_decoded3 (three.decoded bs bytes) = 0

-- how many blocks, their numbers, their bytes; unused entries are unchanged, and so is everything after a refusal
abbrev pub count_into : ℕ → three.Decoded → ℕ
count_into old (three.undecoded f) = old
count_into old (three.decoded bs bytes) = length bs

abbrev pub blocks_into : List ℕ → three.Decoded → List ℕ
blocks_into old (three.undecoded f) = old
blocks_into old (three.decoded bs bytes) = overwrite bs old

abbrev pub blockdata_into : List ℕ → three.Decoded → List ℕ
blockdata_into old (three.undecoded f) = old
blockdata_into old (three.decoded bs bytes) = overwrite bytes old

abbrev pub packed_decoded6 : six.Decoded → ℕ
packed_decoded6 (six.undecoded f) = packed_refusal f
packed_decoded6 (six.decoded b bytes) = 0

-- the block, and its bytes at the front of the data; the data past them is unchanged, and so is everything after a refusal
abbrev pub block_into6 : ℕ → six.Decoded → ℕ
block_into6 old (six.undecoded f) = old
block_into6 old (six.decoded b bytes) = b

abbrev pub data_into6 : List ℕ → six.Decoded → List ℕ
data_into6 old (six.undecoded f) = old
data_into6 old (six.decoded b bytes) = overwrite bytes old

-- how many bytes the first command of a Type 3 list takes; 20 if the list is empty or ends within that command
abbrev pub packed_span : List ℕ → ℕ
packed_span list = cond (leb (three.span list) (length list)) (above (three.span list)) (packed_refusal (positioned malformed_command 0))

-- ---- looking for the first URI

abbrev pub packed_told : Told → ℕ
packed_told (refuses-uri r) = r
packed_told tells_none = 0
packed_told (tells n) = above n

-- 1 if there is a URI, 0 if there is none; unchanged after a refusal
abbrev pub flag_into : ℕ → Told → ℕ
flag_into old (refuses-uri r) = old
flag_into old tells_none = 0
flag_into old (tells n) = 1

-- ---- the contracts of the C functions as relations

-- a call whose output, by the room it has, is o: given this buffer, it answers n and leaves the buffer as out
abbrev pub PutOutToC : (ℕ → Output) → List ℕ → ℕ → List ℕ → Type 0
PutOutToC o buffer n out = (n ≡ packed_count (count_of (o (length buffer)))) × (out ≡ output_into buffer (o (length buffer)))

-- a call that answers for a reading, given a gathering buffer and six numbers, answers n and leaves both as gathered and out
abbrev pub ReadToC : Reading → List ℕ → List ℕ → ℕ → List ℕ → List ℕ → Type 0
ReadToC v buffer report n gathered out =
    (n ≡ packed_read (answer_of (length buffer) v)) × (gathered ≡ gathered_into buffer v) × (out ≡ report_into report (answer_of (length buffer) v))

-- the model, given a tag and a command, answers n and leaves the tag as j
abbrev pub TookToC : TagType → List ℕ → List ℕ → ℕ → List ℕ → Type 0
TookToC T i command n j = (n ≡ packed_storing (storing_of (model T i command))) × (j ≡ image_after i (model T i command))

-- looking for the first URI, given a message, a buffer and a number, answers n and leaves the buffer as out and the number as found
abbrev pub FoundToC : List ℕ → List ℕ → ℕ → ℕ → List ℕ → ℕ → Type 0
FoundToC s buffer flag n out found =
    (n ≡ packed_told (told_of (first (length buffer) s)))
    × (out ≡ found_into buffer (first (length buffer) s))
    × (found ≡ flag_into flag (told_of (first (length buffer) s)))
