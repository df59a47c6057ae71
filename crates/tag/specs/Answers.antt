-- The code's answers as the requirements give them: the number of each refusal, the position that goes with it, and the values of an
-- answer. The contracts of the public functions use these definitions.
-- Assumes nothing.
use Rattle.std.specs.Prelude.{Bool, true, false, List, ℕ, Result, Ok, Err}
use Rattle.tag.specs.declared.Content as code
use Rattle.tag.specs.declared.Content.TheVariants as content
use Rattle.tag.specs.declared.Report as report
use Rattle.tag.specs.declared.refusals.Refusal as named
use Rattle.tag.specs.declared.refusals.Refusal.TheVariants.{ImageSize, NotNdef, UnknownVersion, BadAccess, BadDataArea, BadControlTlv, BadLength, NoMessageTlv, EmptyMessage, NotWritable, MessageTooLong, ShortBuffer, ShortGatheringBuffer, BlockTooSmall, MalformedCommand, ProtectedByte, Misread, Unfinished, TooManyRecords, ChunkedRecord, MalformedRecord, UnwritableRecords, BadUri, NestedTooDeep}
use Rattle.tag.specs.declared.refusals.Fault as faults
use Rattle.tag.specs.Refusals.{Refusal, refusal_at, image_size, not_ndef, unknown_version, bad_access, bad_data_area, bad_control_tlv, bad_length, no_message_tlv, empty_message, not_writable, message_too_long, short_buffer, short_gathering_buffer, block_too_small, malformed_command, protected_byte, misread, unfinished, too_many_records, chunked_record, malformed_record, unwritable_records, bad_uri, nested_too_deep}
use Rattle.tag.specs.Reading.{message, empty, being-written, Answer, refusal, answer, Held, broken, held_as}
use Rattle.tag.specs.TagType.{Output, refused_output, output}
use Rattle.tag.specs.Judge.{Verdict, accepted, refused}
use Rattle.tag.specs.Model.{Modelled, refused_storing, stored}

-- the number of a refusal
abbrev pub number_of : named.Refusal → ℕ
number_of ImageSize = image_size
number_of NotNdef = not_ndef
number_of UnknownVersion = unknown_version
number_of BadAccess = bad_access
number_of BadDataArea = bad_data_area
number_of BadControlTlv = bad_control_tlv
number_of BadLength = bad_length
number_of NoMessageTlv = no_message_tlv
number_of EmptyMessage = empty_message
number_of NotWritable = not_writable
number_of MessageTooLong = message_too_long
number_of ShortBuffer = short_buffer
number_of ShortGatheringBuffer = short_gathering_buffer
number_of BlockTooSmall = block_too_small
number_of MalformedCommand = malformed_command
number_of ProtectedByte = protected_byte
number_of Misread = misread
number_of Unfinished = unfinished
number_of TooManyRecords = too_many_records
number_of ChunkedRecord = chunked_record
number_of MalformedRecord = malformed_record
number_of UnwritableRecords = unwritable_records
number_of BadUri = bad_uri
number_of NestedTooDeep = nested_too_deep

-- reading: without a message, the address and the length are 0
abbrev pub content_as : code.Content → Bool → ℕ → Answer
content_as (content.Message a n interrupted) writable capacity = answer message a.0 n interrupted writable capacity
content_as content.Empty writable capacity = answer empty 0 0 false writable capacity
content_as content.BeingWritten writable capacity = answer being-written 0 0 false writable capacity

abbrev pub read_as : Result report.Report named.Refusal → Answer
read_as (Err e) = refusal (number_of e)
read_as (Ok p) = content_as p.content p.writable p.capacity

-- what a call returns: a refusal, or what it gives on success
pub data Returned (A : Type 0) : Type 0 where
  refuses : Refusal → Returned A
  gives : A → Returned A

-- a call that takes at most one command: the position of its 20 is 0
abbrev pub refuses_one : {A : Type 0} → ℕ → Returned A
refuses_one r = refuses (refusal_at r 0)

-- writing, encoding and reading records give a number
abbrev pub count_of : Output → Returned ℕ
count_of (refused_output r) = refuses_one r
count_of (output n bytes) = gives n

abbrev pub count_as : Result ℕ named.Refusal → Returned ℕ
count_as (Err e) = refuses_one (number_of e)
count_as (Ok n) = gives n

-- judging
abbrev pub refused_as : faults.Fault → Verdict
refused_as f = refused (number_of f.refusal) f.position

abbrev pub verdict_as : Result ℕ faults.Fault → Verdict
verdict_as (Err f) = refused_as f
verdict_as (Ok n) = accepted n

-- the model gives only that it stored
abbrev pub storing_of : Modelled → Returned (Unit {0})
storing_of (refused_storing r) = refuses_one r
storing_of (stored j) = gives tt

abbrev pub model_as : Result (Unit {0}) named.Refusal → Returned (Unit {0})
model_as (Err e) = refuses_one (number_of e)
model_as (Ok u) = gives tt

-- ---- what a tag holds, from the answer about it and the part shown

abbrev pub held_by : Answer → List ℕ → Held
held_by (refusal r) part = broken
held_by (answer content a n interrupted w c) part = held_as content part

abbrev pub is_message : Answer → Bool
is_message (refusal r) = false
is_message (answer message a n interrupted w c) = true
is_message (answer empty a n interrupted w c) = false
is_message (answer being-written a n interrupted w c) = false
