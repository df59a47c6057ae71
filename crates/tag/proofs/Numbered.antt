-- Refusals with the same number are the same.
-- Assumes nothing.
use mathlib.Core.Path.{◌≡◌, refl, sym, ap, ◌∙◌}
use mathlib.Core.Bool.{cond}
use Prim.Native.Nat.{ℕ}
use lib.Dec.{eqb}
use Rattle.std.specs.Prelude.{Option, Some, None}
use Rattle.tag.specs.declared.refusals.Refusal as code
use Rattle.tag.specs.declared.refusals.Refusal.TheVariants.{ImageSize, NotNdef, UnknownVersion, BadAccess, BadDataArea, BadControlTlv, BadLength, NoMessageTlv, EmptyMessage, NotWritable, MessageTooLong, ShortBuffer, ShortGatheringBuffer, BlockTooSmall, MalformedCommand, ProtectedByte, Misread, Unfinished, TooManyRecords, ChunkedRecord, MalformedRecord, UnwritableRecords, BadUri, NestedTooDeep}
use Rattle.tag.specs.Answers.{number_of}

-- the refusal with a number
named : ℕ → Option code.Refusal
named n =
    cond (eqb n 1) (Some ImageSize) (
    cond (eqb n 2) (Some NotNdef) (
    cond (eqb n 3) (Some UnknownVersion) (
    cond (eqb n 4) (Some BadAccess) (
    cond (eqb n 5) (Some BadDataArea) (
    cond (eqb n 6) (Some BadControlTlv) (
    cond (eqb n 7) (Some BadLength) (
    cond (eqb n 8) (Some NoMessageTlv) (
    cond (eqb n 9) (Some EmptyMessage) (
    cond (eqb n 10) (Some NotWritable) (
    cond (eqb n 11) (Some MessageTooLong) (
    cond (eqb n 12) (Some ShortBuffer) (
    cond (eqb n 13) (Some ShortGatheringBuffer) (
    cond (eqb n 14) (Some BlockTooSmall) (
    cond (eqb n 20) (Some MalformedCommand) (
    cond (eqb n 21) (Some ProtectedByte) (
    cond (eqb n 22) (Some Misread) (
    cond (eqb n 23) (Some Unfinished) (
    cond (eqb n 30) (Some TooManyRecords) (
    cond (eqb n 31) (Some ChunkedRecord) (
    cond (eqb n 32) (Some MalformedRecord) (
    cond (eqb n 33) (Some UnwritableRecords) (
    cond (eqb n 34) (Some BadUri) (
    cond (eqb n 35) (Some NestedTooDeep) (
    None))))))))))))))))))))))))

named-number : (e : code.Refusal) → named (number_of e) ≡ Some e
unfolding named
named-number ImageSize = refl
named-number NotNdef = refl
named-number UnknownVersion = refl
named-number BadAccess = refl
named-number BadDataArea = refl
named-number BadControlTlv = refl
named-number BadLength = refl
named-number NoMessageTlv = refl
named-number EmptyMessage = refl
named-number NotWritable = refl
named-number MessageTooLong = refl
named-number ShortBuffer = refl
named-number ShortGatheringBuffer = refl
named-number BlockTooSmall = refl
named-number MalformedCommand = refl
named-number ProtectedByte = refl
named-number Misread = refl
named-number Unfinished = refl
named-number TooManyRecords = refl
named-number ChunkedRecord = refl
named-number MalformedRecord = refl
named-number UnwritableRecords = refl
named-number BadUri = refl
named-number NestedTooDeep = refl

pub same-name : (a b : code.Refusal) → number_of a ≡ number_of b → a ≡ b
same-name a b e = let q : Some a ≡ Some b = sym (named-number a) ∙ ap named e ∙ named-number b in cc
