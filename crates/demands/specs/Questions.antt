-- What the specimens are made of: tags by their bytes, the questions that a row of the table asks, and how a row's answer is computed.
-- Assumes nothing.
use Rattle.std.specs.Prelude.{Bool, cond, List, [], ◌∷◌, ◌++◌, ℕ, ◌+◌, ◌-◌, length, take, replicate}
use Rattle.tag.specs.Bytes.{byte}
use Rattle.tag.specs.Reading.{Content, message, empty, being-written, Answer, refusal, answer, answer_of}
use Rattle.tag.specs.Stores.{cut}
use Rattle.tag.specs.TagType.{TagType, held, Output, refused_output, output, write, commands}
use Rattle.tag.specs.Judge.{Verdict, accepted, refused, holds_as, judged}
use Rattle.type2.specs.Type2.{type2}
use Rattle.type3.specs.Type3.{type3}
use Rattle.type6.specs.Type6.{type6}

-- ---- tags by their bytes

-- a Type 2 tag of n bytes: these from address 12 on, all others 00h
abbrev pub tag2 : ℕ → List ℕ → List ℕ
tag2 n bytes = take n (replicate 12 0x00 ++ bytes ++ replicate n 0x00)

-- a Type 2 tag of 64 bytes, size 6, given its version byte; its data area of 48 bytes begins with these
abbrev pub small_of : ℕ → List ℕ → List ℕ
small_of version bytes = tag2 64 (0xE1 ∷ version ∷ 0x06 ∷ 0x00 ∷ bytes)

abbrev pub small : List ℕ → List ℕ
small = small_of 0x10

-- one of 280 bytes, size 33; u of the 264 data bytes follow the type byte of a message TLV, and all before it are NULL TLVs
abbrev pub large : ℕ → List ℕ
large u = tag2 280 (0xE1 ∷ 0x10 ∷ 0x21 ∷ 0x00 ∷ replicate (263 - u) 0x00 ++ 0x03 ∷ [])

-- a Type 3 tag with thirteen blocks after block 0, given its version byte, WriteFlag, RWFlag and the checksum's low byte; Ln is 35
abbrev pub tag3_by : ℕ → ℕ → ℕ → ℕ → List ℕ
tag3_by version flag access sum =
    version ∷ 0x04 ∷ 0x01 ∷ 0x00 ∷ 0x0D ∷ 0x00 ∷ 0x00 ∷ 0x00 ∷ 0x00 ∷ flag ∷ access ∷ 0x00 ∷ 0x00 ∷ 0x23 ∷ 0x00 ∷ sum ∷ replicate 208 0x00

-- one that is not read-only
abbrev pub tag3_of : ℕ → ℕ → ℕ → List ℕ
tag3_of version flag sum = tag3_by version flag 0x01 sum

abbrev pub tag3 : ℕ → ℕ → List ℕ
tag3 = tag3_of 0x10

-- a Type 6 tag of n bytes: the letters NDE, the version, then these, all others 00h
abbrev pub tag6 : ℕ → List ℕ → List ℕ
tag6 n bytes = take n (0x4E ∷ 0x44 ∷ 0x45 ∷ 0x10 ∷ bytes ++ replicate n 0x00)

-- one of 32 blocks of 4 bytes, MAX_LEN 30; its file begins with these
abbrev pub card : List ℕ → List ℕ
card bytes = tag6 128 (0x1F ∷ 0x03 ∷ 0x00 ∷ 0x1E ∷ bytes)

-- one of 11 blocks of 1 byte, given its access byte; it holds a message of one byte, and m is 1
abbrev pub slim : ℕ → List ℕ
slim access = tag6 11 (0x0A ∷ 0x00 ∷ access ∷ 0x03 ∷ 0x01 ∷ 0x00 ∷ 0xD0 ∷ [])

-- one of n bytes that states 256 blocks of 32 bytes
abbrev pub longest : ℕ → List ℕ
longest n = tag6 n (0xFF ∷ 0x1F ∷ 0x00 ∷ 0xFF ∷ [])

-- the message of 003's example A.2: http://www.nfc-forum.org
abbrev pub forum : List ℕ
forum = 0xD1 ∷ 0x01 ∷ 0x0E ∷ 0x55 ∷ 0x01 ∷ 0x6E ∷ 0x66 ∷ 0x63 ∷ 0x2D ∷ 0x66 ∷ 0x6F ∷ 0x72 ∷ 0x75 ∷ 0x6D ∷ 0x2E ∷ 0x6F ∷ 0x72 ∷ 0x67 ∷ []

-- a message of n bytes
abbrev pub some : ℕ → List ℕ
some n = replicate n 0xD0

-- ---- questions and answers

pub data Question : Type 0 where
  -- what does the tag read as
  read : Question
  -- does a message of n bytes fit
  written : ℕ → Question
  -- which byte does an address have once a message of n bytes is written
  written_at : ℕ → ℕ → Question
  -- which commands are written for a message
  list_of : List ℕ → Question
  -- what does the judge answer for a message and a list
  judge_list : List ℕ → List ℕ → Question

pub data Outcome : Type 0 where
  refuses : ℕ → Outcome
  -- the content, the message's address and length, whether interrupted, whether writable, the capacity
  reads : Content → ℕ → ℕ → Bool → Bool → ℕ → Outcome
  -- the commands were written, and the tag that took them reads as the message
  fits : Outcome
  holds_byte : ℕ → Outcome
  -- the number of commands, and their bytes
  gives : ℕ → List ℕ → Outcome
  accepts : ℕ → Outcome
  refuses_at : ℕ → ℕ → Outcome
  misread : Outcome

abbrev pub of_answer : Answer → Outcome
of_answer (refusal r) = refuses r
of_answer (answer content a n b w c) = reads content a n b w c

-- the tag after the commands of a list's bytes
abbrev pub took : TagType → List ℕ → List ℕ → List ℕ
took T i bytes = cut (length (commands T i bytes)) i (commands T i bytes)

abbrev pub of_write : TagType → List ℕ → List ℕ → Output → Outcome
of_write T i m (refused_output r) = refuses r
of_write T i m (output n bytes) = cond (holds_as (held T (took T i bytes)) m) fits misread

abbrev pub of_byte : TagType → List ℕ → ℕ → Output → Outcome
of_byte T i a (refused_output r) = refuses r
of_byte T i a (output n bytes) = holds_byte (byte (took T i bytes) a)

abbrev pub outcome_of_list : Output → Outcome
outcome_of_list (refused_output r) = refuses r
outcome_of_list (output n bytes) = gives n bytes

abbrev pub of_verdict : Verdict → Outcome
of_verdict (accepted n) = accepts n
of_verdict (refused r p) = refuses_at r p

-- a buffer that is long enough
abbrev pub roomy : ℕ
roomy = 10000

abbrev pub outcome : TagType → List ℕ → Question → Outcome
outcome T i read = of_answer (answer_of roomy (T.reading i))
outcome T i (written n) = of_write T i (some n) (write T roomy i (some n))
outcome T i (written_at n a) = of_byte T i a (write T roomy i (some n))
outcome T i (list_of m) = outcome_of_list (write T roomy i m)
outcome T i (judge_list m bytes) = of_verdict (judged T i m bytes)

-- an outcome as numbers, which can be compared
abbrev pub content_number : Content → ℕ
content_number message = 1
content_number empty = 2
content_number being-written = 3

abbrev pub numbers : Outcome → List ℕ
numbers (refuses r) = 0 ∷ r ∷ []
numbers (reads content a n b w c) = 1 ∷ content_number content ∷ a ∷ n ∷ cond b 1 0 ∷ cond w 1 0 ∷ c ∷ []
numbers fits = 2 ∷ []
numbers (holds_byte v) = 3 ∷ v ∷ []
numbers (accepts n) = 4 ∷ n ∷ []
numbers (refuses_at r p) = 5 ∷ r ∷ p ∷ []
numbers misread = 6 ∷ []
numbers (gives n bytes) = 7 ∷ n ∷ bytes

pub record Row : Type 0 where
  pub kind : TagType
  pub image : List ℕ
  pub question : Question
  pub expected : Outcome

abbrev pub row2 : List ℕ → Question → Outcome → Row
row2 i q e = record { kind = type2; image = i; question = q; expected = e }

abbrev pub row3 : List ℕ → Question → Outcome → Row
row3 i q e = record { kind = type3 (replicate 8 0x00); image = i; question = q; expected = e }

abbrev pub row6 : List ℕ → Question → Outcome → Row
row6 i q e = record { kind = type6; image = i; question = q; expected = e }

-- a row: a list is judged for an empty tag of 32 blocks and a message of two bytes
abbrev pub judges6 : List ℕ → Outcome → Row
judges6 bytes e = row6 (card []) (judge_list (some 2) bytes) e

-- a row: a tag that holds a message and has this version byte is read
abbrev pub version2 : ℕ → Outcome → Row
version2 v e = row2 (small_of v (0x03 ∷ 0x03 ∷ 0xD0 ∷ 0x00 ∷ 0x00 ∷ 0xFE ∷ [])) read e

abbrev pub version3 : ℕ → Outcome → Row
version3 v e = row3 (tag3_of v 0x00 (0x36 + v)) read e
