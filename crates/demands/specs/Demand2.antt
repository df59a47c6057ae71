-- Demand 2: reading, writing and the codec, as theorems about the definitions. The definitions themselves say what reading answers
-- and which commands writing gives. This file states what follows from them.
-- `proofs/Theorems.antt` proves it.
-- Assumes nothing.
use Rattle.std.specs.Prelude.{◌≡◌, true, false, ◌⊎◌, ◌↔◌, List, ℕ, suc, ◌+◌, ◌*◌, ◌/◌, ◌<◌, ◌≤◌, length, take}
use Rattle.tag.specs.Bytes.{byte, has, Octets}
use Rattle.tag.specs.Refusals.{message_too_long, block_too_small}
use Rattle.tag.specs.Reading.{Report, unreadable, reads, answer_of, too_short, gathered_into, shown, holds}
use Rattle.tag.specs.Stores.{put}
use Rattle.tag.specs.Plan.{new_image, block_of, between, first_store, command_count}
use Rattle.tag.specs.TagType.{TagType, held, writing, refused_write, output, write, commands}
use Rattle.tag.specs.Cuts.{Ready}
use Rattle.tlv.specs.Walk.{found, message_tlv}
use Rattle.tlv_tag.specs.Update.{FitsIn}
use Rattle.type2.specs.Memory.{layout}
use Rattle.type2.specs.Type2.{type2}
use Rattle.type2.specs.Codec as codec2
use Rattle.type3.specs.Type3.{type3}
use Rattle.type3.specs.Codec as codec3
use Rattle.type6.specs.Container.{tag_block_size, file_at, file_room}
use Rattle.type6.specs.Type6.{type6}
use Rattle.type6.specs.Codec as codec6
use Rattle.demands.specs.Demand3.{cut_of, our_bytes}

-- ---- for every type of tag

pub record Demand2 (T : TagType) : Type 0 where
  -- the tag that took the commands written reads as the message, and the number answered is the number of commands
  pub written_reads : (room n : ℕ) (i m bytes : List ℕ) → write T room i m ≡ output n bytes
      → (n ≡ length (commands T i bytes)) × (held T (cut_of T i bytes n) ≡ holds m)
  -- it is 1 if the first command stays, r/w rounded up, and 1 for the last, with r the blocks other than the guard block whose new
  -- bytes differ and w the most blocks of one command (02, E4)
  pub counts : (room n : ℕ) (i m bytes : List ℕ) → write T room i m ≡ output n bytes → n ≡ command_count (T.plan i m) i
  -- a tag that does not read gets one of 1 to 8
  pub refusals : (i : List ℕ) (r : ℕ) → T.reading i ≡ unreadable r → (1 ≤ r) × (r ≤ 8)
  -- the part shown after reading is the message
  pub shown_is : (i buffer : List ℕ) (p : Report) → T.reading i ≡ reads p → too_short (length buffer) p ≡ false
      → shown i (gathered_into buffer (T.reading i)) (answer_of (length buffer) (T.reading i)) ≡ p.bytes
  -- where the tag reads and is writable, its blocks are large enough, and the message is not empty, 11 comes exactly if the message
  -- is longer than the capacity (02, E3)
  pub too_long : (i m : List ℕ) (p : Report) → T.reading i ≡ reads p → p.writable ≡ true → T.blocks_suffice i ≡ true
      → (length m ≡ 0 → ⊥) → (writing T i m ≡ refused_write message_too_long) ↔ (p.capacity < length m)

-- ---- what fits, in the words of the requirements

-- a length fits exactly if it is at most the capacity; `Fits` says what the requirements say of the type
abbrev pub Capacity : TagType → (List ℕ → ℕ → Type 0) → Type 0
Capacity T Fits = (i : List ℕ) (p : Report) → T.reading i ≡ reads p → (n : ℕ) → Fits i n ↔ (n ≤ p.capacity)

-- Type 2: n ≤ 254 and 1 + n ≤ u, or n ≥ 255 and 3 + n ≤ u, for the u usable bytes after the message TLV's type byte
abbrev pub Fits2 : List ℕ → ℕ → Type 0
Fits2 i n = (t : ℕ) × (us : List ℕ) × (message_tlv layout i ≡ found t us) × FitsIn (length us) n

-- Type 3: n ≤ 16·Nmaxb
abbrev pub Fits3 : List ℕ → ℕ → Type 0
Fits3 i n = n ≤ 16 * (256 * byte i 3 + byte i 4)

-- Type 6: n ≤ m, and so 2 + n ≤ MAX_LEN × size
abbrev pub Fits6 : List ℕ → ℕ → Type 0
Fits6 i n = 2 + n ≤ byte i 7 * tag_block_size i

-- ---- refusal 11, exactly

-- the tag reads and is writable, its blocks are large enough, and the message is not empty: of writing's refusals on the tag and
-- the message, only 11 may still come
pub record Asked (T : TagType) (i m : List ℕ) : Type 0 where
  pub report : Report
  pub reads_as : T.reading i ≡ reads report
  pub writable : report.writable ≡ true
  pub some_bytes : length m ≡ 0 → ⊥
  pub large_blocks : T.blocks_suffice i ≡ true
  pub image_octets : Octets i
  pub message_octets : Octets m

-- Type 2: images of equal length that are equal up to and with the type byte, at t, and at all skipped addresses, which are those
-- after it and below `end` that are not among the usable ones, us
pub record Alike2 (end t : ℕ) (us i j : List ℕ) : Type 0 where
  pub same_length : length j ≡ length i
  pub same_start : (a : ℕ) → a ≤ t → byte j a ≡ byte i a
  pub same_skipped : (a : ℕ) → t < a → a < end → has a us ≡ false → byte j a ≡ byte i a

-- for every end: it makes no difference whether an address past the data area counts as skipped
abbrev pub TooLong2 : Type 0
TooLong2 = (i m : List ℕ) → Asked type2 i m → (t : ℕ) (us : List ℕ) → message_tlv layout i ≡ found t us → (end : ℕ)
    → (writing type2 i m ≡ refused_write message_too_long) ↔ ((j : List ℕ) → Octets j → Alike2 end t us i j → held type2 j ≡ holds m → ⊥)

-- Type 3: images of equal length with the same bytes 0 to 8 and 10
pub record Alike3 (i j : List ℕ) : Type 0 where
  pub same_length : length j ≡ length i
  pub same_start : (a : ℕ) → a ≤ 8 → byte j a ≡ byte i a
  pub same_access : byte j 10 ≡ byte i 10

abbrev pub TooLong3 : List ℕ → Type 0
TooLong3 idm = (i m : List ℕ) → Asked (type3 idm) i m
    → (writing (type3 idm) i m ≡ refused_write message_too_long) ↔ ((j : List ℕ) → Octets j → Alike3 i j → held (type3 idm) j ≡ holds m → ⊥)

-- Type 6: images of equal length with the same bytes 0 to 7, and equal at whichever addresses outside the file are chosen
abbrev pub Outside : List ℕ → ℕ → Type 0
Outside i a = (a < file_at i) ⊎ (file_at i + file_room i ≤ a)

pub record Alike6 (Chosen : ℕ → Type 0) (i j : List ℕ) : Type 0 where
  pub same_length : length j ≡ length i
  pub same_start : (a : ℕ) → a < 8 → byte j a ≡ byte i a
  pub same_outside : (a : ℕ) → Chosen a → Outside i a → byte j a ≡ byte i a

-- for every choice: it makes no difference what else outside the file is held equal
abbrev pub TooLong6 : Type 1
TooLong6 = (i m : List ℕ) → Asked type6 i m → (Chosen : ℕ → Type 0)
    → (writing type6 i m ≡ refused_write message_too_long) ↔ ((j : List ℕ) → Octets j → Alike6 Chosen i j → held type6 j ≡ holds m → ⊥)

-- ---- refusal 14, exactly; only Type 6 has it

-- a tag's blocks are large enough, as `Ready` and `Asked` ask, exactly if the block size is 2 or more
abbrev pub LargeBlocks6 : Type 0
LargeBlocks6 = (i : List ℕ) → (type6.blocks_suffice i ≡ true) ↔ (2 ≤ tag_block_size i)

-- where the tag reads and is writable, and the message is not empty, there is no 14 exactly if the block size is 2 or more
abbrev pub TooSmall6 : Type 0
TooSmall6 = (i m : List ℕ) (p : Report) → type6.reading i ≡ reads p → p.writable ≡ true → (length m ≡ 0 → ⊥)
    → (writing type6 i m ≡ refused_write block_too_small → ⊥) ↔ (2 ≤ tag_block_size i)

-- ---- the codec loses nothing

pub record Codec2 : Type 0 where
  -- what is encoded decodes to the same command, and the number answered is the number of its bytes
  pub decode_encode : (blocks b : ℕ) (bytes : List ℕ) (room n : ℕ) (all : List ℕ) → length bytes ≡ 4
      → codec2.encode blocks b bytes room ≡ output n all → (codec2.decode blocks all ≡ codec2.decoded b bytes) × (n ≡ length all)
  -- bytes that decode to a command are what that command encodes to
  pub encode_decode : (blocks : ℕ) (all : List ℕ) (b : ℕ) (bytes : List ℕ) (room : ℕ) → length all ≤ room
      → codec2.decode blocks all ≡ codec2.decoded b bytes → codec2.encode blocks b bytes room ≡ output (length all) all

pub record Codec3 (idm : List ℕ) : Type 0 where
  pub decode_encode : (nbw nmaxb b : ℕ) (bs bytes : List ℕ) (room n : ℕ) (all : List ℕ) → 16 * b ≤ length bytes
      → codec3.encode idm nbw nmaxb b bs bytes room ≡ output n all
      → (codec3.decode idm nbw nmaxb all ≡ codec3.decoded (take b bs) (take (16 * b) bytes)) × (n ≡ length all)
  pub encode_decode : (nbw nmaxb : ℕ) (all bs bytes : List ℕ) (room : ℕ) → length all ≤ room
      → codec3.decode idm nbw nmaxb all ≡ codec3.decoded bs bytes → codec3.encode idm nbw nmaxb (length bs) bs bytes room ≡ output (length all) all

-- with blocks of z bytes, a command carries the first z of the bytes
pub record Codec6 : Type 0 where
  pub decode_encode : (z blocks b : ℕ) (bytes : List ℕ) (room n : ℕ) (all : List ℕ) → z ≤ length bytes
      → codec6.encode z blocks b bytes room ≡ output n all
      → (codec6.decode z blocks all ≡ codec6.decoded b (take z bytes)) × (n ≡ length all)
  pub encode_decode : (z blocks : ℕ) (all : List ℕ) (b : ℕ) (bytes : List ℕ) (room : ℕ) → length all ≤ room
      → codec6.decode z blocks all ≡ codec6.decoded b bytes → codec6.encode z blocks b bytes room ≡ output (length all) all

-- ---- what is left out (02, E4)

pub record LeftOut (T : TagType) : Type 0 where
  -- the first command is left out exactly if it would change nothing. The plan has 02's own words for when it is left out, which differ
  -- from type to type
  pub first : (i m : List ℕ) (p : Report) → T.reading i ≡ reads p → Octets i → ((T.plan i m).is_shut ≡ true) ↔ (put i (first_store (T.plan i m)) ≡ i)
  -- and so is every other block: it is not written exactly if storing its new bytes would change nothing
  pub others : (i m : List ℕ) → Ready T i m → (b : ℕ) → b < length i / (T.plan i m).block_size → (b ≡ (T.plan i m).guard → ⊥)
      → (between (T.plan i m) i b ≡ false) ↔ (put i (block_of (T.plan i m).block_size (new_image (T.plan i m) i) b) ≡ i)
  -- so no command of our list but the last leaves the tag as it was
  pub changes : (i m : List ℕ) → Ready T i m → Octets i → (k : ℕ) → suc k < length (commands T i (our_bytes T i m))
      → cut_of T i (our_bytes T i m) (suc k) ≡ cut_of T i (our_bytes T i m) k → ⊥

-- ---- the bytes of a list

-- a buffer of 256 · 35 bytes is long enough for the list of every Type 6 tag
abbrev pub MostBytes6 : Type 0
MostBytes6 = (i m : List ℕ) → Ready type6 i m → length (our_bytes type6 i m) ≤ 256 * 35
