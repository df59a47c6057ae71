-- Demand 2 about what the public functions answer. It holds of any answers that meet the contracts of `read`, `shown`, `write`,
-- `judge`, `model`, `encode` and `decode`: the relations `Read`, `Showed`, `Wrote`, `Judged`, `Took`, `EncodedTo` and `DecodedTo`.
-- The record `Code2` is the whole claim; `proofs/Code2.antt` proves it.
-- Assumes nothing.
use Rattle.std.specs.Prelude.{◌≡◌, Bool, true, ◌↔◌, List, ℕ, ◌*◌, ◌<◌, ◌≤◌, length, take, replicate, Result, Ok, Err}
use Rattle.tag.specs.declared.Address.{Address}
use Rattle.tag.specs.declared.Report as code
use Rattle.tag.specs.declared.Content.TheVariants as content
use Rattle.tag.specs.declared.refusals.Refusal.{Refusal}
use Rattle.tag.specs.declared.refusals.Refusal.TheVariants.{MessageTooLong, ShortGatheringBuffer}
use Rattle.tag.specs.declared.refusals.Fault.{Fault}
use Rattle.tag.specs.Bytes.{overwrite, Octets}
use Rattle.tag.specs.Refusals.{message_too_long}
use Rattle.tag.specs.Reading.{Report, unreadable, reads, too_short, holds}
use Rattle.tag.specs.Plan.{command_count}
use Rattle.tag.specs.TagType.{TagType, held, pieces}
use Rattle.tag.specs.Answers.{number_of}
use Rattle.tag.specs.PublicContracts.{Read, Showed, Wrote, Judged}
use Rattle.tlv.specs.Walk.{found, message_tlv}
use Rattle.type2.specs.declared.Command as command2
use Rattle.type2.specs.Memory.{layout}
use Rattle.type2.specs.CodecContracts as views2
use Rattle.type3_commands.specs.declared.Command as command3
use Rattle.type3_commands.specs.CodecContracts as views3
use Rattle.type6.specs.declared.Command as command6
use Rattle.type6.specs.CodecContracts as views6
use Rattle.demands.specs.Demand3.{our_bytes}
use Rattle.demands.specs.Demand2.{Asked, Alike2}
use Rattle.demands.specs.ByContract.{Run, RefusesAt}

-- ---- what the claim uses of each type

-- a codec of the code, for what its caller states: the contracts of `encode` and `decode`, for its type's struct of a command
pub record CommandCodec : Type 1 where
  pub Command : Type 0
  pub EncodedTo : Command → List ℕ → Result ℕ Refusal → List ℕ → Type 0
  pub DecodedTo : List ℕ → Result Command Refusal → Type 0
  -- the struct's arrays have their lengths; this holds of every value
  pub Whole : Command → Type 0
  -- the command with zeros for what it does not use of its arrays
  pub used : Command → Command

-- the codec of Type 2, which takes the number of blocks
abbrev pub codec2 : ℕ → CommandCodec
codec2 blocks =
    record {
      Command = command2.Command;
      EncodedTo = views2.EncodedTo blocks;
      DecodedTo = views2.DecodedTo blocks;
      Whole = λ c. length c.bytes ≡ 4;
      used = λ c. c;
    }

-- the codec of Type 3, which takes our IDm, Nbw and Nmaxb
abbrev pub codec3 : List ℕ → ℕ → ℕ → CommandCodec
codec3 idm nbw nmaxb =
    record {
      Command = command3.Command;
      EncodedTo = views3.EncodedTo idm nbw nmaxb;
      DecodedTo = views3.DecodedTo idm nbw nmaxb;
      Whole = λ c. (length c.blocks ≡ 8) × (length c.bytes ≡ 128);
      used =
          λ c.
          record {
            count = c.count;
            blocks = views3.blocks_of (overwrite (take c.count (views3.block_numbers c.blocks)) (replicate 8 0));
            bytes = overwrite (take (16 * c.count) c.bytes) (replicate 128 0);
          };
    }

-- the codec of Type 6, which takes the block size and the number of blocks
abbrev pub codec6 : ℕ → ℕ → CommandCodec
codec6 z blocks =
    record {
      Command = command6.Command;
      EncodedTo = views6.EncodedTo z blocks;
      DecodedTo = views6.DecodedTo z blocks;
      Whole = λ c. length c.bytes ≡ 32;
      used = λ c. record { block = c.block; bytes = overwrite (take z c.bytes) (replicate 32 0) };
    }

-- Type 2: the images that refusal 11 is about; below `end`, an address that is not usable counts as skipped
abbrev pub AlikeFound2 : ℕ → List ℕ → List ℕ → Type 0
AlikeFound2 end i j = (t : ℕ) (us : List ℕ) → message_tlv layout i ≡ found t us → Alike2 end t us i j

-- ---- the claim

-- the answer is the refusal with this number
abbrev pub RefusesWith : {A : Type 0} → Result A Refusal → ℕ → Type 0
RefusesWith r n = (e : Refusal) × (r ≡ Err e) × (number_of e ≡ n)

-- the answer r and the part shown say that the tag holds the message m
pub record Tells (m : List ℕ) (r : Result code.Report Refusal) (part : List ℕ) : Type 0 where
  pub report : code.Report
  pub answered : r ≡ Ok report
  pub address : Address
  pub interrupted : Bool
  -- of the same length
  pub a_message : report.content ≡ content.Message address (length m) interrupted
  pub its_bytes : part ≡ m

pub record Code2 (T : TagType) (C : CommandCodec) (Alike : List ℕ → List ℕ → Type 0) : Type 0 where
  -- given the commands written, one a call, the model stores each; the tag that it leaves reads as the message, and the message is
  -- shown, unless the gathering buffer is too short
  pub written_reads : (i m buffer out : List ℕ) (n : ℕ) → Wrote T i m buffer (Ok n) out
      → (rs : List (Result (Unit {0}) Refusal)) (j : List ℕ) → Run T i (pieces T i (take (length (our_bytes T i m)) out)) rs j
      → (rs ≡ replicate n (Ok tt))
      × (
      (gathering gathered part : List ℕ) (r : Result code.Report Refusal) → Read T.reading j gathering r gathered → Showed j gathered r part
      → (r ≡ Err ShortGatheringBuffer → ⊥) → Tells m r part)
  -- the list has as many commands as 02's formula gives: 1 if the first stays, r/w rounded up, and 1 for the last
  pub counts : (i m buffer out : List ℕ) (n : ℕ) → Wrote T i m buffer (Ok n) out → n ≡ command_count (T.plan i m) i
  -- 11 exactly if no image that differs only in what writing may set reads as the message
  pub too_long_exactly : (i m : List ℕ) → Asked T i m → (buffer out : List ℕ) (r : Result ℕ Refusal) → Wrote T i m buffer r out
      → (r ≡ Err MessageTooLong) ↔ ((j : List ℕ) → Octets j → Alike i j → held T j ≡ holds m → ⊥)
  -- where `read` answers that the tag is writable, its blocks are large enough, and the message is not empty, `write` and `judge`
  -- give 11 exactly if the message is longer than the capacity that `read` answers
  pub capacity_decides : (i gathering gathered : List ℕ) (p : code.Report) → Read T.reading i gathering (Ok p) gathered
      → p.writable ≡ true → T.blocks_suffice i ≡ true → (m : List ℕ) → (length m ≡ 0 → ⊥)
      → ((buffer out : List ℕ) (r : Result ℕ Refusal) → Wrote T i m buffer r out → (r ≡ Err MessageTooLong) ↔ (p.capacity < length m))
      × ((bytes : List ℕ) (r : Result ℕ Fault) → Judged T i m bytes r → RefusesAt r message_too_long 0 ↔ (p.capacity < length m))
  -- a tag that does not read gets one of 1 to 8
  pub refuses : (i gathering gathered : List ℕ) (r : Result code.Report Refusal) → Read T.reading i gathering r gathered
      → (n : ℕ) → T.reading i ≡ unreadable n → RefusesWith r n × (1 ≤ n) × (n ≤ 8)
  -- a tag that reads gets 13 exactly if its message is interrupted and longer than the gathering buffer
  pub gathers : (i gathering gathered : List ℕ) (r : Result code.Report Refusal) → Read T.reading i gathering r gathered
      → (p : Report) → T.reading i ≡ reads p → (r ≡ Err ShortGatheringBuffer) ↔ (too_short (length gathering) p ≡ true)
  -- a decoded command encodes to the bytes that it was decoded from
  pub encode_decode : (all : List ℕ) (c : C.Command) → C.DecodedTo all (Ok c)
      → (buffer out : List ℕ) (r : Result ℕ Refusal) → length all ≤ length buffer → C.EncodedTo c buffer r out
      → (r ≡ Ok (length all)) × (out ≡ overwrite all buffer)
  -- the bytes of an encoded command decode to that command, with zeros for what it does not use of its arrays
  pub decode_encode : (c : C.Command) → C.Whole c → (buffer out : List ℕ) (n : ℕ) → C.EncodedTo c buffer (Ok n) out
      → (d : Result C.Command Refusal) → C.DecodedTo (take n out) d → d ≡ Ok (C.used c)
