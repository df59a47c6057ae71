-- The theorems of demands 2 and 3 by name, for each type of tag. What each says is in `specs/Demand2.antt`, `specs/Demand3.antt`,
-- `specs/Code2.antt` and `specs/ByContract.antt`.
-- Assumes nothing.
use mathlib.Core.Path.{◌≡◌}
use mathlib.Core.List.{List}
use Prim.Native.Nat.{ℕ}
use lib.ListN.{length}
use Rattle.tag.specs.Cuts.{Ready}
use Rattle.tag.proofs.Laws.{ready-written}
use Rattle.type2.specs.Type2.{type2}
use Rattle.type2.proofs.Laws.{type2-laws}
use Rattle.type3.specs.Type3.{type3}
use Rattle.type3.proofs.Laws.{type3-laws}
use Rattle.type6.specs.Type6.{type6}
use Rattle.type6.proofs.Laws.{suffice-exactly, type6-laws}
use Rattle.type6.proofs.Counts.{list-most}
use Rattle.demands.specs.Demand2.{Demand2, Capacity, Fits2, Fits3, Fits6, Alike3, Alike6, TooLong2, TooLong3, TooLong6, LargeBlocks6, TooSmall6, Codec2, Codec3, Codec6, LeftOut, MostBytes6}
use Rattle.demands.specs.Demand3.{Demand3}
use Rattle.demands.specs.ByContract.{Code3}
use Rattle.demands.specs.Code2.{codec2, codec3, codec6, AlikeFound2, Code2}
use Rattle.demands.proofs.Demand2 as demand2
use Rattle.demands.proofs.Demand3 as demand3
use Rattle.demands.proofs.Capacity.{capacity-2, capacity-3, capacity-6}
use Rattle.demands.proofs.TooLong.{too-long-2, alike-2, too-long-3, too-long-6}
use Rattle.demands.proofs.TooSmall.{too-small-6}
use Rattle.demands.proofs.LeftOut.{left-out-2, left-out-3, left-out-6}
use Rattle.demands.proofs.ByContract.{by-contract}
use Rattle.demands.proofs.Codecs.{codec-2, codec-3, codec-6}
use Rattle.demands.proofs.CodecsOfCode.{back-2, there-2, back-3, there-3, back-6, there-6}
use Rattle.demands.proofs.Code2.{chained, written-tells, counts-answer, too-long-answer, capacity-answer, unreadable-answer, short-answer}

-- ---- Type 2

pub type2-demand2 : Demand2 type2
type2-demand2 = demand2.claim type2 type2-laws

pub type2-capacity : Capacity type2 Fits2
type2-capacity = capacity-2

pub type2-too-long-exactly : TooLong2
type2-too-long-exactly = too-long-2

pub type2-codec : Codec2
type2-codec = codec-2

pub type2-left-out : LeftOut type2
type2-left-out = left-out-2

-- demand 2 about the code, through the contracts of read, shown, write, model, encode and decode
pub type2-code2 : (blocks end : ℕ) → Code2 type2 (codec2 blocks) (AlikeFound2 end)
type2-code2 blocks end = record {
  written_reads = written-tells type2 type2-laws;
  counts = counts-answer type2;
  too_long_exactly = λ i m a buffer out r w. chained (too-long-answer type2 i m buffer out r w) (alike-2 i m a end);
  capacity_decides = capacity-answer type2 type2-laws;
  refuses = unreadable-answer type2 type2-laws;
  gathers = short-answer type2;
  encode_decode = back-2 blocks;
  decode_encode = there-2 blocks;
}

pub type2-demand3 : (i m : List ℕ) → Ready type2 i m → Demand3 type2 i m
type2-demand3 = demand3.claim type2 type2-laws

-- demand 3 about the code, through the contracts of write, judge and model
pub type2-code3 : (i m : List ℕ) → Ready type2 i m → Code3 type2 i m
type2-code3 i m r = by-contract type2 i m (type2-demand3 i m r) (ready-written type2 i m r)

-- ---- Type 3, for any IDm of eight bytes

module _ (idm : List ℕ) (eight : length idm ≡ 8) where
  pub type3-demand2 : Demand2 (type3 idm)
  type3-demand2 = demand2.claim (type3 idm) (type3-laws idm eight)

  pub type3-capacity : Capacity (type3 idm) Fits3
  type3-capacity = capacity-3 idm

  pub type3-too-long-exactly : TooLong3 idm
  type3-too-long-exactly = too-long-3 idm

  pub type3-codec : Codec3 idm
  type3-codec = codec-3 idm eight

  pub type3-left-out : LeftOut (type3 idm)
  type3-left-out = left-out-3 idm eight

  pub type3-code2 : (nbw nmaxb : ℕ) → Code2 (type3 idm) (codec3 idm nbw nmaxb) Alike3
  type3-code2 nbw nmaxb = record {
    written_reads = written-tells (type3 idm) (type3-laws idm eight);
    counts = counts-answer (type3 idm);
    too_long_exactly = λ i m a buffer out r w. chained (too-long-answer (type3 idm) i m buffer out r w) (type3-too-long-exactly i m a);
    capacity_decides = capacity-answer (type3 idm) (type3-laws idm eight);
    refuses = unreadable-answer (type3 idm) (type3-laws idm eight);
    gathers = short-answer (type3 idm);
    encode_decode = back-3 idm eight nbw nmaxb;
    decode_encode = there-3 idm eight nbw nmaxb;
  }

  pub type3-demand3 : (i m : List ℕ) → Ready (type3 idm) i m → Demand3 (type3 idm) i m
  type3-demand3 = demand3.claim (type3 idm) (type3-laws idm eight)

  pub type3-code3 : (i m : List ℕ) → Ready (type3 idm) i m → Code3 (type3 idm) i m
  type3-code3 i m r = by-contract (type3 idm) i m (type3-demand3 i m r) (ready-written (type3 idm) i m r)

-- ---- Type 6

pub type6-demand2 : Demand2 type6
type6-demand2 = demand2.claim type6 type6-laws

pub type6-capacity : Capacity type6 Fits6
type6-capacity = capacity-6

pub type6-too-long-exactly : TooLong6
type6-too-long-exactly = too-long-6

pub type6-large-blocks : LargeBlocks6
type6-large-blocks = suffice-exactly

pub type6-too-small-exactly : TooSmall6
type6-too-small-exactly = too-small-6

pub type6-codec : Codec6
type6-codec = codec-6

pub type6-left-out : LeftOut type6
type6-left-out = left-out-6

pub type6-most-bytes : MostBytes6
type6-most-bytes = list-most

pub type6-code2 : (z blocks : ℕ) (Chosen : ℕ → Type 0) → Code2 type6 (codec6 z blocks) (Alike6 Chosen)
type6-code2 z blocks Chosen = record {
  written_reads = written-tells type6 type6-laws;
  counts = counts-answer type6;
  too_long_exactly = λ i m a buffer out r w. chained (too-long-answer type6 i m buffer out r w) (type6-too-long-exactly i m a Chosen);
  capacity_decides = capacity-answer type6 type6-laws;
  refuses = unreadable-answer type6 type6-laws;
  gathers = short-answer type6;
  encode_decode = back-6 z blocks;
  decode_encode = there-6 z blocks;
}

pub type6-demand3 : (i m : List ℕ) → Ready type6 i m → Demand3 type6 i m
type6-demand3 = demand3.claim type6 type6-laws

pub type6-code3 : (i m : List ℕ) → Ready type6 i m → Code3 type6 i m
type6-code3 i m r = by-contract type6 i m (type6-demand3 i m r) (ready-written type6 i m r)
