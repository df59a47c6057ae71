-- What demand 3 says of a list of commands at its cuts, as statements. The judge decides the same by computing, and it is proved
-- that the two agree. No definition that computes uses anything here.
-- Assumes nothing.
use Rattle.std.specs.Prelude.{◌≡◌, true, List, ℕ, ◌<◌, ◌≤◌, length, get_or}
use Rattle.tag.specs.Bytes.{byte}
use Rattle.tag.specs.Refusals.{malformed_command, protected_byte, misread, unfinished}
use Rattle.tag.specs.Reading.{Report, reads, nothing, holds}
use Rattle.tag.specs.Stores.{Command, malformed, tag_after, cut}
use Rattle.tag.specs.TagType.{TagType}
use Rattle.tag.specs.Judge.{Task}

-- what demand 3 takes for granted: a tag that reads, is writable, has blocks large enough, and has room for the new, non-empty
-- message
pub record Ready (T : TagType) (i m : List ℕ) : Type 0 where
  pub report : Report
  pub reads_as : T.reading i ≡ reads report
  pub writable : report.writable ≡ true
  pub some_bytes : length m ≡ 0 → ⊥
  pub large_blocks : T.blocks_suffice i ≡ true
  pub room : length m ≤ report.capacity

-- the tag reads as none, as the new message, or as the old one, which is what the tag handed in reads as, if any
pub data Safe (t : Task) (j : List ℕ) : Type 0 where
  as_none : t.held j ≡ nothing → Safe t j
  as_new : t.held j ≡ holds t.wanted → Safe t j
  as_old : (m : List ℕ) → t.held t.start ≡ holds m → t.held j ≡ holds m → Safe t j

-- protected bytes are unchanged
abbrev pub Kept : Task → List ℕ → Type 0
Kept t j = (a : ℕ) → a < length t.start → t.kept a ≡ true → byte j a ≡ byte t.start a

-- every command is well formed; every cut 0 to c is safe, with the protected bytes unchanged; and the last cut reads as the new
-- message
pub record SafeList (t : Task) (cs : List Command) : Type 0 where
  pub formed : (k : ℕ) → k < length cs → get_or cs k malformed ≡ malformed → ⊥
  pub safe : (k : ℕ) → k ≤ length cs → Safe t (cut k t.start cs)
  pub kept : (k : ℕ) → k ≤ length cs → Kept t (cut k t.start cs)
  pub ends : t.held (cut (length cs) t.start cs) ≡ holds t.wanted

-- a tag that a command given to the tag j may leave behind; there is only one, with the whole command stored
abbrev pub Left : List ℕ → Command → List ℕ → Type 0
Left j c x = x ≡ tag_after j c

abbrev pub KeptBy : Task → List ℕ → Command → Type 0
KeptBy t j c = (x : List ℕ) → Left j c x → Kept t x

abbrev pub SafeBy : Task → List ℕ → Command → Type 0
SafeBy t j c = (x : List ℕ) → Left j c x → Safe t x

-- what is wrong with a command that is given to the tag j, tested in the order 20, 21, 22; 0 if nothing is
pub data Fault (t : Task) (j : List ℕ) (c : Command) : ℕ → Type 0 where
  none : (c ≡ malformed → ⊥) → KeptBy t j c → SafeBy t j c → Fault t j c 0
  form : c ≡ malformed → Fault t j c malformed_command
  change : (c ≡ malformed → ⊥) → (KeptBy t j c → ⊥) → Fault t j c protected_byte
  reading : (c ≡ malformed → ⊥) → KeptBy t j c → (SafeBy t j c → ⊥) → Fault t j c misread

-- no command before place k is at fault
abbrev pub Faultless : Task → List Command → ℕ → Type 0
Faultless t cs k = (l : ℕ) → l < k → Fault t (cut l t.start cs) (get_or cs l malformed) 0

-- the first fault of a list: that of a command, at its position, or 23 with the number of commands
pub data FirstFault (t : Task) (cs : List Command) (r p : ℕ) : Type 0 where
  of_command : p < length cs → Faultless t cs p → Fault t (cut p t.start cs) (get_or cs p malformed) r → (r ≡ 0 → ⊥) → FirstFault t cs r p
  of_list : p ≡ length cs → r ≡ unfinished → Faultless t cs p → (t.held (cut p t.start cs) ≡ holds t.wanted → ⊥) → FirstFault t cs r p
