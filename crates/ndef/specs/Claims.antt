-- What is claimed of reading and writing records. Statements only; `proofs/Theorems.antt` proves them, and states nothing new.
-- `Octets` asks that bytes are bytes: with larger numbers in a list, 'at least as long' would be false.
-- Assumes nothing.
use Rattle.std.specs.Prelude.{◌≡◌, ◌↔◌, true, List, ℕ, ◌*◌, ◌≤◌, ◌<◌, length, take, Result, Ok, Err}
use Rattle.tag.specs.declared.refusals.Refusal as named
use Rattle.tag.specs.declared.refusals.Refusal.TheVariants.{UnwritableRecords, ShortBuffer}
use Rattle.tag.specs.Bytes.{Octets}
use Rattle.tag.specs.Refusals.{short_buffer, unwritable_records}
use Rattle.tag.specs.TagType.{refused_output, output}
use Rattle.tag.specs.Answers.{number_of}
use Rattle.ndef.specs.Record.{Record, OctetRecords}
use Rattle.ndef.specs.Message.{records, refused, message_of}
use Rattle.ndef.specs.Places.{numbers_each, read}
use Rattle.ndef.specs.Shortest.{is_shortest}
use Rattle.ndef.specs.Writing.{write_list, is_list, records_in}
use Rattle.ndef.specs.PublicContracts.{ReadRecords, WroteRecords}

-- ---- of the definitions

-- a list written and read is the same list
pub record SameList : Type 0 where
  pub reads_back : (room : ℕ) (rs : List Record) (n : ℕ) (bs : List ℕ) → write_list room rs ≡ output n bs → message_of bs ≡ records rs
  -- the number given is that of the bytes, which are octets if the list's are
  pub counts : (room : ℕ) (rs : List Record) (n : ℕ) (bs : List ℕ) → write_list room rs ≡ output n bs → n ≡ length bs
  pub gives_octets : (room : ℕ) (rs : List Record) (n : ℕ) (bs : List ℕ) → OctetRecords rs → write_list room rs ≡ output n bs → Octets bs

-- every message that reads as a list is at least as long as what writing that list gives, and one as short is the same bytes
pub record ShortestForm : Type 0 where
  pub no_shorter : (room : ℕ) (rs : List Record) (n : ℕ) (bs m : List ℕ) → write_list room rs ≡ output n bs → Octets m → message_of m ≡ records rs → length bs ≤ length m
  pub no_other : (room : ℕ) (rs : List Record) (n : ℕ) (bs m : List ℕ) → write_list room rs ≡ output n bs → Octets m → message_of m ≡ records rs
      → length m ≡ length bs → m ≡ bs

-- a message read and written is the same bytes if it used the shortest form, and only then
pub record SameBytes : Type 0 where
  -- the shortest form in the header's words: SR exactly if the payload has at most 255 bytes, IL exactly if the ID is not empty
  pub by_headers : (rs : List Record) (m : List ℕ) → Octets m → message_of m ≡ records rs
      → (is_shortest m ≡ true) ↔ (write_list (length m) rs ≡ output (length m) m)
  -- and as what it is: no message that reads the same is shorter
  pub by_length : (rs : List Record) (m : List ℕ) → Octets m → message_of m ≡ records rs
      → ((other : List ℕ) → Octets other → message_of other ≡ records rs → length m ≤ length other) ↔ (write_list (length m) rs ≡ output (length m) m)

-- 33 exactly if no message reads as the list
pub record UnwritableExactly : Type 0 where
  pub unwritable : (room : ℕ) (rs : List Record) → OctetRecords rs
      → (write_list room rs ≡ refused_output unwritable_records) ↔ ((m : List ℕ) → Octets m → message_of m ≡ records rs → ⊥)

-- some message reads as the list
abbrev pub Readable : List Record → Type 0
Readable rs = (m : List ℕ) × Octets m × (message_of m ≡ records rs)

-- 12 exactly if some message reads as the list, and each that does is longer than the buffer
pub record TooLongExactly : Type 0 where
  pub too_long : (room : ℕ) (rs : List Record) → OctetRecords rs
      → (write_list room rs ≡ refused_output short_buffer)
      ↔ (Readable rs × ((m : List ℕ) → Octets m → message_of m ≡ records rs → room < length m))

-- the table that reading gives, with the message for its bytes, is the list that the message reads as: seven numbers a record
pub record TableIsList : Type 0 where
  pub refuses : (m : List ℕ) (r : ℕ) → (read m ≡ refused_output r) ↔ (message_of m ≡ refused r)
  pub seven_each : (m : List ℕ) (n : ℕ) (t : List ℕ) → read m ≡ output n t → length t ≡ numbers_each * n
  pub lies_in : (m : List ℕ) (n : ℕ) (t : List ℕ) → read m ≡ output n t → is_list t m ≡ true
  pub reads_as : (m : List ℕ) (n : ℕ) (t : List ℕ) → read m ≡ output n t → message_of m ≡ records (records_in t m)

-- ---- of what the code answers

-- the refusal has this number
abbrev pub RefusedWith : Result ℕ named.Refusal → ℕ → Type 0
RefusedWith r k = (f : named.Refusal) × (r ≡ Err f) × (number_of f ≡ k)

-- The calls answer as their contracts say. Reading refuses exactly where the definition does. Writing gives 33 exactly if the table is no
-- list or no message reads as the list, and 12 exactly if some message does and each that does is longer than the buffer. What was
-- written, read again, has the records that were written; every message that reads the same is at least as long, and one as short is the
-- same bytes. A message that was read, written again from its table, gets no longer, and is the same bytes exactly if it used the shortest
-- form.
pub record Calls : Type 0 where
  pub refuses : (m table : List ℕ) (r : Result ℕ named.Refusal) (out : List ℕ) (k : ℕ) → ReadRecords m table r out
      → RefusedWith r k ↔ (message_of m ≡ refused k)
  pub unwritable : (t bytes buffer : List ℕ) (r : Result ℕ named.Refusal) (out : List ℕ) → Octets bytes → WroteRecords t bytes buffer r out
      → (r ≡ Err UnwritableRecords) ↔ (is_list t bytes ≡ true → (m : List ℕ) → Octets m → message_of m ≡ records (records_in t bytes) → ⊥)
  pub too_long : (t bytes buffer : List ℕ) (r : Result ℕ named.Refusal) (out : List ℕ) → Octets bytes → WroteRecords t bytes buffer r out
      → (r ≡ Err ShortBuffer)
      ↔ ((is_list t bytes ≡ true) × Readable (records_in t bytes) × ((m : List ℕ) → Octets m → message_of m ≡ records (records_in t bytes) → length buffer < length m))
  pub no_shorter : (t bytes buffer : List ℕ) (n : ℕ) (out m : List ℕ) → WroteRecords t bytes buffer (Ok n) out
      → Octets m → message_of m ≡ records (records_in t bytes) → (n ≤ length m) × (length m ≡ n → m ≡ take n out)
  pub same_list : (t bytes buffer : List ℕ) (n : ℕ) (out table : List ℕ) (r : Result ℕ named.Refusal) (out' : List ℕ)
      → WroteRecords t bytes buffer (Ok n) out → ReadRecords (take n out) table r out'
      → (k : ℕ) × (r ≡ Ok k) × (records_in (take (numbers_each * k) out') (take n out) ≡ records_in t bytes)
  pub same_bytes : (m table : List ℕ) (k : ℕ) (out buffer : List ℕ) (r : Result ℕ named.Refusal) (out' : List ℕ) → Octets m → length m ≤ length buffer
      → ReadRecords m table (Ok k) out → WroteRecords (take (numbers_each * k) out) m buffer r out'
      → (n : ℕ) × (r ≡ Ok n) × (n ≤ length m) × ((is_shortest m ≡ true) ↔ (take n out' ≡ m))
