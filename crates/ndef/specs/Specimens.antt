-- Worked messages, lists and tables, on each side of every limit of 02's E5, with what reading and writing give. `SpecimensRead`,
-- `SpecimensWritten` and `SpecimensShortest` claim all rows at once, and the checker computes them.
-- Assumes nothing.
use Rattle.std.specs.Prelude.{◌≡◌, Bool, true, false, List, [], ◌∷◌, map, ℕ, zero, suc, length, replicate}
use Rattle.tag.specs.TagType.{Output, refused_output, output}
use Rattle.ndef.specs.Record.{Record, ndef}
use Rattle.ndef.specs.Message.{Parsed, records, refused, message_of}
use Rattle.ndef.specs.Places.{read}
use Rattle.ndef.specs.Shortest.{is_shortest}
use Rattle.ndef.specs.Writing.{write_list, write}

-- n records of TNF 5 with nothing in them, and what follows
abbrev pub run_of : ℕ → List ℕ → List ℕ
run_of zero after = after
run_of (suc n) after = 0x15 ∷ 0 ∷ 0 ∷ run_of n after

-- the same behind a first one
abbrev pub begun : ℕ → List ℕ → List ℕ
begun n after = 0x95 ∷ 0 ∷ 0 ∷ run_of n after

abbrev pub nothing : Record
nothing = ndef 5 [] [] []

-- ---- reading

-- a message and what it reads as
abbrev pub messages : List (List ℕ × Parsed)
messages =
    -- no byte: 32
    ([], refused 32)
    -- a URI record
    ∷ (0xD1 ∷ 1 ∷ 4 ∷ 0x55 ∷ 1 ∷ 97 ∷ 98 ∷ 99 ∷ [], records (ndef 1 (0x55 ∷ []) [] (1 ∷ 97 ∷ 98 ∷ 99 ∷ []) ∷ []))
    -- two records, the second with an ID
    ∷ (0x91 ∷ 1 ∷ 1 ∷ 0x55 ∷ 7 ∷ 0x59 ∷ 1 ∷ 2 ∷ 1 ∷ 0x54 ∷ 9 ∷ 5 ∷ 6 ∷ [], records (ndef 1 (0x55 ∷ []) [] (7 ∷ []) ∷ ndef 1 (0x54 ∷ []) (9 ∷ []) (5 ∷ 6 ∷ []) ∷ []))
    -- sixteen records; seventeen: 30; sixteen, of which the last has ME, and bytes left: 32
    ∷ (begun 14 (0x55 ∷ 0 ∷ 0 ∷ []), records (replicate 16 nothing))
    ∷ (begun 15 (0x55 ∷ 0 ∷ 0 ∷ []), refused 30)
    ∷ (begun 14 (0x55 ∷ 0 ∷ 0 ∷ 0x55 ∷ 0 ∷ 0 ∷ []), refused 32)
    -- a seventeenth record that is chunked: 30; a sixteenth that is: 31
    ∷ (begun 15 (0x35 ∷ []), refused 30)
    ∷ (begun 14 (0x35 ∷ []), refused 31)
    -- a chunk flag and TNF 6, each in a record that is cut short: 31
    ∷ (0xB1 ∷ [], refused 31)
    ∷ (0xD6 ∷ [], refused 31)
    -- cut short by a byte; all four length bytes FFh: 32
    ∷ (0xD1 ∷ 1 ∷ 2 ∷ 0x55 ∷ 7 ∷ [], refused 32)
    ∷ (0xC1 ∷ 1 ∷ 0xFF ∷ 0xFF ∷ 0xFF ∷ 0xFF ∷ 0x55 ∷ 7 ∷ [], refused 32)
    -- IL with an ID of length 0: no ID
    ∷ (0xD9 ∷ 1 ∷ 1 ∷ 0 ∷ 0x55 ∷ 7 ∷ [], records (ndef 1 (0x55 ∷ []) [] (7 ∷ []) ∷ []))
    -- TNF 0 with nothing; with a type, an ID, a payload: 32
    ∷ (0xD0 ∷ 0 ∷ 0 ∷ [], records (ndef 0 [] [] [] ∷ []))
    ∷ (0xD0 ∷ 1 ∷ 0 ∷ 7 ∷ [], refused 32)
    ∷ (0xD8 ∷ 0 ∷ 0 ∷ 1 ∷ 7 ∷ [], refused 32)
    ∷ (0xD0 ∷ 0 ∷ 1 ∷ 7 ∷ [], refused 32)
    -- TNF 5 with a payload; with a type: 32
    ∷ (0xD5 ∷ 0 ∷ 1 ∷ 7 ∷ [], records (ndef 5 [] [] (7 ∷ []) ∷ []))
    ∷ (0xD5 ∷ 1 ∷ 0 ∷ 7 ∷ [], refused 32)
    -- TNF 7: 32; TNF 1 without a type
    ∷ (0xD7 ∷ 0 ∷ 0 ∷ [], refused 32)
    ∷ (0xD1 ∷ 0 ∷ 0 ∷ [], records (ndef 1 [] [] [] ∷ []))
    -- no MB; no ME; MB again; ME before the end: 32
    ∷ (0x51 ∷ 0 ∷ 0 ∷ [], refused 32)
    ∷ (0x91 ∷ 0 ∷ 0 ∷ [], refused 32)
    ∷ (0x91 ∷ 0 ∷ 0 ∷ 0xD1 ∷ 0 ∷ 0 ∷ [], refused 32)
    ∷ (0xD1 ∷ 0 ∷ 0 ∷ 0x51 ∷ 0 ∷ 0 ∷ [], refused 32)
    -- four length bytes with a small number
    ∷ (0xC1 ∷ 1 ∷ 0 ∷ 0 ∷ 0 ∷ 1 ∷ 0x55 ∷ 7 ∷ [], records (ndef 1 (0x55 ∷ []) [] (7 ∷ []) ∷ []))
    ∷ []

-- the table that reading gives for two records
abbrev pub two_places : Output
two_places = output 2 (1 ∷ 3 ∷ 1 ∷ 4 ∷ 0 ∷ 4 ∷ 1 ∷ 1 ∷ 9 ∷ 1 ∷ 10 ∷ 1 ∷ 11 ∷ 2 ∷ [])

abbrev pub SpecimensRead : Type 0
SpecimensRead =
    (map (λ (row : List ℕ × Parsed). message_of row.0) messages ≡ map (λ (row : List ℕ × Parsed). row.1) messages)
    × (read (0x91 ∷ 1 ∷ 1 ∷ 0x55 ∷ 7 ∷ 0x59 ∷ 1 ∷ 2 ∷ 1 ∷ 0x54 ∷ 9 ∷ 5 ∷ 6 ∷ []) ≡ two_places)

-- ---- writing

-- what a list's message is, with its length
abbrev pub message : List ℕ → Output
message bs = output (length bs) bs

-- a list and what writing gives, for a buffer of 261 bytes
abbrev pub lists : List (List Record × Output)
lists =
    -- no record: 33; sixteen; seventeen: 33
    ([], refused_output 33)
    ∷ (replicate 16 nothing, message (begun 14 (0x55 ∷ 0 ∷ 0 ∷ [])))
    ∷ (replicate 17 nothing, refused_output 33)
    -- an ID; MB on the first record, ME on the last
    ∷ (ndef 1 (0x55 ∷ []) (9 ∷ []) (7 ∷ []) ∷ nothing ∷ [], message (0x99 ∷ 1 ∷ 1 ∷ 1 ∷ 0x55 ∷ 9 ∷ 7 ∷ 0x55 ∷ 0 ∷ 0 ∷ []))
    -- TNF 6, 7 and 8: 33; TNF 0 with nothing, and with an ID: 33; TNF 5 with a type: 33; a fault in the second record: 33
    ∷ (ndef 6 [] [] [] ∷ [], refused_output 33)
    ∷ (ndef 7 [] [] [] ∷ [], refused_output 33)
    ∷ (ndef 8 [] [] [] ∷ [], refused_output 33)
    ∷ (ndef 0 [] [] [] ∷ [], message (0xD0 ∷ 0 ∷ 0 ∷ []))
    ∷ (ndef 0 [] (1 ∷ []) [] ∷ [], refused_output 33)
    ∷ (ndef 5 (1 ∷ []) [] [] ∷ [], refused_output 33)
    ∷ (nothing ∷ ndef 0 (1 ∷ []) [] [] ∷ [], refused_output 33)
    -- a type of 255 bytes, and of 256: 33; an ID of 256: 33
    ∷ (ndef 1 (replicate 255 7) [] [] ∷ [], message (0xD1 ∷ 255 ∷ 0 ∷ replicate 255 7))
    ∷ (ndef 1 (replicate 256 7) [] [] ∷ [], refused_output 33)
    ∷ (ndef 1 [] (replicate 256 7) [] ∷ [], refused_output 33)
    -- a payload of 255 bytes takes 258; one of 256 takes 262: 12
    ∷ (ndef 1 [] [] (replicate 255 7) ∷ [], message (0xD1 ∷ 0 ∷ 255 ∷ replicate 255 7))
    ∷ (ndef 1 [] [] (replicate 256 7) ∷ [], refused_output 12)
    ∷ []

-- tables of numbers over the bytes 1 to 4: the first gives a record; then a part that ends behind the bytes, an empty part behind them,
-- six numbers, and a TNF over 255: 33
abbrev pub tables : List (List ℕ × Output)
tables =
    (1 ∷ 0 ∷ 1 ∷ 4 ∷ 0 ∷ 1 ∷ 3 ∷ [], message (0xD1 ∷ 1 ∷ 3 ∷ 1 ∷ 2 ∷ 3 ∷ 4 ∷ []))
    ∷ (1 ∷ 0 ∷ 1 ∷ 4 ∷ 0 ∷ 1 ∷ 4 ∷ [], refused_output 33)
    ∷ (1 ∷ 0 ∷ 1 ∷ 5 ∷ 0 ∷ 1 ∷ 3 ∷ [], refused_output 33)
    ∷ (1 ∷ 0 ∷ 1 ∷ 4 ∷ 0 ∷ 1 ∷ [], refused_output 33)
    ∷ (257 ∷ 0 ∷ 1 ∷ 4 ∷ 0 ∷ 1 ∷ 3 ∷ [], refused_output 33)
    ∷ []

abbrev pub SpecimensWritten : Type 0
SpecimensWritten =
    (map (λ (row : List Record × Output). write_list 261 row.0) lists ≡ map (λ (row : List Record × Output). row.1) lists)
    × (map (λ (row : List ℕ × Output). write 261 row.0 (1 ∷ 2 ∷ 3 ∷ 4 ∷ [])) tables ≡ map (λ (row : List ℕ × Output). row.1) tables)

-- ---- the shortest form

-- a message, and whether it uses the shortest form: not with IL and length 0, and not with four length bytes and a small number
abbrev pub forms : List (List ℕ × Bool)
forms =
    (0xD1 ∷ 1 ∷ 1 ∷ 0x55 ∷ 7 ∷ [], true)
    ∷ (0xD9 ∷ 1 ∷ 1 ∷ 0 ∷ 0x55 ∷ 7 ∷ [], false)
    ∷ (0xC1 ∷ 1 ∷ 0 ∷ 0 ∷ 0 ∷ 1 ∷ 0x55 ∷ 7 ∷ [], false)
    ∷ []

-- Of numbers that are no bytes 'at least as long' is false: 303 numbers read as a list whose message takes 306.
abbrev pub no_bytes : List ℕ
no_bytes = 0xD1 ∷ 0 ∷ 300 ∷ replicate 300 7

abbrev pub SpecimensShortest : Type 0
SpecimensShortest =
    (map (λ (row : List ℕ × Bool). is_shortest row.0) forms ≡ map (λ (row : List ℕ × Bool). row.1) forms)
    × (message_of no_bytes ≡ records (ndef 1 [] [] (replicate 300 7) ∷ []))
    × (write_list 303 (ndef 1 [] [] (replicate 300 7) ∷ []) ≡ refused_output 12)
