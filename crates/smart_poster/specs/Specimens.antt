-- Worked messages, on each side of every limit of 02's E6, with all their URIs. `SpecimensFound` claims all rows at once, and the checker
-- computes them.
-- Assumes nothing.
use Rattle.std.specs.Prelude.{◌≡◌, List, [], ◌∷◌, ◌++◌, map, ℕ, zero, suc, length}
use Prim.Native.String.{String}
use Rattle.uri.specs.Prefixes.{bytes_of}
use Rattle.smart_poster.specs.Uris.{Uris, uris, refused, uris_of}

-- a short record without an ID, with these flags and this TNF, and what follows
abbrev pub record_then : ℕ → String → List ℕ → List ℕ → List ℕ
record_then flags type payload after = flags ∷ length (bytes_of type) ∷ length payload ∷ (bytes_of type ++ payload ++ after)

-- a message of one record, and one of two
abbrev pub one : String → List ℕ → List ℕ
one type payload = record_then 0xD1 type payload []

abbrev pub two : String → List ℕ → String → List ℕ → List ℕ
two type payload type' payload' = record_then 0x91 type payload (record_then 0x51 type' payload' [])

-- a message inside n posters
abbrev pub nested : ℕ → List ℕ → List ℕ
nested zero m = m
nested (suc n) m = one "Sp" (nested n m)

-- the payload of tel:1, and of a code that is not known
abbrev pub tel : List ℕ
tel = 0x05 ∷ 0x31 ∷ []

abbrev pub bad : List ℕ
bad = 0x24 ∷ []

-- records with nothing in them: the first, n more, and what follows
abbrev pub run_of : ℕ → List ℕ → List ℕ
run_of zero after = after
run_of (suc n) after = 0x15 ∷ 0 ∷ 0 ∷ run_of n after

abbrev pub begun : ℕ → List ℕ → List ℕ
begun n after = 0x95 ∷ 0 ∷ 0 ∷ run_of n after

abbrev pub messages : List (List ℕ × Uris)
messages =
    -- a URI record; none; two; code 00h alone is the empty URI
    (one "U" tel, uris (bytes_of "tel:1" ∷ []))
    ∷ (one "T" tel, uris [])
    ∷ (two "U" tel "U" (0x03 ∷ bytes_of "a"), uris (bytes_of "tel:1" ∷ bytes_of "http://a" ∷ []))
    ∷ (one "U" (0x00 ∷ []), uris ([] ∷ []))
    -- types that are no URI and no poster; TNF 2 with the type of a URI
    ∷ (two "u" bad "sp" bad, uris [])
    ∷ (two "S" bad "Spx" bad, uris [])
    ∷ (record_then 0xD2 "U" bad [], uris [])
    -- 34: an unknown code, no payload; behind a URI; in front of one
    ∷ (one "U" bad, refused 34)
    ∷ (one "U" [], refused 34)
    ∷ (two "U" tel "U" bad, refused 34)
    ∷ (two "U" bad "U" tel, refused 34)
    -- posters: a URI in one, and in order around it; an empty one: 32
    ∷ (one "Sp" (one "U" tel), uris (bytes_of "tel:1" ∷ []))
    ∷ (two "Sp" (two "T" [] "U" tel) "U" (0x06 ∷ []), uris (bytes_of "tel:1" ∷ bytes_of "mailto:" ∷ []))
    ∷ (one "Sp" [], refused 32)
    -- four inside each other; a fifth: 35, whatever it holds
    ∷ (nested 4 (one "U" tel), uris (bytes_of "tel:1" ∷ []))
    ∷ (nested 5 (one "U" tel), refused 35)
    ∷ (nested 4 (one "Sp" []), refused 35)
    -- the message that holds the fifth is read whole first, and a record in front of the fifth comes first
    ∷ (nested 4 (record_then 0x91 "Sp" [] []), refused 32)
    ∷ (nested 4 (two "U" bad "Sp" []), refused 34)
    ∷ (nested 4 (two "Sp" [] "U" bad), refused 35)
    -- a fault in the outer message is met before one in a poster
    ∷ (record_then 0x91 "Sp" [] (0x31 ∷ []), refused 31)
    -- sixteen records in a poster among sixteen; seventeen in it: 30
    ∷ (begun 14 (record_then 0x51 "Sp" (begun 14 (record_then 0x51 "U" tel [])) []), uris (bytes_of "tel:1" ∷ []))
    ∷ (begun 14 (record_then 0x51 "Sp" (begun 15 (record_then 0x51 "U" tel [])) []), refused 30)
    -- no message: 32
    ∷ ([], refused 32)
    ∷ []

abbrev pub SpecimensFound : Type 0
SpecimensFound = map (λ (row : List ℕ × Uris). uris_of row.0) messages ≡ map (λ (row : List ℕ × Uris). row.1) messages
