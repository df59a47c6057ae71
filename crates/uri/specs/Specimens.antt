-- Worked payloads and URIs, on each side of every limit of 02's E6, with what expanding and shortening give. `SpecimensExpanded` and
-- `SpecimensShortened` claim all rows at once, and the checker computes them.
-- Assumes nothing.
use Rattle.std.specs.Prelude.{◌≡◌, List, [], ◌∷◌, map, ℕ}
use Rattle.uri.specs.Prefixes.{bytes_of}
use Rattle.uri.specs.Payload.{Expanded, uri, refused, uri_of, payload_of}

-- a payload and what it stands for
abbrev pub payloads : List (List ℕ × Expanded)
payloads =
    -- no byte: 34; code 00h alone: the empty URI
    ([], refused 34)
    ∷ (0x00 ∷ [], uri [])
    -- the first codes and the last; 24h and FFh: 34
    ∷ (0x01 ∷ bytes_of "a.org", uri (bytes_of "http://www.a.org"))
    ∷ (0x07 ∷ [], uri (bytes_of "ftp://anonymous:anonymous@"))
    ∷ (0x22 ∷ bytes_of "1", uri (bytes_of "urn:epc:1"))
    ∷ (0x23 ∷ bytes_of "sn:a", uri (bytes_of "urn:nfc:sn:a"))
    ∷ (0x24 ∷ bytes_of "a", refused 34)
    ∷ (0xFF ∷ [], refused 34)
    ∷ []

abbrev pub SpecimensExpanded : Type 0
SpecimensExpanded = map (λ (row : List ℕ × Expanded). uri_of row.0) payloads ≡ map (λ (row : List ℕ × Expanded). row.1) payloads

-- a URI and its payload
abbrev pub uris : List (List ℕ × List ℕ)
uris =
    ([], 0x00 ∷ [])
    -- the longest beginning, and one byte less of it
    ∷ (bytes_of "http://www.a.org", 0x01 ∷ bytes_of "a.org")
    ∷ (bytes_of "http://www", 0x03 ∷ bytes_of "www")
    ∷ (bytes_of "http:/", 0x00 ∷ bytes_of "http:/")
    ∷ (bytes_of "ftp://anonymous:anonymous@", 0x07 ∷ [])
    ∷ (bytes_of "ftp://ftp.a.org", 0x08 ∷ bytes_of "a.org")
    ∷ (bytes_of "ftp://a.org", 0x0D ∷ bytes_of "a.org")
    -- prefixes of prefixes: urn:, urn:epc: and urn:epc:id:
    ∷ (bytes_of "urn:a", 0x13 ∷ bytes_of "a")
    ∷ (bytes_of "urn:epc:a", 0x22 ∷ bytes_of "a")
    ∷ (bytes_of "urn:epc:id:a", 0x1E ∷ bytes_of "a")
    ∷ (bytes_of "urn:nfc:a", 0x23 ∷ bytes_of "a")
    -- bytes are compared as they are
    ∷ (bytes_of "HTTP://www.a.org", 0x00 ∷ bytes_of "HTTP://www.a.org")
    ∷ []

abbrev pub SpecimensShortened : Type 0
SpecimensShortened = map (λ (row : List ℕ × List ℕ). payload_of row.0) uris ≡ map (λ (row : List ℕ × List ℕ). row.1) uris
