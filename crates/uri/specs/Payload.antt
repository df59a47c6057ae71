-- The payload of a URI record: a code, then the rest of the URI behind the code's prefix. A code over 23h is refused (34), and so is a
-- payload without a byte. For a URI the payload has the code of the longest prefix that is a beginning of it.
-- 02 calls a URI an address. Here an address is a place in a tag's memory.
-- Assumes nothing.
use Rattle.std.specs.Prelude.{Bool, true, false, ◌&&◌, cond, List, [], ◌∷◌, ◌++◌, ℕ, zero, suc, ltb, length, take, drop}
use Rattle.tag.specs.Bytes.{same}
use Rattle.tag.specs.Refusals.{bad_uri}
use Rattle.tag.specs.TagType.{Output, refused_output, fitted}
use Rattle.uri.specs.Prefixes.{codes, prefix}

-- ---- expanding

-- what a payload stands for: a URI, or a refusal
pub data Expanded : Type 0 where
  uri : List ℕ → Expanded
  refused : ℕ → Expanded

unfoldable pub uri_of : List ℕ → Expanded
uri_of [] = refused bad_uri
uri_of (code ∷ rest) = cond (ltb code codes) (uri (prefix code ++ rest)) (refused bad_uri)

-- does it stand for a URI
abbrev pub is_uri : Expanded → Bool
is_uri (uri u) = true
is_uri (refused r) = false

-- for a buffer of `room` bytes; the number it gives is that of the bytes
abbrev pub expand_by : ℕ → Expanded → Output
expand_by room (uri u) = fitted room (length u) u
expand_by room (refused r) = refused_output r

abbrev pub expand : ℕ → List ℕ → Output
expand room payload = expand_by room (uri_of payload)

-- ---- shortening

-- is p a beginning of u
unfoldable pub begins : List ℕ → List ℕ → Bool
begins p u = same p (take (length p) u)

-- the code of the longest of the first n prefixes that are beginnings of u; code 0 stands for the empty one
unfoldable pub longest_of : ℕ → List ℕ → ℕ
longest_of zero u = 0
longest_of (suc n) u =
    cond (begins (prefix n) u && ltb (length (prefix (longest_of n u))) (length (prefix n))) n (longest_of n u)

abbrev pub longest : List ℕ → ℕ
longest u = longest_of codes u

abbrev pub payload_of : List ℕ → List ℕ
payload_of u = longest u ∷ drop (length (prefix (longest u))) u

abbrev pub shorten : ℕ → List ℕ → Output
shorten room u = fitted room (length (payload_of u)) (payload_of u)
