-- What is claimed of expanding and shortening. Statements only; `proofs/Theorems.antt` proves them, and states nothing new.
-- Assumes nothing.
use Rattle.std.specs.Prelude.{◌≡◌, ◌↔◌, true, List, ◌∷◌, ◌++◌, ℕ, ◌≤◌, ◌<◌, length, take, Result, Ok, Err}
use Rattle.tag.specs.declared.refusals.Refusal.{Refusal}
use Rattle.tag.specs.declared.refusals.Refusal.TheVariants.{ShortBuffer, BadUri}
use Rattle.tag.specs.Refusals.{short_buffer, bad_uri}
use Rattle.tag.specs.TagType.{refused_output, output, fitted}
use Rattle.uri.specs.Prefixes.{codes, prefixes, prefix}
use Rattle.uri.specs.Payload.{uri, uri_of, expand, begins, longest, payload_of, shorten}
use Rattle.uri.specs.PublicContracts.{ExpandedTo, ShortenedTo}

-- ---- of the definitions

-- expanding what was shortened gives the URI back
pub record SameUri : Type 0 where
  pub expands_back : (u : List ℕ) → uri_of (payload_of u) ≡ uri u
  -- whatever the two buffers
  pub in_buffers : (room room' : ℕ) (u : List ℕ) (n : ℕ) (bs : List ℕ) → shorten room u ≡ output n bs → expand room' bs ≡ fitted room' (length u) u

-- the code chosen is that of the longest prefix that is a beginning of the URI
pub record LongestPrefix : Type 0 where
  -- a beginning is what some rest follows
  pub beginning : (p u : List ℕ) → (begins p u ≡ true) ↔ ((rest : List ℕ) × (p ++ rest ≡ u))
  pub each_code : length prefixes ≡ codes
  pub is_code : (u : List ℕ) → longest u < codes
  pub is_beginning : (u : List ℕ) → begins (prefix (longest u)) u ≡ true
  pub none_longer : (u : List ℕ) (k : ℕ) → k < codes → begins (prefix k) u ≡ true → length (prefix k) ≤ length (prefix (longest u))
  -- and no other code has one as long
  pub no_other : (u : List ℕ) (k : ℕ) → k < codes → begins (prefix k) u ≡ true → length (prefix k) ≡ length (prefix (longest u)) → k ≡ longest u

-- no payload that stands for the URI is shorter, and one as short is the same bytes
pub record ShortestPayload : Type 0 where
  pub no_shorter : (u p : List ℕ) → uri_of p ≡ uri u → length (payload_of u) ≤ length p
  pub no_other : (u p : List ℕ) → uri_of p ≡ uri u → length p ≡ length (payload_of u) → p ≡ payload_of u

-- a payload is a code below 24h and a rest
abbrev pub StandsFor : List ℕ → List ℕ → Type 0
StandsFor p u = (code : ℕ) × (rest : List ℕ) × (p ≡ code ∷ rest) × (code < codes) × (u ≡ prefix code ++ rest)

-- expanding gives 34 exactly if the payload stands for no URI, and 12 exactly if it stands for one that is longer than the buffer;
-- shortening gives 12 exactly if the payload is longer than the buffer, and nothing else
pub record RefusesExactly : Type 0 where
  pub stands : (p u : List ℕ) → (uri_of p ≡ uri u) ↔ StandsFor p u
  pub bad : (room : ℕ) (p : List ℕ) → (expand room p ≡ refused_output bad_uri) ↔ ((u : List ℕ) → StandsFor p u → ⊥)
  pub too_long : (room : ℕ) (p : List ℕ) → (expand room p ≡ refused_output short_buffer) ↔ ((u : List ℕ) × StandsFor p u × (room < length u))
  pub shorten_too_long : (room : ℕ) (u : List ℕ) → (shorten room u ≡ refused_output short_buffer) ↔ (room < length (payload_of u))
  pub shorten_only : (room : ℕ) (u : List ℕ) (r : ℕ) → shorten room u ≡ refused_output r → r ≡ short_buffer

-- ---- of what the code answers

-- What the calls answer by their contracts: a URI shortened and expanded again is the same URI, in every buffer that has room for it.
pub record Calls : Type 0 where
  pub there_and_back : (u buffer : List ℕ) (n : ℕ) (out buffer' : List ℕ) (r : Result ℕ Refusal) (out' : List ℕ) → length u ≤ length buffer'
      → ShortenedTo u buffer (Ok n) out → ExpandedTo (take n out) buffer' r out' → (r ≡ Ok (length u)) × (take (length u) out' ≡ u)
  pub bad : (p buffer : List ℕ) (r : Result ℕ Refusal) (out : List ℕ) → ExpandedTo p buffer r out
      → (r ≡ Err BadUri) ↔ ((u : List ℕ) → StandsFor p u → ⊥)
  pub too_long : (p buffer : List ℕ) (r : Result ℕ Refusal) (out : List ℕ) → ExpandedTo p buffer r out
      → (r ≡ Err ShortBuffer) ↔ ((u : List ℕ) × StandsFor p u × (length buffer < length u))
  pub shortens : (u buffer : List ℕ) (r : Result ℕ Refusal) (out : List ℕ) → ShortenedTo u buffer r out → length (payload_of u) ≤ length buffer
      → (r ≡ Ok (length (payload_of u))) × (take (length (payload_of u)) out ≡ payload_of u)
