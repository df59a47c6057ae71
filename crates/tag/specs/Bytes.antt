-- A tag's memory image, as the list of its bytes. An address is a place in that list, counted from 0.
-- Bytes are plain numbers here. That a byte is below 256 is a fact about the code's values, and no rule needs it. Some theorems do,
-- and ask for `Octets`.
-- Assumes nothing.
use Rattle.std.specs.Prelude.{Bool, true, false, ◌&&◌, ◌||◌, List, [], ◌∷◌, ◌++◌, ℕ, zero, suc, ◌<◌, eqb, length, get_or, set, drop}

-- the byte at an address; 0 past the end
abbrev pub byte : List ℕ → ℕ → ℕ
byte i a = get_or i a 0

-- n addresses from a on, rising
abbrev pub run : ℕ → ℕ → List ℕ
run a zero = []
run a (suc n) = a ∷ run (suc a) n

-- are two lists of bytes equal
abbrev pub same : List ℕ → List ℕ → Bool
same [] [] = true
same [] (y ∷ ys) = false
same (x ∷ xs) [] = false
same (x ∷ xs) (y ∷ ys) = eqb x y && same xs ys

-- is the number in the list
abbrev pub has : ℕ → List ℕ → Bool
has x [] = false
has x (y ∷ ys) = eqb x y || has x ys

-- is each address the one before it plus one
abbrev pub consecutive : List ℕ → Bool
consecutive [] = true
consecutive (a ∷ []) = true
consecutive (a ∷ b ∷ us) = eqb (suc a) b && consecutive (b ∷ us)

-- the image with the values vs at the addresses us; the longer of the two lists is cut off
abbrev pub overlay : List ℕ → List ℕ → List ℕ → List ℕ
overlay [] vs i = i
overlay (a ∷ us) [] i = i
overlay (a ∷ us) (v ∷ vs) i = set (overlay us vs i) a v

-- is the address one of those that the overlay sets
abbrev pub is_set : List ℕ → List ℕ → ℕ → Bool
is_set [] vs a = false
is_set (x ∷ us) [] a = false
is_set (x ∷ us) (v ∷ vs) a = eqb x a || is_set us vs a

-- a buffer after bytes are written to its front: it keeps its bytes past what is written
abbrev pub overwrite : List ℕ → List ℕ → List ℕ
overwrite front buffer = front ++ drop (length front) buffer

-- a list of bytes: every number is below 256
abbrev pub Octets : List ℕ → Type 0
Octets [] = Unit {0}
Octets (b ∷ bs) = (b < 256) × Octets bs
