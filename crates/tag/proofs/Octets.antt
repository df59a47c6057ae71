-- Lists of bytes: each byte is below 256, and they stay lists of bytes when bytes are set, overlaid, appended, taken or dropped.
-- Assumes nothing.
use mathlib.Core.List.{List, [], ◌∷◌, ◌++◌}
use Prim.Native.Nat.{ℕ, zero, suc, ◌<◌}
use native.Mathlib.Omega.{arith}
use lib.ListN.{set, replicate, take, drop}
use Rattle.tag.specs.Bytes.{byte, overlay, Octets}

pub octets-byte : (i : List ℕ) → Octets i → (a : ℕ) → byte i a < 256
octets-byte [] h a = omega arith
octets-byte (b ∷ i) h zero = h.0
octets-byte (b ∷ i) h (suc a) = octets-byte i h.1 a

pub octets-of : (i : List ℕ) → ((a : ℕ) → byte i a < 256) → Octets i
octets-of [] h = tt
octets-of (b ∷ i) h = (h 0, octets-of i (λ a. h (suc a)))

octets-set : (i : List ℕ) (a v : ℕ) → Octets i → v < 256 → Octets (set i a v)
octets-set [] a v h l = tt
octets-set (b ∷ i) zero v h l = (l, h.1)
octets-set (b ∷ i) (suc a) v h l = (h.0, octets-set i a v h.1 l)

pub octets-overlay : (us vs i : List ℕ) → Octets vs → Octets i → Octets (overlay us vs i)
octets-overlay [] vs i g h = h
octets-overlay (a ∷ us) [] i g h = h
octets-overlay (a ∷ us) (v ∷ vs) i g h = octets-set (overlay us vs i) a v (octets-overlay us vs i g.1 h) g.0

pub octets-append : (x y : List ℕ) → Octets x → Octets y → Octets (x ++ y)
octets-append [] y g h = h
octets-append (b ∷ x) y g h = (g.0, octets-append x y g.1 h)

pub octets-zeros : (n : ℕ) → Octets (replicate n 0)
octets-zeros zero = tt
octets-zeros (suc n) = (omega arith, octets-zeros n)

pub octets-drop : (n : ℕ) (i : List ℕ) → Octets i → Octets (drop n i)
octets-drop zero i h = h
octets-drop (suc n) [] h = tt
octets-drop (suc n) (b ∷ i) h = octets-drop n i h.1

pub octets-take : (n : ℕ) (i : List ℕ) → Octets i → Octets (take n i)
octets-take zero i h = tt
octets-take (suc n) [] h = tt
octets-take (suc n) (b ∷ i) h = (h.0, octets-take n i h.1)
