-- The size of a length field: a number is read in one form only, of one byte or of three.
-- Assumes nothing.
use mathlib.Core.Path.{◌≡◌, refl, ap}
use mathlib.Core.Bool.{Bool, true, false}
use mathlib.Core.Logic.{◌⊎◌, inl, inr}
use mathlib.Core.List.{List, [], ◌∷◌}
use Prim.Native.Nat.{ℕ, suc, ◌+◌, ◌*◌}
use native.Mathlib.Omega.{arith}
use borrow.Author.Tests.{lt-leb}
use lib.Dec.{leb}
use lib.ListN.{length}
use Rattle.tag.specs.Bytes.{byte}
use Rattle.tag.proofs.Logic.{nope}
use Rattle.tlv.specs.Walk.{len, long_of, length_by, length_of}
use Rattle.tlv.proofs.Locality.{long_by-is}

-- u bytes are the length field of n, in one form or the other, and k more
abbrev pub Sized : ℕ → ℕ → ℕ → Type 0
Sized n u k = ((leb n 254 ≡ true) × (u ≡ 1 + k)) ⊎ ((leb n 254 ≡ false) × (u ≡ 3 + k))

-- a number is read in one form only: no longer form is taken for a shorter one
pub length-size : (j us ws : List ℕ) (n : ℕ) → length_of j us ≡ len n ws → Sized n (length us) (length ws)
unfolding length_by
length-size j [] ws n e = absurd (nope (cc))
length-size j (a ∷ us) ws n e = go (leb (byte j a) 254) refl
  where
    long : (us : List ℕ) → long_of j us ≡ len n ws → (leb n 254 ≡ false) × (length us ≡ 2 + length ws)
    long [] f = absurd (nope (cc))
    long (b ∷ []) f = absurd (nope (cc))
    long (b ∷ c ∷ us) f =
        let (l, p, u) = long_by-is (256 * byte j b + byte j c) n us ws f in
        (lt-leb n 254 (omega arith), omega (arith, ap length u))

    go : (t : Bool) → leb (byte j a) 254 ≡ t → Sized n (suc (length us)) (length ws)
    go true q =
        let e' : len (byte j a) us ≡ len n ws = rw (q, length_by) at e in
        let u : us ≡ ws = cc in
        let p : byte j a ≡ n = cc in
        inl (rw p at q, omega (arith, ap length u))
    go false q = let l = long us (rw (q, length_by) at e) in inr (l.0, omega (arith, l.1))
