-- Type 2's codec: what is encoded decodes to itself, what decodes was encoded, and the lists of stores that a command can
-- carry are exactly those that commands decode to.
-- Assumes nothing.
use mathlib.Core.Path.{◌≡◌, refl, sym, ap}
use mathlib.Core.Bool.{Bool, true, false}
use mathlib.Core.List.{List, [], ◌∷◌}
use Prim.Native.Nat.{ℕ, ◌*◌, ◌/◌}
use native.Mathlib.Omega.{arith}
use borrow.Author.Tests.{eqb-true, eq-eqb}
use lib.Dec.{eqb}
use lib.ListN.{length}
use Rattle.tag.specs.Refusals.{positioned, malformed_command}
use Rattle.tag.specs.Stores.{Store, stores}
use Rattle.tag.proofs.Logic.{and-three, nope}
use Rattle.tag.proofs.Sending.{Named}
use Rattle.type2.specs.Codec.{nameable, command_bytes, Decoded, undecoded, decoded, well_formed, decode, command_of, encoded}

pub decode_encode : (blocks b : ℕ) (bytes : List ℕ) → nameable blocks b ≡ true → length bytes ≡ 4
    → decode blocks (command_bytes b bytes) ≡ decoded b bytes
unfolding decode
decode_encode blocks b bytes h l =
    let q : eqb (length (command_bytes b bytes)) 6 ≡ true = eq-eqb (length (command_bytes b bytes)) 6 (omega arith) in
    rw (q, h)

pub encode_decode : (blocks : ℕ) (bs : List ℕ) (b : ℕ) (bytes : List ℕ) → decode blocks bs ≡ decoded b bytes
    → (nameable blocks b ≡ true) × (length bytes ≡ 4) × (bs ≡ command_bytes b bytes)
unfolding decode
encode_decode blocks [] b bytes e = absurd (nope (cc))
encode_decode blocks (t ∷ []) b bytes e = absurd (nope (cc))
encode_decode blocks (t ∷ c ∷ r) b bytes e = go (well_formed blocks (t ∷ c ∷ r)) refl
  where
    go : (w : Bool) → well_formed blocks (t ∷ c ∷ r) ≡ w
        → (nameable blocks b ≡ true) × (length bytes ≡ 4) × (t ∷ c ∷ r ≡ command_bytes b bytes)
    go false q = let z : undecoded (positioned malformed_command 0) ≡ decoded b bytes = rw q at e in absurd (nope (cc))
    go true q =
        let z : decoded c r ≡ decoded b bytes = rw q at e in
        let same_block : c ≡ b = cc in
        let same_bytes : r ≡ bytes = cc in
        let (six, first, named) = and-three (eqb (length (t ∷ c ∷ r)) 6) (eqb t 0xA2) (nameable blocks c) q in
        let long : length (t ∷ c ∷ r) ≡ 6 = eqb-true (length (t ∷ c ∷ r)) 6 six in
        let write : t ≡ 0xA2 = eqb-true t 0xA2 first in
        (rw same_block at named, omega (arith, ap length same_bytes), cc)

-- ---- what a command can carry

-- exactly one store, of a block that may be named
abbrev pub Sendable : ℕ → List Store → Type 0
Sendable blocks [] = ⊥
Sendable blocks (s ∷ []) = Named 4 (λ b. nameable blocks b ≡ true) s
Sendable blocks (s ∷ t ∷ ss) = ⊥

pub sent : (blocks : ℕ) (ss : List Store) → Sendable blocks ss → command_of (decode blocks (encoded ss)) ≡ stores ss
sent blocks [] h = absurd h
sent blocks (s ∷ []) h =
    let w = h.whole in
    let e : s.at / 4 ≡ w.block = omega (arith, w.at_block) in
    rw (e, decode_encode blocks w.block s.bytes h.good w.full)
    (ap (λ a. stores (record { at = a; bytes = s.bytes } ∷ [])) (sym w.at_block))
sent blocks (s ∷ t ∷ ss) h = absurd h

-- as many bytes as Type 2's span
pub length-sent : (blocks : ℕ) (ss : List Store) → Sendable blocks ss → length (encoded ss) ≡ 6
length-sent blocks [] h = absurd h
length-sent blocks (s ∷ []) h = omega (arith, h.whole.full)
length-sent blocks (s ∷ t ∷ ss) h = absurd h

pub decode-sendable : (blocks : ℕ) (bs : List ℕ) (ss : List Store) → command_of (decode blocks bs) ≡ stores ss
    → Sendable blocks ss × (encoded ss ≡ bs)
decode-sendable blocks bs ss e = go (decode blocks bs) refl
  where
    go : (d : Decoded) → decode blocks bs ≡ d → Sendable blocks ss × (encoded ss ≡ bs)
    go (undecoded r) q = absurd (nope (cc))
    go (decoded b bytes) q =
        let h = encode_decode blocks bs b bytes q in
        let one : ss ≡ record { at = 4 * b; bytes = bytes } ∷ [] = cc in
        let same_block : 4 * b / 4 ≡ b = omega arith in
        rw one (record { whole = record { block = b; at_block = refl; full = h.1 }; good = h.0 }, rw same_block (sym h.2))
