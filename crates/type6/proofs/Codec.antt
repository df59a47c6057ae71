-- Laws of Type 6's codec. What is encoded decodes to itself, and what decodes was encoded. A command that stores one block is taken
-- for that store.
-- Assumes nothing.
use mathlib.Core.Path.{◌≡◌, refl, sym, ap, ◌∙◌}
use mathlib.Core.Bool.{Bool, true, false, ◌&&◌}
use mathlib.Core.List.{List, [], ◌∷◌}
use Prim.Native.Nat.{ℕ, ◌+◌, ◌/◌, ◌≤◌}
use native.Mathlib.Nat.{mul-div_cancel_left}
use native.Mathlib.Omega.{arith}
use borrow.Author.Tests.{leb-true, eqb-true, eq-eqb}
use lib.Dec.{leb, eqb}
use lib.ListN.{length, drop, length-drop}
use Rattle.tag.specs.Bytes.{byte}
use Rattle.tag.specs.Refusals.{positioned, malformed_command}
use Rattle.tag.specs.Stores.{Store, stores}
use Rattle.tag.proofs.Logic.{and_l, and_r, and-three, nope}
use Rattle.tag.proofs.Sending.{Named}
use Rattle.type6.specs.Codec.{size_defined, nameable, command_bytes, undecoded, decoded, well_formed, decode, command_of, encoded}

three : (bs : List ℕ) → 3 ≤ length bs → bs ≡ byte bs 0 ∷ byte bs 1 ∷ byte bs 2 ∷ drop 3 bs
three [] l = absurd (omega arith)
three (t ∷ []) l = absurd (omega arith)
three (t ∷ u ∷ []) l = absurd (omega arith)
three (t ∷ u ∷ c ∷ r) l = refl

pub defined-bounds : (z : ℕ) → size_defined z ≡ true → (1 ≤ z) × (z ≤ 32)
defined-bounds z e = (leb-true 1 z (and_l (leb 1 z) (leb z 32) e), leb-true z 32 (and_r (leb 1 z) (leb z 32) e))

-- what a well-formed command has
pub record Formed (z blocks : ℕ) (bs : List ℕ) : Type 0 where
  pub defined : size_defined z ≡ true
  pub long : length bs ≡ 3 + z
  pub flags : byte bs 0 ≡ 0x02
  pub code : byte bs 1 ≡ 0x21
  pub named : nameable blocks (byte bs 2) ≡ true

module _ (z blocks : ℕ) where
  pub formed : (bs : List ℕ) → well_formed z blocks bs ≡ true → Formed z blocks bs
  formed bs q =
      let length-is = eqb (length bs) (3 + z) in
      let flags_are = eqb (byte bs 0) 0x02 in
      let code_is = eqb (byte bs 1) 0x21 in
      let named = nameable blocks (byte bs 2) in
      let (front, code, block) = and-three (size_defined z && length-is && flags_are) code_is named q in
      let (size, long, flags) = and-three (size_defined z) length-is flags_are front in
      record {
        defined = size;
        long = eqb-true (length bs) (3 + z) long;
        flags = eqb-true (byte bs 0) 0x02 flags;
        code = eqb-true (byte bs 1) 0x21 code;
        named = block;
      }

  pub decode_encode : (b : ℕ) (bytes : List ℕ) → size_defined z ≡ true → nameable blocks b ≡ true → length bytes ≡ z
      → decode z blocks (command_bytes b bytes) ≡ decoded b bytes
  unfolding decode
  decode_encode b bytes s h l =
      let q : eqb (length (command_bytes b bytes)) (3 + z) ≡ true = eq-eqb (length (command_bytes b bytes)) (3 + z) (omega arith) in
      rw (s, q, h)

  pub encode_decode : (bs : List ℕ) (b : ℕ) (bytes : List ℕ) → decode z blocks bs ≡ decoded b bytes
      → (size_defined z ≡ true) × (nameable blocks b ≡ true) × (length bytes ≡ z) × (bs ≡ command_bytes b bytes)
  unfolding decode
  encode_decode bs b bytes e = go (well_formed z blocks bs) refl
    where
      go : (w : Bool) → well_formed z blocks bs ≡ w
          → (size_defined z ≡ true) × (nameable blocks b ≡ true) × (length bytes ≡ z) × (bs ≡ command_bytes b bytes)
      go false q = let y : undecoded (positioned malformed_command 0) ≡ decoded b bytes = rw q at e in absurd (nope (cc))
      go true q =
          let y : decoded (byte bs 2) (drop 3 bs) ≡ decoded b bytes = rw q at e in
          let same_block : byte bs 2 ≡ b = cc in
          let same_bytes : drop 3 bs ≡ bytes = cc in
          let f = formed bs q in (
            f.defined,
            rw same_block at f.named,
            omega (arith, f.long, length-drop 3 bs, ap length same_bytes),
            three bs (omega (arith, f.long)) ∙ rw (f.flags, f.code, same_block, same_bytes),
          )

  -- ---- what a command can carry

  -- exactly one store, of a block that may be named
  abbrev pub Sendable : List Store → Type 0
  Sendable [] = ⊥
  Sendable (s ∷ []) = Named z (λ b. nameable blocks b ≡ true) s
  Sendable (s ∷ t ∷ ss) = ⊥

  pub sent : (ss : List Store) → size_defined z ≡ true → Sendable ss → command_of z (decode z blocks (encoded ss)) ≡ stores ss
  sent [] d h = absurd h
  sent (s ∷ []) d h =
      let w = h.whole in
      let e : s.at / length s.bytes ≡ w.block = rw (w.full, w.at_block) (mul-div_cancel_left w.block (defined-bounds z d).0) in
      rw (e, decode_encode w.block s.bytes d h.good w.full)
      (ap (λ a. stores (record { at = a; bytes = s.bytes } ∷ [])) (sym w.at_block))
  sent (s ∷ t ∷ ss) d h = absurd h

  -- as many bytes as the tag's span
  pub length-sent : (ss : List Store) → Sendable ss → length (encoded ss) ≡ 3 + z
  length-sent [] h = absurd h
  length-sent (s ∷ []) h = omega (arith, h.whole.full)
  length-sent (s ∷ t ∷ ss) h = absurd h
