-- Laws of Type 3's codec. What is encoded decodes to itself, and what decodes was encoded. The lists of stores that a command can
-- carry are exactly those that commands decode to. A command states its own length, and rising block numbers may be listed.
-- An IDm of eight bytes is a premise only where bytes are made: whatever decodes shows that the IDm has eight.
-- Assumes nothing.
use mathlib.Core.Path.{◌≡◌, refl, sym, ap, ◌∙◌}
use mathlib.Core.Bool.{Bool, true, false, ◌&&◌, cond}
use mathlib.Core.List.{List, [], ◌∷◌, ◌++◌, map, append_assoc}
use Prim.Native.Nat.{ℕ, zero, suc, ◌+◌, ◌*◌, ◌/◌, ◌<◌, ◌≤◌}
use native.Mathlib.Omega.{arith}
use borrow.Author.Tests.{leb-true, le-leb, eqb-true, eq-eqb, ne_eqb}
use lib.Dec.{leb, eqb}
use lib.ListN.{length, take, drop, length-append, length-take, length-drop, length-map, take-append-drop}
use lib.Seq.{take_at, drop_at, drop-drop, get_or_at, split_at}
use Rattle.tag.specs.Bytes.{byte, same, has}
use Rattle.tag.specs.Refusals.{positioned, malformed_command}
use Rattle.tag.specs.Stores.{Store, stores}
use Rattle.tag.proofs.Logic.{and_l, and_r, and-three, same-eq, same_refl, nope}
use Rattle.tag.proofs.Addresses.{Above, Rising, above-rising}
use Rattle.tag.proofs.Each.{Each}
use Rattle.tag.proofs.Sending.{block_number, Whole}
use Rattle.type3.specs.Update.{blocks_per_command}
use Rattle.type3.specs.Codec.{block_list_bytes, BlockList, no_block_list, block_list, with_element, block_list_of, listable, well_listed, opening, command_bytes, Decoded, undecoded, decoded, decode_by, decode, stores_of, command_of, stored_bytes, encoded, span}

-- ---- block lists

block-list-bytes : (bs r : List ℕ) → block_list_of (length bs) (block_list_bytes bs ++ r) ≡ block_list bs r
unfolding block_list_of
block-list-bytes [] r = refl
block-list-bytes (b ∷ bs) r = ap (with_element b) (block-list-bytes bs r)

block-list-is : (k : ℕ) (bytes bs r : List ℕ) → block_list_of k bytes ≡ block_list bs r → (length bs ≡ k) × (bytes ≡ block_list_bytes bs ++ r)
unfolding block_list_of
block-list-is zero bytes bs r e =
    let none : bs ≡ [] = cc in
    rw none (refl, cc)
block-list-is (suc k) [] bs r e = absurd (nope (cc))
block-list-is (suc k) (t ∷ []) bs r e = absurd (nope (cc))
block-list-is (suc k) (t ∷ b ∷ rest) bs r e = go (eqb t 0x80) refl (block_list_of k rest) refl (block-list-is k rest)
  where
    go : (q : Bool) → eqb t 0x80 ≡ q → (ns : BlockList) → block_list_of k rest ≡ ns
        → ((cs r' : List ℕ) → block_list_of k rest ≡ block_list cs r' → (length cs ≡ k) × (rest ≡ block_list_bytes cs ++ r'))
        → (length bs ≡ suc k) × (t ∷ b ∷ rest ≡ block_list_bytes bs ++ r)
    go false q ns f ih = let z : no_block_list ≡ block_list bs r = rw (q, block_list_of) at e in absurd (nope (cc))
    go true q no_block_list f ih = let z : no_block_list ≡ block_list bs r = rw (q, f, block_list_of) at e in absurd (nope (cc))
    go true q (block_list cs r') f ih =
        let z : block_list (b ∷ cs) r' ≡ block_list bs r = rw (q, f, block_list_of) at e in
        let more : bs ≡ b ∷ cs = cc in
        let rests : r' ≡ r = cc in
        let h = ih cs r' f in
        let type : t ≡ 0x80 = eqb-true t 0x80 q in
        rw more (ap suc h.0, cc h.1)

pub length-block-list : (bs : List ℕ) → length (block_list_bytes bs) ≡ 2 * length bs
length-block-list [] = refl
length-block-list (b ∷ bs) = omega (arith, length-block-list bs)

-- a number below rising ones is none of them; so rising numbers list no block twice
above-has : (hi x y : ℕ) (us : List ℕ) → Above hi x us → y ≤ x → has y us ≡ false
above-has hi x y [] h l = refl
above-has hi x y (z ∷ us) h l =
    rw (ne_eqb y z (λ e. omega (arith, h.0)), above-has hi z y us h.1 (omega (arith, h.0)))

pub rising-listable : (hi nmaxb : ℕ) (bs : List ℕ) → Rising hi bs → Each (λ b. b ≤ nmaxb) bs → nmaxb ≤ 255 → listable nmaxb bs ≡ true
rising-listable hi nmaxb [] h l m = refl
rising-listable hi nmaxb (b ∷ bs) h l m =
    let small : leb b nmaxb ≡ true = le-leb b nmaxb l.0 in
    let a_byte : leb b 255 ≡ true = le-leb b 255 (omega (arith, l.0)) in
    rw (small, a_byte, above-has hi b b bs h (omega arith)) (rising-listable hi nmaxb bs (above-rising hi b bs h) l.1 m)

-- a command lists at least one block
listed-some : (nbw nmaxb : ℕ) (bs : List ℕ) → well_listed nbw nmaxb bs ≡ true → 1 ≤ length bs
listed-some nbw nmaxb bs h =
    leb-true 1 (length bs) (and-three (leb 1 (length bs)) (leb (length bs) (blocks_per_command nbw)) (listable nmaxb bs) h).0

-- ---- commands

pub length-opening : (idm : List ℕ) → length (opening idm) ≡ 4 + length idm
length-opening idm = omega (arith, length-append idm (0x01 ∷ 0x09 ∷ 0x00 ∷ []))

-- what follows the count
pub past-count : (o : List ℕ) (c : ℕ) (rest : List ℕ) → length o ≡ 12 → drop 13 (o ++ c ∷ rest) ≡ rest
past-count o c rest l = sym (drop-drop 1 12 (o ++ c ∷ rest)) ∙ ap (drop 1) (drop_at o (c ∷ rest) 12 l)

-- a command taken apart, whatever opens it
opened : (o : List ℕ) (nbw nmaxb c : ℕ) (rest : List ℕ) → length o ≡ 12
    → cond (same (take 12 (o ++ c ∷ rest)) o) (decode_by nbw nmaxb (block_list_of (byte (o ++ c ∷ rest) 12) (drop 13 (o ++ c ∷ rest)))) (undecoded (positioned malformed_command 0))
    ≡ decode_by nbw nmaxb (block_list_of c rest)
opened o nbw nmaxb c rest l =
    rw (take_at o (c ∷ rest) 12 l, same_refl o, get_or_at o c rest 0 12 l, past-count o c rest l)

-- the definition's bytes, grouped as the opening, the count and the rest
pub grouped : (idm bs bytes : List ℕ) → command_bytes idm bs bytes ≡ opening idm ++ length bs ∷ (block_list_bytes bs ++ bytes)
grouped idm bs bytes = append_assoc (opening idm) (length bs ∷ block_list_bytes bs) bytes

pub decode_encode : (idm : List ℕ) (nbw nmaxb : ℕ) (bs bytes : List ℕ) → length idm ≡ 8 → well_listed nbw nmaxb bs ≡ true
    → length bytes ≡ 16 * length bs → decode idm nbw nmaxb (command_bytes idm bs bytes) ≡ decoded bs bytes
unfolding decode decode_by
decode_encode idm nbw nmaxb bs bytes n h l =
    ap (decode idm nbw nmaxb) (grouped idm bs bytes)
    ∙ opened (opening idm) nbw nmaxb (length bs) (block_list_bytes bs ++ bytes) (omega (arith, length-opening idm))
    ∙ rw (block-list-bytes bs bytes, decode_by, h, eq-eqb (length bytes) (16 * length bs) l)

-- what decodes by its block list: the blocks are well listed, and each has sixteen bytes
decoded-block-list : (nbw nmaxb : ℕ) (ns : BlockList) (bs bytes : List ℕ) → decode_by nbw nmaxb ns ≡ decoded bs bytes
    → (ns ≡ block_list bs bytes) × (well_listed nbw nmaxb bs ≡ true) × (length bytes ≡ 16 * length bs)
unfolding decode_by
decoded-block-list nbw nmaxb no_block_list bs bytes e = absurd (nope (cc))
decoded-block-list nbw nmaxb (block_list cs r) bs bytes e = go (well_listed nbw nmaxb cs && eqb (length r) (16 * length cs)) refl
  where
    go : (w : Bool) → well_listed nbw nmaxb cs && eqb (length r) (16 * length cs) ≡ w
        → (block_list cs r ≡ block_list bs bytes) × (well_listed nbw nmaxb bs ≡ true) × (length bytes ≡ 16 * length bs)
    go false q = let z : undecoded (positioned malformed_command 0) ≡ decoded bs bytes = rw q at e in absurd (nope (cc))
    go true q =
        let z : decoded cs r ≡ decoded bs bytes = rw q at e in
        let same-block-list : cs ≡ bs = cc in
        let same_bytes : r ≡ bytes = cc in
        rw (← same-block-list, ← same_bytes) (
          refl,
          and_l (well_listed nbw nmaxb cs) (eqb (length r) (16 * length cs)) q,
          eqb-true (length r) (16 * length cs) (and_r (well_listed nbw nmaxb cs) (eqb (length r) (16 * length cs)) q),
        )

-- what decodes opens as our commands do, and decodes by the block list that follows
decoded-opening : (idm : List ℕ) (nbw nmaxb : ℕ) (all bs bytes : List ℕ) → decode idm nbw nmaxb all ≡ decoded bs bytes
    → (take 12 all ≡ opening idm) × (decode_by nbw nmaxb (block_list_of (byte all 12) (drop 13 all)) ≡ decoded bs bytes)
unfolding decode
decoded-opening idm nbw nmaxb all bs bytes e = go (same (take 12 all) (opening idm)) refl
  where
    go : (q : Bool) → same (take 12 all) (opening idm) ≡ q
        → (take 12 all ≡ opening idm) × (decode_by nbw nmaxb (block_list_of (byte all 12) (drop 13 all)) ≡ decoded bs bytes)
    go false q = let z : undecoded (positioned malformed_command 0) ≡ decoded bs bytes = rw q at e in absurd (nope (cc))
    go true q = (same-eq (take 12 all) (opening idm) q, rw q at e)

-- a byte that is not 0 lies inside its list
inside : (l : List ℕ) (n : ℕ) → 0 < byte l n → n < length l
inside [] n h = omega arith
inside (a ∷ l) zero h = omega arith
inside (a ∷ l) (suc n) h = omega (arith, inside l n h)

-- a count of 0 does not decode; so the count is there, and with it all twelve bytes of the opening
pub encode_decode : (idm : List ℕ) (nbw nmaxb : ℕ) (all bs bytes : List ℕ) → decode idm nbw nmaxb all ≡ decoded bs bytes
    → (well_listed nbw nmaxb bs ≡ true) × (length bytes ≡ 16 * length bs) × (all ≡ command_bytes idm bs bytes) × (length idm ≡ 8)
encode_decode idm nbw nmaxb all bs bytes e =
    let o = decoded-opening idm nbw nmaxb all bs bytes e in
    let d = decoded-block-list nbw nmaxb (block_list_of (byte all 12) (drop 13 all)) bs bytes o.1 in
    let n = block-list-is (byte all 12) (drop 13 all) bs bytes d.0 in
    let some : 1 ≤ length bs = listed-some nbw nmaxb bs d.1 in
    let long : 12 < length all = inside all 12 (omega (arith, n.0)) in
    let parts : all ≡ opening idm ++ length bs ∷ (block_list_bytes bs ++ bytes) = split_at all 12 0 long ∙ rw (o.0, n.1, ← n.0) in (
      d.1,
      d.2,
      parts ∙ sym (grouped idm bs bytes),
      omega (arith, length-take 12 all, ap length o.0, length-opening idm),
    )

pub length-command : (idm bs bytes : List ℕ) → length idm ≡ 8 → length bytes ≡ 16 * length bs
    → length (command_bytes idm bs bytes) ≡ 13 + 18 * length bs
length-command idm bs bytes n l =
    omega (
      arith,
      length-append (opening idm ++ length bs ∷ block_list_bytes bs) bytes,
      length-append (opening idm) (length bs ∷ block_list_bytes bs),
      length-opening idm,
      length-block-list bs,
    )

-- the count is byte 12, whatever follows the command
pub count_at : (idm bs bytes r : List ℕ) → length idm ≡ 8 → byte (command_bytes idm bs bytes ++ r) 12 ≡ length bs
count_at idm bs bytes r n =
    ap (λ l. byte (l ++ r) 12) (grouped idm bs bytes)
    ∙ ap (λ l. byte l 12) (append_assoc (opening idm) (length bs ∷ (block_list_bytes bs ++ bytes)) r)
    ∙ get_or_at (opening idm) (length bs) (block_list_bytes bs ++ bytes ++ r) 0 12 (omega (arith, length-opening idm))

-- ---- what a command can carry

abbrev pub blocks_of : List Store → List ℕ
blocks_of ss = map (block_number 16) ss

-- stores of whole blocks that may be listed together
abbrev pub Sendable : ℕ → ℕ → List Store → Type 0
Sendable nbw nmaxb ss = Each (Whole 16) ss × (well_listed nbw nmaxb (blocks_of ss) ≡ true)

length-stored : (ss : List Store) → Each (Whole 16) ss → length (stored_bytes ss) ≡ 16 * length ss
length-stored [] h = refl
length-stored (s ∷ ss) h = omega (arith, length-append s.bytes (stored_bytes ss), h.0.full, length-stored ss h.1)

stores-stored : (ss : List Store) → Each (Whole 16) ss → stores_of (blocks_of ss) (stored_bytes ss) ≡ ss
stores-stored [] h = refl
stores-stored (s ∷ ss) h =
    let back : 16 * (s.at / 16) ≡ s.at = omega (arith, h.0.at_block) in
    rw (back, take_at s.bytes (stored_bytes ss) 16 h.0.full, drop_at s.bytes (stored_bytes ss) 16 h.0.full)
    (ap (λ r. s ∷ r) (stores-stored ss h.1))

stored-stores : (bs bytes : List ℕ) → length bytes ≡ 16 * length bs
    → Each (Whole 16) (stores_of bs bytes) × (blocks_of (stores_of bs bytes) ≡ bs) × (stored_bytes (stores_of bs bytes) ≡ bytes)
stored-stores [] [] l = (tt, refl, refl)
stored-stores [] (a ∷ bytes) l = absurd (omega arith)
stored-stores (b ∷ bs) bytes l =
    let ih = stored-stores bs (drop 16 bytes) (omega (arith, length-drop 16 bytes)) in
    let back : 16 * b / 16 ≡ b = omega arith in (
      (record { block = b; at_block = refl; full = omega (arith, length-take 16 bytes) }, ih.0),
      cc ih.1,
      ap (λ r. take 16 bytes ++ r) ih.2 ∙ take-append-drop 16 bytes,
    )

-- there are sixteen bytes for each block listed
length-sent : (ss : List Store) → Each (Whole 16) ss → length (stored_bytes ss) ≡ 16 * length (blocks_of ss)
length-sent ss h = omega (arith, length-stored ss h, length-map ss (block_number 16))

pub sent : (idm : List ℕ) (nbw nmaxb : ℕ) (ss : List Store) → length idm ≡ 8 → Sendable nbw nmaxb ss
    → command_of (decode idm nbw nmaxb (encoded idm ss)) ≡ stores ss
sent idm nbw nmaxb ss n h =
    ap command_of (decode_encode idm nbw nmaxb (blocks_of ss) (stored_bytes ss) n h.1 (length-sent ss h.0))
    ∙ ap stores (stores-stored ss h.0)

pub span-sent : (idm : List ℕ) (nbw nmaxb : ℕ) (ss : List Store) → length idm ≡ 8 → Sendable nbw nmaxb ss → (r : List ℕ)
    → span (encoded idm ss ++ r) ≡ length (encoded idm ss)
span-sent idm nbw nmaxb ss n h r =
    omega (
      arith,
      count_at idm (blocks_of ss) (stored_bytes ss) r n,
      length-command idm (blocks_of ss) (stored_bytes ss) n (length-sent ss h.0),
    )

pub some-sent : (idm : List ℕ) (ss : List Store) → 0 < length (encoded idm ss)
some-sent idm ss = omega arith

pub decode-sendable : (idm : List ℕ) (nbw nmaxb : ℕ) (all : List ℕ) (ss : List Store) → command_of (decode idm nbw nmaxb all) ≡ stores ss
    → Sendable nbw nmaxb ss × (encoded idm ss ≡ all) × (length idm ≡ 8)
decode-sendable idm nbw nmaxb all ss e = go (decode idm nbw nmaxb all) refl
  where
    go : (d : Decoded) → decode idm nbw nmaxb all ≡ d → Sendable nbw nmaxb ss × (encoded idm ss ≡ all) × (length idm ≡ 8)
    go (undecoded r) q = absurd (nope (cc))
    go (decoded bs bytes) q =
        let h = encode_decode idm nbw nmaxb all bs bytes q in
        let all-stores : ss ≡ stores_of bs bytes = cc in
        let w = stored-stores bs bytes h.1 in
        rw all-stores ((w.0, rw w.1 h.0), rw (w.1, w.2) (sym h.2), h.3)
