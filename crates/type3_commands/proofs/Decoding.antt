-- Decoding in place: framed bytes whose blocks may be listed are a command, and nothing else is.
-- Assumes nothing.
use mathlib.Core.Path.{◌≡◌, refl, sym, ap, ◌∙◌}
use mathlib.Core.Bool.{Bool, true, false, ◌&&◌, cond}
use mathlib.Core.List.{List, [], ◌∷◌, ◌++◌, map, append-nil}
use Prim.Native.Nat.{ℕ, zero, suc, ◌+◌, ◌*◌, ◌<◌, ◌≤◌}
use native.Mathlib.Omega.{arith}
use borrow.Author.Tests.{eqb-true, eq-eqb}
use lib.Dec.{leb, eqb}
use borrow.Rule.Slice.PartMut.{put_mid}
use lib.ListN.{length, take, drop, replicate, length-append, length-drop}
use lib.Seq.{sets, take_at, drop-drop, split_at, take-add, length-take-le}
use Rattle.std.specs.Bool.{then_some}
use Rattle.tag.specs.declared.Block.{Block}
use Rattle.tag.specs.Bytes.{byte, same, overwrite}
use Rattle.tag.specs.Refusals.{Refusal, positioned, malformed_command}
use Rattle.tag.proofs.Storing.{put_sets, sets-append, sets-front}
use Rattle.tag.proofs.Logic.{and_l, and_r, and-three, and_both, same-eq, same_refl, true-false, nope}
use Rattle.type3_commands.specs.declared.Command.{Command}
use Rattle.type3_commands.specs.declared.listed.Listed.{Listed}
use Rattle.type3.specs.Update.{blocks_per_command}
use Rattle.type3.specs.Codec.{block_list_bytes, BlockList, no_block_list, block_list, block_list_of, listable, well_listed, opening, command_bytes, Decoded, undecoded, decoded, decode_by, decode}
use Rattle.type3_commands.specs.Views.InPlace.{number, well_begun, numbers, framed_by, framed, carried, Splits}
use Rattle.type3_commands.specs.CodecContracts.{block_numbers, command_as}
use Rattle.type3_commands.specs.Views.Framing.{is_command, listed_as, Framed}
use Rattle.type3.proofs.Codec.{length-opening, past-count, grouped, decode_encode, encode_decode, length-command, count_at}
use Rattle.type3_commands.proofs.Numbering.{numbers-back}
use Rattle.type3_commands.proofs.BlockLists.{length-numbers}
use Rattle.type3_commands.proofs.Encoding.{count-bounds}

-- ---- the block list

well-begun-block-list : (bs r : List ℕ) → well_begun (length bs) (block_list_bytes bs ++ r) ≡ true
well-begun-block-list [] r = refl
well-begun-block-list (b ∷ bs) r = well-begun-block-list bs r

numbers-block-list : (bs r : List ℕ) → numbers (length bs) (block_list_bytes bs ++ r) ≡ bs
numbers-block-list [] r = refl
numbers-block-list (b ∷ bs) r = ap (λ l. b ∷ l) (numbers-block-list bs r)

-- elements that begin with 80h are the block list of their numbers
block-list-numbers : (k : ℕ) (bytes : List ℕ) → well_begun k bytes ≡ true → 2 * k ≤ length bytes
    → bytes ≡ block_list_bytes (numbers k bytes) ++ drop (2 * k) bytes
block-list-numbers zero bytes h l = refl
block-list-numbers (suc k) [] h l = absurd (omega arith)
block-list-numbers (suc k) (t ∷ []) h l = absurd (omega arith)
block-list-numbers (suc k) (t ∷ b ∷ r) h l =
    let n : 2 * suc k ≡ suc (suc (2 * k)) = omega arith in
    let type : t ≡ 0x80 = eqb-true t 0x80 (and_l (eqb t 0x80) (well_begun k r) h) in
    rw (n, type) (ap (λ x. 0x80 ∷ b ∷ x) (block-list-numbers k r (and_r (eqb t 0x80) (well_begun k r) h) (omega arith)))

-- ---- what a frame says

module _ (idm : List ℕ) (nbw : ℕ) (bytes : List ℕ) (h : framed idm nbw bytes ≡ true) where
  -- whether the count is allowed, and whether the length is the one that the count asks for
  abbrev allowed : Bool
  allowed = leb 1 (byte bytes 12) && leb (byte bytes 12) (blocks_per_command nbw)

  abbrev sized : Bool
  sized = eqb (length bytes) (13 + 18 * byte bytes 12)

  frame-tests : (allowed && sized ≡ true) × (same (take 12 bytes) (opening idm) ≡ true) × (well_begun (byte bytes 12) (drop 13 bytes) ≡ true)
  unfolding framed_by
  frame-tests = and-three (allowed && sized) (same (take 12 bytes) (opening idm)) (well_begun (byte bytes 12) (drop 13 bytes)) h

  frame-opening : take 12 bytes ≡ opening idm
  frame-opening = same-eq (take 12 bytes) (opening idm) frame-tests.1

  frame-count : allowed ≡ true
  frame-count = and_l allowed sized frame-tests.0

  pub frame : Framed bytes
  frame = record {
    few = (count-bounds nbw (byte bytes 12) frame-count).few;
    whole = eqb-true (length bytes) (13 + 18 * byte bytes 12) (and_r allowed sized frame-tests.0);
  }

  -- framed bytes are those of the command that they carry
  framed-bytes : bytes ≡ command_bytes idm (numbers (byte bytes 12) (drop 13 bytes)) (drop (13 + 2 * byte bytes 12) bytes)
  framed-bytes =
      let b = byte bytes 12 in
      let bs = numbers b (drop 13 bytes) in
      let rest = drop (2 * b) (drop 13 bytes) in
      let long : 12 < length bytes = omega (arith, frame) in
      let listed : drop 13 bytes ≡ block_list_bytes bs ++ rest = block-list-numbers b (drop 13 bytes) frame-tests.2 (omega (arith, frame, length-drop 13 bytes)) in
      split_at bytes 12 0 long
      ∙ ap (λ o. o ++ b ∷ drop 13 bytes) frame-opening
      ∙ ap (λ r. opening idm ++ b ∷ r) listed
      ∙ ap (λ c. opening idm ++ c ∷ (block_list_bytes bs ++ rest)) (sym (length-numbers b (drop 13 bytes)))
      ∙ sym (grouped idm bs rest)
      ∙ ap (command_bytes idm bs) (drop-drop (2 * b) 13 bytes)

  decode-framed : (nmaxb : ℕ) → length idm ≡ 8 → listable nmaxb (numbers (byte bytes 12) (drop 13 bytes)) ≡ true
      → decode idm nbw nmaxb bytes ≡ carried bytes
  decode-framed nmaxb n k =
      let b = byte bytes 12 in
      let bs = numbers b (drop 13 bytes) in
      let e : length bs ≡ b = length-numbers b (drop 13 bytes) in
      let w : well_listed nbw nmaxb bs ≡ true = and_both (ap (λ m. leb 1 m && leb m (blocks_per_command nbw)) e ∙ frame-count) k in
      let l : length (drop (13 + 2 * b) bytes) ≡ 16 * length bs = omega (arith, frame, length-drop (13 + 2 * b) bytes) in
      ap (decode idm nbw nmaxb) framed-bytes ∙ decode_encode idm nbw nmaxb bs (drop (13 + 2 * b) bytes) n w l

-- ---- a command's bytes are framed

module _ (idm : List ℕ) (nbw nmaxb : ℕ) (bs bytes : List ℕ) (n : length idm ≡ 8) (s : length bytes ≡ 16 * length bs) (w : well_listed nbw nmaxb bs ≡ true) where
  o-length : length (opening idm) ≡ 12
  o-length = omega (arith, length-opening idm)

  command-count : byte (command_bytes idm bs bytes) 12 ≡ length bs
  command-count = ap (λ l. byte l 12) (sym (append-nil (command_bytes idm bs bytes))) ∙ count_at idm bs bytes [] n

  command-rest : drop 13 (command_bytes idm bs bytes) ≡ block_list_bytes bs ++ bytes
  command-rest = ap (drop 13) (grouped idm bs bytes) ∙ past-count (opening idm) (length bs) (block_list_bytes bs ++ bytes) o-length

  command-opening : take 12 (command_bytes idm bs bytes) ≡ opening idm
  command-opening = ap (take 12) (grouped idm bs bytes) ∙ take_at (opening idm) (length bs ∷ (block_list_bytes bs ++ bytes)) 12 o-length

  command-framed : framed idm nbw (command_bytes idm bs bytes) ≡ true
  unfolding framed_by
  command-framed =
      ap (λ b. framed_by idm nbw b (command_bytes idm bs bytes)) command-count
      ∙ and_both
      (
      and_both
      (
      and_both (and_l (leb 1 (length bs) && leb (length bs) (blocks_per_command nbw)) (listable nmaxb bs) w)
      (eq-eqb (length (command_bytes idm bs bytes)) (13 + 18 * length bs) (length-command idm bs bytes n s))
      )
      (ap (λ l. same l (opening idm)) command-opening ∙ same_refl (opening idm))
      )
      (ap (well_begun (length bs)) command-rest ∙ well-begun-block-list bs bytes)

  command-numbers : numbers (byte (command_bytes idm bs bytes) 12) (drop 13 (command_bytes idm bs bytes)) ≡ bs
  command-numbers =
      ap (λ b. numbers b (drop 13 (command_bytes idm bs bytes))) command-count ∙ ap (numbers (length bs)) command-rest ∙ numbers-block-list bs bytes

-- ---- what decodes

decoded-framed : (idm : List ℕ) (nbw nmaxb : ℕ) (all bs bytes : List ℕ) → decode idm nbw nmaxb all ≡ decoded bs bytes
    → (framed idm nbw all ≡ true) × (listable nmaxb (numbers (byte all 12) (drop 13 all)) ≡ true)
decoded-framed idm nbw nmaxb all bs bytes e =
    let h = encode_decode idm nbw nmaxb all bs bytes e in
    let listed : listable nmaxb bs ≡ true = and_r (leb 1 (length bs) && leb (length bs) (blocks_per_command nbw)) (listable nmaxb bs) h.0 in (
      ap (framed idm nbw) h.2 ∙ command-framed idm nbw nmaxb bs bytes h.3 h.1 h.0,
      ap (λ l. listable nmaxb (numbers (byte l 12) (drop 13 l))) h.2
          ∙ ap (listable nmaxb) (command-numbers idm nbw nmaxb bs bytes h.3 h.1 h.0)
          ∙ listed,
    )

-- whatever does not decode is refused with 20
undecoded-by : (nbw nmaxb : ℕ) (ns : BlockList) (r : Refusal) → decode_by nbw nmaxb ns ≡ undecoded r → r ≡ positioned malformed_command 0
unfolding decode_by
undecoded-by nbw nmaxb no_block_list r e = cc
undecoded-by nbw nmaxb (block_list cs t) r e = go (well_listed nbw nmaxb cs && eqb (length t) (16 * length cs)) refl
  where
    go : (q : Bool) → well_listed nbw nmaxb cs && eqb (length t) (16 * length cs) ≡ q → r ≡ positioned malformed_command 0
    go false q = let z : undecoded (positioned malformed_command 0) ≡ undecoded r = rw q at e in cc
    go true q = let z : decoded cs t ≡ undecoded r = rw q at e in absurd (nope (cc))

undecoded-is : (idm : List ℕ) (nbw nmaxb : ℕ) (all : List ℕ) (r : Refusal) → decode idm nbw nmaxb all ≡ undecoded r → r ≡ positioned malformed_command 0
unfolding decode
undecoded-is idm nbw nmaxb all r e = go (same (take 12 all) (opening idm)) refl
  where
    go : (q : Bool) → same (take 12 all) (opening idm) ≡ q → r ≡ positioned malformed_command 0
    go false q = let z : undecoded (positioned malformed_command 0) ≡ undecoded r = rw q at e in cc
    go true q = undecoded-by nbw nmaxb (block_list_of (byte all 12) (drop 13 all)) r (rw q at e)

module _ (idm : List ℕ) (nbw nmaxb : ℕ) (all : List ℕ) where
  -- bytes decode exactly if they are framed and their blocks may be listed
  pub is-command-by : length idm ≡ 8
      → is_command (decode idm nbw nmaxb all) ≡ framed idm nbw all && listable nmaxb (numbers (byte all 12) (drop 13 all))
  is-command-by n = go (decode idm nbw nmaxb all) refl (framed idm nbw all) refl (listable nmaxb (numbers (byte all 12) (drop 13 all))) refl
    where
      go : (d : Decoded) → decode idm nbw nmaxb all ≡ d → (f : Bool) → framed idm nbw all ≡ f
          → (k : Bool) → listable nmaxb (numbers (byte all 12) (drop 13 all)) ≡ k → is_command d ≡ f && k
      go (decoded bs bytes) q f p k r =
          let h = decoded-framed idm nbw nmaxb all bs bytes q in
          let p' : f ≡ true = sym p ∙ h.0 in
          let r' : k ≡ true = sym r ∙ h.1 in
          rw (p', r')
      go (undecoded u) q false p k r = refl
      go (undecoded u) q true p false r = refl
      go (undecoded u) q true p true r =
          let z : undecoded u ≡ carried all = sym q ∙ decode-framed idm nbw all p nmaxb n r in
          absurd (nope (cc))

  pub decode-refused : is_command (decode idm nbw nmaxb all) ≡ false → decode idm nbw nmaxb all ≡ undecoded (positioned malformed_command 0)
  decode-refused h = go (decode idm nbw nmaxb all) refl
    where
      go : (d : Decoded) → decode idm nbw nmaxb all ≡ d → decode idm nbw nmaxb all ≡ undecoded (positioned malformed_command 0)
      go (undecoded r) q = q ∙ ap undecoded (undecoded-is idm nbw nmaxb all r q)
      go (decoded bs bytes) q = absurd (true-false (ap is_command q) h)

  -- what decodes is framed, and decodes to what it carries in place
  pub decode-carried : is_command (decode idm nbw nmaxb all) ≡ true
      → (decode idm nbw nmaxb all ≡ carried all) × (framed idm nbw all ≡ true) × (listable nmaxb (numbers (byte all 12) (drop 13 all)) ≡ true)
  decode-carried h = go (decode idm nbw nmaxb all) refl
    where
      go : (d : Decoded) → decode idm nbw nmaxb all ≡ d
          → (decode idm nbw nmaxb all ≡ carried all) × (framed idm nbw all ≡ true) × (listable nmaxb (numbers (byte all 12) (drop 13 all)) ≡ true)
      go (undecoded r) q = absurd (true-false h (ap is_command q))
      go (decoded bs bytes) q =
          let k = decoded-framed idm nbw nmaxb all bs bytes q in
          let n = encode_decode idm nbw nmaxb all bs bytes q in
          (decode-framed idm nbw all k.0 nmaxb n.3 k.1, k.0, k.1)

  -- so decoding is a test of the frame, a test of the blocks, and the parts
  pub decode-by : length idm ≡ 8
      → decode idm nbw nmaxb all
      ≡ cond (framed idm nbw all && listable nmaxb (numbers (byte all 12) (drop 13 all))) (carried all) (undecoded (positioned malformed_command 0))
  decode-by n = go (framed idm nbw all && listable nmaxb (numbers (byte all 12) (drop 13 all))) refl
    where
      go : (q : Bool) → framed idm nbw all && listable nmaxb (numbers (byte all 12) (drop 13 all)) ≡ q
          → decode idm nbw nmaxb all ≡ cond q (carried all) (undecoded (positioned malformed_command 0))
      go true q = (decode-carried (is-command-by n ∙ q)).0
      go false q = decode-refused (is-command-by n ∙ q)

  -- the parts of framed bytes, kept if their blocks may be listed
  pub parts-decoded : length idm ≡ 8 → framed idm nbw all ≡ true → (l : Listed) → Splits all l → (b : Bool) → b ≡ listable nmaxb (map number l.elements.now)
      → listed_as (then_some b l) ≡ decode idm nbw nmaxb all
  parts-decoded n f l s b e = go b (e ∙ ap (λ es. listable nmaxb (map number es)) s.elements_are)
    where
      go : (b : Bool) → b ≡ listable nmaxb (numbers (byte all 12) (drop 13 all)) → listed_as (then_some b l) ≡ decode idm nbw nmaxb all
      go true q = rw (s.elements_are, s.blockdata_is) (sym (decode-by n ∙ rw (f, sym q)))
      go false q = sym (decode-by n ∙ rw (f, sym q))

-- commands with equal parts are equal
pub same-command : {n m : ℕ} {x u : List Block} {y v : List ℕ} → n ≡ m → x ≡ u → y ≡ v
    → ◌≡◌ {A = Command} (record { count = n; blocks = x; bytes = y }) (record { count = m; blocks = u; bytes = v })
same-command p q r = λ i. record { count = p i; blocks = q i; bytes = r i }

-- the used part of a command's arrays is what was read
pub command-viewed : (ns blockdata : List ℕ) → length blockdata ≡ 16 * length ns
    → (let d = command_as (decoded ns blockdata) in decoded (take d.count (block_numbers d.blocks)) (take (16 * d.count) d.bytes)) ≡ decoded ns blockdata
command-viewed ns blockdata k =
    ap (λ l. decoded l (take (16 * length ns) (overwrite blockdata (replicate 128 0))))
    (ap (take (length ns)) (numbers-back (overwrite ns (replicate 8 0))) ∙ take_at ns (drop (length ns) (replicate 8 0)) (length ns) refl)
    ∙ ap (decoded ns) (take_at blockdata (drop (length blockdata) (replicate 128 0)) (16 * length ns) k)

-- one block more at the front of a buffer
pub bytes-more : (all zeros : List ℕ) (k : ℕ) → 16 * k + 16 ≤ length all → length all ≤ length zeros → (n : ℕ) (new : List ℕ) → n ≡ 16
    → new ≡ take 16 (drop (16 * k) all) → put_mid (16 * k) n (overwrite (take (16 * k) all) zeros) new ≡ overwrite (take (16 * (k + 1)) all) zeros
bytes-more all zeros k h l n new e q =
    let front = take (16 * k) all in
    let block = take 16 (drop (16 * k) all) in
    let f : length front ≡ 16 * k = length-take-le (16 * k) all (omega arith) in
    let b : length block ≡ 16 = length-take-le 16 (drop (16 * k) all) (omega (arith, length-drop (16 * k) all)) in
    let room : length (overwrite front zeros) ≡ length zeros = omega (arith, f, length-append front (drop (length front) zeros), length-drop (length front) zeros) in
    let place : 0 + length front ≡ 16 * k = omega (arith, f) in
    let more : 16 * k + 16 ≡ 16 * (k + 1) = omega arith in
    put_sets (16 * k) n block new (overwrite front zeros) q (omega (arith, e, b)) (omega (arith, b, room))
    ∙ ap (λ t. sets t (16 * k) block) (sym (sets-front front zeros (omega (arith, f))))
    ∙ ap (λ at. sets (sets zeros 0 front) at block) (sym place)
    ∙ sym (sets-append front block zeros 0)
    ∙ sets-front (front ++ block) zeros (omega (arith, f, b, length-append front block))
    ∙ ap (λ x. overwrite x zeros) (sym (take-add (16 * k) 16 all) ∙ ap (λ m. take m all) more)
