-- Laws for the code that encodes a command: how many blocks a command may list, and what is answered where its bytes do not fit.
-- Assumes nothing.
use mathlib.Core.Path.{◌≡◌, refl, sym, ◌∙◌}
use mathlib.Core.Bool.{Bool, true, false, ◌&&◌, and-false}
use mathlib.Core.List.{List}
use Prim.Native.Nat.{ℕ, ◌+◌, ◌*◌, ◌<◌, ◌≤◌}
use native.Mathlib.Omega.{arith}
use borrow.Author.Tests.{leb-true, leb-false, le-leb, lt-leb}
use lib.Dec.{leb}
use lib.ListN.{length, take}
use lib.Seq.{length-take-le}
use Rattle.tag.specs.Refusals.{malformed_command, short_buffer}
use Rattle.tag.specs.TagType.{refused_output}
use Rattle.tag.proofs.Logic.{and_l, and_r}
use Rattle.type3.specs.Update.{blocks_per_command}
use Rattle.type3.specs.Codec.{listable, well_listed, command_bytes, encode}
use Rattle.type3.proofs.Codec.{length-command}

-- ---- how many blocks a command may list

pub record CountBounds (nbw n : ℕ) : Type 0 where
  pub some : 1 ≤ n
  pub allowed : n ≤ nbw
  pub few : n ≤ 8

pub count-bounds : (nbw n : ℕ) → leb 1 n && leb n (blocks_per_command nbw) ≡ true → CountBounds nbw n
count-bounds nbw n h =
    let most : n ≤ blocks_per_command nbw = leb-true n (blocks_per_command nbw) (and_r (leb 1 n) (leb n (blocks_per_command nbw)) h) in
    record { some = leb-true 1 n (and_l (leb 1 n) (leb n (blocks_per_command nbw)) h); allowed = omega arith; few = omega arith }

-- the first n of eight blocks
pub well-listed-by : (nbw nmaxb n : ℕ) (bs : List ℕ) → length bs ≡ 8
    → leb n (length bs) && well_listed nbw nmaxb (take n bs) ≡ leb 1 n && leb n (blocks_per_command nbw) && listable nmaxb (take n bs)
well-listed-by nbw nmaxb n bs h = go (leb n (length bs)) refl
  where
    go : (q : Bool) → leb n (length bs) ≡ q
        → q && well_listed nbw nmaxb (take n bs) ≡ leb 1 n && leb n (blocks_per_command nbw) && listable nmaxb (take n bs)
    go true q =
        let e : length (take n bs) ≡ n = length-take-le n bs (leb-true n (length bs) q) in
        rw e
    go false q =
        let k : leb n (blocks_per_command nbw) ≡ false = lt-leb n (blocks_per_command nbw) (omega (arith, leb-false n (length bs) q)) in
        rw (k, and-false (leb 1 n))

-- ---- the answers of encoding

pub encode-unlisted : (idm : List ℕ) (nbw nmaxb n : ℕ) (bs bytes : List ℕ) (room : ℕ)
    → leb n (length bs) && well_listed nbw nmaxb (take n bs) ≡ false → encode idm nbw nmaxb n bs bytes room ≡ refused_output malformed_command
encode-unlisted idm nbw nmaxb n bs bytes room h = go (leb n (length bs)) refl
  where
    go : (q : Bool) → leb n (length bs) ≡ q → encode idm nbw nmaxb n bs bytes room ≡ refused_output malformed_command
    go false q = rw q
    go true q =
        let k : well_listed nbw nmaxb (take n bs) ≡ false = rw q at h in
        rw (q, k)

module _ (idm : List ℕ) (nbw nmaxb n : ℕ) (bs bytes : List ℕ) (room : ℕ) where
  -- the length of the command for the first n blocks
  length-used : length idm ≡ 8 → n ≤ length bs → 16 * n ≤ length bytes
      → length (command_bytes idm (take n bs) (take (16 * n) bytes)) ≡ 13 + 18 * n
  length-used e h s =
      let k : length (take n bs) ≡ n = length-take-le n bs h in
      let m : length (take (16 * n) bytes) ≡ 16 * length (take n bs) = omega (arith, length-take-le (16 * n) bytes s) in
      length-command idm (take n bs) (take (16 * n) bytes) e m ∙ rw k

  pub encode-short : length idm ≡ 8 → length bytes ≡ 128 → length bs ≡ 8 → leb n (length bs) && well_listed nbw nmaxb (take n bs) ≡ true
      → room < 13 + 18 * n → encode idm nbw nmaxb n bs bytes room ≡ refused_output short_buffer
  encode-short e s b h r =
      let l : n ≤ length bs = leb-true n (length bs) (and_l (leb n (length bs)) (well_listed nbw nmaxb (take n bs)) h) in
      let w : well_listed nbw nmaxb (take n bs) ≡ true = and_r (leb n (length bs)) (well_listed nbw nmaxb (take n bs)) h in
      let k : leb (length (command_bytes idm (take n bs) (take (16 * n) bytes))) room ≡ false
      = lt-leb (length (command_bytes idm (take n bs) (take (16 * n) bytes))) room (omega (arith, length-used e l (omega arith))) in
      rw (le-leb n (length bs) l, w, k)

-- what is known once the blocks are tested: the first n are at most eight, and a command may list them
pub record Used (nmaxb n : ℕ) (bs : List ℕ) : Type 0 where
  pub few : n ≤ 8
  pub inside : length (take n bs) ≡ n
  pub listed : listable nmaxb (take n bs) ≡ true

pub used : (nbw nmaxb n : ℕ) (bs : List ℕ) → length bs ≡ 8 → leb n (length bs) && well_listed nbw nmaxb (take n bs) ≡ true → Used nmaxb n bs
used nbw nmaxb n bs e h =
    let tests : leb 1 n && leb n (blocks_per_command nbw) && listable nmaxb (take n bs) ≡ true = sym (well-listed-by nbw nmaxb n bs e) ∙ h in
    let k = count-bounds nbw n (and_l (leb 1 n && leb n (blocks_per_command nbw)) (listable nmaxb (take n bs)) tests) in
    record {
      few = k.few;
      inside = length-take-le n bs (omega arith);
      listed = and_r (leb 1 n && leb n (blocks_per_command nbw)) (listable nmaxb (take n bs)) tests;
    }
