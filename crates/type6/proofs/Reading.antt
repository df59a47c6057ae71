-- What the code finds in a container: the tests by the numbers that it has, and the answer of reading.
-- Assumes nothing.
use mathlib.Core.Path.{◌≡◌, refl, sym, ap, ◌∙◌}
use mathlib.Core.Bool.{Bool, false, cond}
use mathlib.Core.List.{List}
use Prim.Native.Nat.{ℕ, zero, suc, ◌+◌, ◌*◌, ◌<◌, ◌≤◌}
use native.Mathlib.Nat.{mul-le-mul_left}
use native.Mathlib.Omega.{arith}
use native.Mathlib.Decide.{dec_le}
use borrow.Author.Tests.{ne_eqb}
use lib.Dec.{eqb}
use lib.ListN.{length, take, drop, length-drop}
use lib.Seq.{length-take-le}
use Rattle.tag.specs.Bytes.{byte}
use Rattle.tag.specs.Checks.{fine, fault, first_of}
use Rattle.tag.specs.Reading.{empty, message, refusal, answer, answer_of, reads}
use Rattle.tag.proofs.Checks.{fine-all}
use Rattle.tag.proofs.Chunks.{rounded-up}
use Rattle.type6.specs.declared.container.Container.{Container}
use Rattle.type6.specs.Container.{tag_block_size, container_blocks, file_at, capacity, nlen, checks, may_write}
use Rattle.type6.specs.Message.{report_of, reading}
use Rattle.type6.specs.Views.Container.{Says, Attests, Readable, answer_for}
use Rattle.type6.proofs.Message.{size-bounds, Passes, bounds, unread, passes-reads}

-- ---- where the file is

-- the container's blocks end before address 40
file-end : (z : ℕ) → 0 < z → z * container_blocks z < 8 + z
unfolding container_blocks
file-end z p = (rounded-up z 8 p).1

pub file-low : (z : ℕ) → 0 < z → z ≤ 32 → z * container_blocks z < 40
file-low z p l = omega (arith, file-end z p)

-- and they are at most eight
pub container-few : (z : ℕ) → 0 < z → container_blocks z ≤ 8
container-few z p = go (dec_le (container_blocks z) 8)
  where
    go : Dec (container_blocks z ≤ 8) → container_blocks z ≤ 8
    go (yes l) = l
    go (no n) =
        let more : z * 9 ≤ z * container_blocks z = mul-le-mul_left z (omega (arith, n)) in
        absurd (omega (arith, more, file-end z p))

-- ---- what the tests show

module _ (i : List ℕ) (e : first_of (checks i) ≡ fine) where
  passes : Passes i
  passes = fine-all (checks i) e

  attested : (c : Container) → Says i c → Attests i c
  attested c s =
      let b = bounds i passes in
      let z = size-bounds (byte i 5) in
      record {
        says = s;
        some_size = omega (arith, z.0, s.size_is);
        small = omega (arith, z.1, s.size_is);
        few = omega (arith, s.blocks_are);
        short = b.short;
        whole = b.whole ∙ rw b.blocks_are (rw (s.size_is, s.blocks_are));
        low = omega (arith, file-low (tag_block_size i) z.0 z.1, s.file_is);
        inside = omega (arith, s.file_is, s.capacity_is, b.inside, b.room);
        nlen_fits = omega (arith, s.nlen_is, s.capacity_is, b.nlen_fits);
      }

  pub readable : (c : Container) → Says i c → Readable i c
  readable c s = record { passes = e; known = attested c s }

-- ---- the answer

-- a test that fails gives its refusal
pub answer-refused : (i : List ℕ) (r : ℕ) → first_of (checks i) ≡ fault r → answer_of 0 (reading i) ≡ refusal r
answer-refused i r e = ap (answer_of 0) (unread i r e)

-- the container and NLEN say the rest
pub answer-known : (i : List ℕ) (c : Container) → Readable i c → answer_for c ≡ answer_of 0 (reading i)
answer-known i c h =
    let k = h.known in
    rw (k.says.nlen_is, k.says.file_is, k.says.writable_is, k.says.capacity_is) (go (nlen i) (omega (arith, k.inside, k.nlen_fits, k.says.nlen_is, k.says.file_is)))
    ∙ sym (ap (answer_of 0) (passes-reads i (fine-all (checks i) h.passes)))
  where
    w : Bool
    w = may_write i

    f : ℕ
    f = file_at i

    most : ℕ
    most = capacity i

    go : (n : ℕ) → f + 2 + n ≤ length i
        → cond (eqb n 0) (answer empty 0 0 false w most) (answer message (2 + f) n false w most) ≡ answer_of 0 (reads (report_of w most f i n))
    go zero l = refl
    go (suc n) l =
        let whole : length (take (suc n) (drop (2 + f) i)) ≡ suc n = length-take-le (suc n) (drop (2 + f) i) (rw length-drop (omega arith)) in
        rw (ne_eqb (suc n) 0 (omega arith)) (ap (λ k. answer message (2 + f) k false w most) (sym whole))
