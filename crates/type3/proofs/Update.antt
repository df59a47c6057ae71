-- What a Type 3 tag holds while it is written and after, and why refusal 11 is exact. With block 0 shut the tag holds no message,
-- whatever its other blocks hold; the new image reads as the message. A message that does not fit is held by no image of equal
-- length with the same bytes 0 to 8 and 10. One that fits is held by the new image, which is such an image.
-- Assumes nothing.
use mathlib.Core.Path.{◌≡◌, refl, sym, ap, ◌∙◌}
use mathlib.Core.Bool.{Bool, true, false, not, ◌||◌, false≢true}
use mathlib.Core.Logic.{⊎_elim}
use mathlib.Core.List.{List, [], ◌∷◌, map}
use Prim.Native.Nat.{ℕ, ◌+◌, ◌-◌, ◌*◌, ◌/◌, ◌%◌, ◌<◌, ◌≤◌}
use native.Mathlib.Omega.{arith}
use borrow.Author.Tests.{eqb-true, ne_eqb, leb-true}
use lib.Dec.{leb, eqb}
use lib.ListN.{length, take, replicate, length-append, length-replicate}
use Rattle.tag.specs.Bytes.{byte, run, is_set}
use Rattle.tag.specs.Reading.{nothing, holds, held_of}
use Rattle.tag.specs.Plan.{new_image, protected}
use Rattle.tag.proofs.Logic.{or_cases, true-false}
use Rattle.tag.proofs.Images.{length-overlay, overlay-out}
use Rattle.tag.proofs.Addresses.{Above, above-unset, overlay-reads, above-run}
use Rattle.tag.proofs.Runs.{length_run, take-run, map-run}
use Rattle.tag.proofs.Blocks.{in_block, in-block}
use Rattle.tag.proofs.Guarded.{Cell, shut, old, fresh, Between}
use Rattle.tag.proofs.Writes.{shut_image, shut-either}
use Rattle.type3.specs.AttributeInformation.{steady_sum, nmaxb_of, capacity, attribute_information}
use Rattle.type3.specs.Message.{reading}
use Rattle.type3.specs.Update.{blocks_for, addresses, ln_sum, values_by, body, values, closed_sum, closed, plan}
use Rattle.type3.proofs.Message.{Passes, bounds, sum-right, ln_fits, steady, Agrees, same_sum, same-nmaxb, checks-of, held-closed, held-open, held_fits}

-- the bytes that writing keeps lie before byte 11, and byte 9 is none of them
steady-is : (k : ℕ) → steady k ≡ true → (k ≤ 10) × (k ≡ 9 → ⊥)
steady-is k e =
    ⊎_elim
    (λ h. let l : k ≤ 8 = leb-true k 8 h in (omega arith, omega arith))
    (λ h. let q : k ≡ 10 = eqb-true k 10 h in (omega arith, omega arith))
    (or_cases (leb k 8) (eqb k 10) e)

-- ---- the closed image

abbrev pub closed_values : List ℕ → List ℕ
closed_values i = 0x0F ∷ closed_sum i / 256 ∷ closed_sum i % 256 ∷ []

pub closed-else : (i : List ℕ) (k : ℕ) → not (is_set (9 ∷ 14 ∷ 15 ∷ []) (closed_values i) k) ≡ true → byte (closed i) k ≡ byte i k
closed-else i k e = overlay-out (9 ∷ 14 ∷ 15 ∷ []) (closed_values i) i k e

pub closed-length : (i : List ℕ) → length (closed i) ≡ length i
closed-length i = length-overlay (9 ∷ 14 ∷ 15 ∷ []) (closed_values i) i

pub closed-reads : (i : List ℕ) → 16 ≤ length i → map (byte (closed i)) (9 ∷ 14 ∷ 15 ∷ []) ≡ closed_values i
closed-reads i l = overlay-reads 16 (closed_values i) [] (9 ∷ 14 ∷ 15 ∷ []) i 8 (omega arith) l (omega arith)

-- a tag with block 0 shut: its steady bytes and Ln as they were, WriteFlag 0Fh, and the checksum of that
record ShutFrom (i c : List ℕ) : Type 0 where
  agrees : Agrees c i
  b9 : byte c 9 ≡ 0x0F
  b11 : byte c 11 ≡ byte i 11
  b12 : byte c 12 ≡ byte i 12
  b13 : byte c 13 ≡ byte i 13
  checksum : 256 * byte c 14 + byte c 15 ≡ closed_sum i

closed-shut : (i : List ℕ) → 16 ≤ length i → ShutFrom i (closed i)
closed-shut i l = record {
  agrees = λ k e.
      let (lt, n9) = steady-is k e in
      closed-else i k (rw (ne_eqb 9 k (omega arith), ne_eqb 14 k (omega arith), ne_eqb 15 k (omega arith)));
  b9 = cc (closed-reads i l);
  b11 = closed-else i 11 refl;
  b12 = closed-else i 12 refl;
  b13 = closed-else i 13 refl;
  checksum =
      let e14 : byte (closed i) 14 ≡ closed_sum i / 256 = cc (closed-reads i l) in
      let e15 : byte (closed i) 15 ≡ closed_sum i % 256 = cc (closed-reads i l) in
      omega arith;
}

-- a tag that reads, with WriteFlag 0Fh, has block 0 shut
busy-shut : (i : List ℕ) → Passes i → byte i 9 ≡ 0x0F → ShutFrom i i
busy-shut i c e = record { agrees = λ k s. refl; b9 = e; b11 = refl; b12 = refl; b13 = refl; checksum = omega (arith, sum-right i c) }

shut-from : (i m : List ℕ) → Passes i → ShutFrom i (shut_image (plan i m) i)
shut-from i m c =
    shut-either (plan i m) i (ShutFrom i) (λ q. busy-shut i c (eqb-true (byte i 9) 0x0F q)) (closed-shut i (omega (arith, (bounds i c).reach)))

-- a tag with block 0 shut is being written
pub quiet : (i m j n : List ℕ) → Passes i → Between (in_block 16 0) i (shut_image (plan i m) i) n j → held_of (reading j) ≡ nothing
quiet i m j n c b = held-closed j (checks-of i j b.0 agrees c flag sum ln) e9
  where
    l : 16 ≤ length i
    l = omega (arith, (bounds i c).reach)

    shut-0 : ShutFrom i (shut_image (plan i m) i)
    shut-0 = shut-from i m c

    at : (k : ℕ) → in_block 16 0 k ≡ true → byte j k ≡ byte (shut_image (plan i m) i) k
    at k e = go (b.1 k (omega (arith, l, ((in-block 16 0 k).0 e).1)))
      where
        go : Cell (in_block 16 0) i (shut_image (plan i m) i) n j k → byte j k ≡ byte (shut_image (plan i m) i) k
        go (shut p q) = q
        go (old p q) = absurd (true-false e p)
        go (fresh p q) = absurd (true-false e p)

    agrees : Agrees j i
    agrees k e =
        let (lt, n9) = steady-is k e in
        at k ((in-block 16 0 k).1 (omega arith, omega arith)) ∙ shut-0.agrees k e

    e9 : byte j 9 ≡ 0x0F
    e9 = at 9 refl ∙ shut-0.b9

    e11 : byte j 11 ≡ byte i 11
    e11 = at 11 refl ∙ shut-0.b11

    e12 : byte j 12 ≡ byte i 12
    e12 = at 12 refl ∙ shut-0.b12

    e13 : byte j 13 ≡ byte i 13
    e13 = at 13 refl ∙ shut-0.b13

    e14 : byte j 14 ≡ byte (shut_image (plan i m) i) 14
    e14 = at 14 refl

    e15 : byte j 15 ≡ byte (shut_image (plan i m) i) 15
    e15 = at 15 refl

    flag : eqb (byte j 9) 0x00 || eqb (byte j 9) 0x0F ≡ true
    flag = rw e9

    sum : (attribute_information j).sum ≡ (attribute_information j).checksum
    sum = rw (same_sum j i agrees, e9, e11, e12, e13, e14, e15) (omega (arith, shut-0.checksum))

    ln : (attribute_information j).ln ≤ 16 * nmaxb_of i
    ln = rw (e11, e12, e13) (ln_fits i c)

-- ---- what writing sets

-- the addresses rise, and lie in block 0 past its steady bytes and in blocks 1 to k
pub above-addresses : (m : List ℕ) (hi : ℕ) → 16 * (1 + blocks_for (length m)) ≤ hi → Above hi 8 (addresses m)
above-addresses m hi l =
    (omega arith, (omega arith, (omega arith, (omega arith, (omega arith, (omega arith, above-run (16 * blocks_for (length m)) 15 hi (omega arith)))))))

pub length-body : (m : List ℕ) → length (body m) ≡ 16 * blocks_for (length m)
length-body m =
    let rest = 16 * blocks_for (length m) - length m in
    omega (arith, length-append m (replicate rest 0x00), length-replicate {A = ℕ} rest 0x00)

-- if six tests and a rest all fail, so do the three for the bytes that closing sets
closing : (b9 b11 b12 b13 b14 b15 b : Bool) → not (b9 || (b11 || (b12 || (b13 || (b14 || (b15 || b)))))) ≡ true → not (b9 || (b14 || (b15 || false))) ≡ true
closing true b11 b12 b13 b14 b15 b e = e
closing false true b12 b13 b14 b15 b e = absurd (false≢true e)
closing false false true b13 b14 b15 b e = absurd (false≢true e)
closing false false false true b14 b15 b e = absurd (false≢true e)
closing false false false false true b15 b e = e
closing false false false false false true b e = e
closing false false false false false false b e = refl

module _ (i m : List ℕ) where
  -- closing sets no byte that writing keeps
  pub closed-kept : (a : ℕ) → protected (plan i m) a ≡ true → byte (closed i) a ≡ byte i a
  closed-kept a e =
      closed-else i a
      (closing (eqb 9 a) (eqb 11 a) (eqb 12 a) (eqb 13 a) (eqb 14 a) (eqb 15 a) (is_set (run 16 (16 * blocks_for (length m))) (body m) a) e)

  -- the steady bytes are protected
  steady_kept : (k : ℕ) → steady k ≡ true → protected (plan i m) k ≡ true
  steady_kept k e =
      let (lt, n9) = steady-is k e in
      let hi = 16 * (1 + blocks_for (length m)) in
      rw (ne_eqb 9 k (omega arith), ne_eqb 11 k (omega arith), ne_eqb 12 k (omega arith), ne_eqb 13 k (omega arith), ne_eqb 14 k (omega arith), ne_eqb 15 k (omega arith))
      (above-unset hi (run 16 (16 * blocks_for (length m))) (body m) 15 k (above-run (16 * blocks_for (length m)) 15 hi (omega arith)) (omega arith))

  -- so a tag that keeps the protected bytes agrees with the tag handed in
  pub kept-agrees : (j : List ℕ) → 16 ≤ length i → ((a : ℕ) → a < length i → protected (plan i m) a ≡ true → byte j a ≡ byte i a) → Agrees j i
  kept-agrees j l h k e = h k (omega (arith, (steady-is k e).0)) (steady_kept k e)

  pub new-agrees : Agrees (new_image (plan i m) i) i
  new-agrees k e = overlay-out (addresses m) (values i m) i k (steady_kept k e)

  pub new-length : length (new_image (plan i m) i) ≡ length i
  new-length = length-overlay (addresses m) (values i m) i

-- ---- the new image

-- an image that holds these values at these addresses
record Written (N : List ℕ) (n s : ℕ) (m : List ℕ) : Type 0 where
  b9 : byte N 9 ≡ 0x00
  b11 : byte N 11 ≡ n / 65536
  b12 : byte N 12 ≡ n / 256 % 256
  b13 : byte N 13 ≡ n % 256
  b14 : byte N 14 ≡ s / 256
  b15 : byte N 15 ≡ s % 256
  message : map (byte N) (take (length m) (run 16 (16 * blocks_for n))) ≡ m

written_of : (N : List ℕ) (n s : ℕ) (m : List ℕ)
    → map (byte N) (take (length (values_by n s m)) (9 ∷ 11 ∷ 12 ∷ 13 ∷ 14 ∷ 15 ∷ run 16 (16 * blocks_for n))) ≡ values_by n s m → Written N n s m
written_of N n s m e = record { b9 = cc e; b11 = cc e; b12 = cc e; b13 = cc e; b14 = cc e; b15 = cc e; message = cc e }

-- a tag that reads, with room for a message that is not empty
pub record HasRoom (i m : List ℕ) : Type 0 where
  pub passes : Passes i
  pub some_bytes : length m ≡ 0 → ⊥
  pub room : length m ≤ capacity i

module _ (i m : List ℕ) (r : HasRoom i m) where
  -- all that is written lies in blocks up to Nmaxb, inside the image
  pub few-blocks : blocks_for (length m) ≤ nmaxb_of i
  few-blocks = omega (arith, r.room)

  pub inside : 16 * (1 + blocks_for (length m)) ≤ length i
  inside = omega (arith, few-blocks, (bounds i r.passes).reach)

  written : Written (new_image (plan i m) i) (length m) (steady_sum i + ln_sum (length m)) m
  written =
      let n = length m in
      let s = steady_sum i + ln_sum (length m) in
      written_of (new_image (plan i m) i) n s m
      (overlay-reads (length i) (values_by n s m) (replicate (16 * blocks_for n - n) 0x00) (addresses m) i 8
      (above-addresses m (length i) inside) (omega arith) (rw length_run (omega arith)))

  reads_as : (N : List ℕ) → length N ≡ length i → Agrees N i → Written N (length m) (steady_sum i + ln_sum (length m)) m → held_of (reading N) ≡ holds m
  reads_as N l h w =
      let n = length m in
      let ln : (attribute_information N).ln ≡ n = rw (w.b11, w.b12, w.b13) (omega arith) in
      let flag : eqb (byte N 9) 0x00 || eqb (byte N 9) 0x0F ≡ true = rw w.b9 in
      let sum : (attribute_information N).sum ≡ (attribute_information N).checksum
      = rw (same_sum N i h, w.b9, w.b11, w.b12, w.b13, w.b14, w.b15) (omega arith) in
      held-open N n (checks-of i N l h r.passes flag sum (omega (arith, ln, r.room))) w.b9 ln r.some_bytes
      ∙ ap holds (sym (map-run n 16 N (omega (arith, l, inside))) ∙ ap (map (byte N)) (sym (take-run n (16 * blocks_for n) 16 (omega arith))) ∙ w.message)

  pub reads-new : held_of (reading (new_image (plan i m) i)) ≡ holds m
  reads-new = reads_as (new_image (plan i m) i) (new-length i m) (new-agrees i m) written

  -- ---- refusal 11 is exact

  -- a message that fits is held by an image of equal length with the same steady bytes
  pub long-enough : (length (new_image (plan i m) i) ≡ length i) × Agrees (new_image (plan i m) i) i × (held_of (reading (new_image (plan i m) i)) ≡ holds m)
  long-enough = (new-length i m, new-agrees i m, reads-new)

-- and one that does not fit is held by no image with the same steady bytes, of whatever length
pub too_long : (i m j : List ℕ) → capacity i < length m → Agrees j i → held_of (reading j) ≡ holds m → ⊥
too_long i m j l h e = omega (arith, same-nmaxb j i h, held_fits j m e)
