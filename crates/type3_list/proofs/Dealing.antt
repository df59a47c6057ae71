-- Blocks dealt out to commands, w to a command: how far the first t commands come, and how many bytes they take.
-- Assumes nothing.
use mathlib.Core.Path.{◌≡◌, ap, ◌∙◌}
use mathlib.Core.List.{List, ◌++◌}
use Prim.Native.Nat.{ℕ, zero, suc, ◌+◌, ◌-◌, ◌*◌, ◌/◌, ◌%◌, ◌<◌, ◌≤◌, min}
use native.Mathlib.Nat.{mul-le-mul_left, mul-le-mul_right}
use native.Mathlib.Numerals.{add-one}
use native.Mathlib.Omega.{arith}
use native.Mathlib.Decide.{dec_lt}
use lib.ListN.{length, take, drop, length-append, length-take, length-drop}
use lib.Seq.{length-take-le}
use Rattle.std.proofs.lemmas.Grind.{div_ceil_times}
use Rattle.tag.proofs.Chunks.{rounded-up}
use Rattle.type3_list.specs.Views.Blocks.{blocks_bytes}
use Rattle.type3_list.specs.Views.Listing.{message_command, message_commands, Dealt}
use Rattle.type3.proofs.Codec.{length-command}
use Rattle.type3_list.proofs.Cutting.{times_more}
use Rattle.type3_list.proofs.MessageBlocks.{length-blocks}

-- a command of count blocks moves the place on by its length
pub place-more : (k w t at count : ℕ) → at ≡ 13 * t + 18 * min (w * t) k → count ≡ min w (k - w * t)
    → at + (13 + 18 * count) ≡ 13 * (t + 1) + 18 * min (w * (t + 1)) k
place-more k w t at count e f = rw (times_more w t, e, f) (omega arith)

-- and it fits where there is room for all commands
pub place-fits : (k w t turns at count : ℕ) → at ≡ 13 * t + 18 * min (w * t) k → count ≡ min w (k - w * t) → t < turns
    → at + (13 + 18 * count) ≤ 13 * turns + 18 * k
place-fits k w t turns at count e f l = rw (e, f) (omega arith)

-- fewer commands than those that take more blocks
earlier : (w t u : ℕ) → w * t < w * u → t < u
earlier w t u l = go (dec_lt t u)
  where
    go : Dec (t < u) → t < u
    go (yes p) = p
    go (no n) =
        let least : u ≤ t = omega arith in
        let more : w * u ≤ w * t = mul-le-mul_left w least in
        absurd (omega arith)

-- a command is left while there are blocks left
pub left_over : {k w t : ℕ} (s : ℕ) → Dealt k w t → w * s < k → s < t
left_over {k} {w} {t} s d l = earlier w s t (omega (arith, d.enough))

-- and all are laid once there is none left
pub all_dealt : {k w t : ℕ} (s : ℕ) → Dealt k w t → w * s < k + w → k ≤ w * s → s ≡ t
all_dealt {k} {w} {t} s d l h =
    let before : s < t + 1 = earlier w s (t + 1) (omega (arith, times_more w t, d.enough)) in
    let after : t < s + 1 = earlier w t (s + 1) (omega (arith, times_more w s, d.none_idle)) in
    omega arith

-- as many commands as k blocks need
pub dealt : (k w : ℕ) → k ≤ 255 → 0 < w → w ≤ 8 → Dealt k w ((k + (w - 1)) / w)
dealt k w few some most =
    let (enough, none_idle) = rounded-up w k some in
    record {
      few = few;
      some_width = some;
      most_width = most;
      enough = enough;
      none_idle = none_idle;
      most = at_most ((k + (w - 1)) / w) none_idle (dec_lt k ((k + (w - 1)) / w));
    }
  where
    at_most : (t : ℕ) → w * t < k + w → Dec (k < t) → t ≤ k
    at_most t l (no n) = omega arith
    at_most t l (yes p) =
        let more : w * suc k ≤ w * t = mul-le-mul_left w p in
        let one : 1 * k ≤ w * k = mul-le-mul_right k some in
        absurd (omega arith)

-- so many the library's rounding gives too
pub rounded : (k w : ℕ) → k ≤ 255 → 0 < w → w ≤ 8 → k / w + min 1 (k % w) ≡ (k + (w - 1)) / w
rounded k w few some most =
    let bounds = div_ceil_times k w some in
    all_dealt (k / w + min 1 (k % w)) (dealt k w few some most) (omega arith) (omega arith)

-- the length of a rest
pub length_rest : (l : List ℕ) (s : ℕ) → length (take (length l - s) (drop s l)) ≡ length l - s
length_rest l s = length-take-le (length l - s) (drop s l) (omega (arith, length-drop s l))

module _ (idm m : List ℕ) (w : ℕ) (bs : List ℕ) where
  pub commands-more : (t : ℕ) → message_commands idm m w bs (t + 1) ≡ message_commands idm m w bs t ++ message_command idm m (take w (drop (w * t) bs))
  unfolding message_commands
  commands-more t = rw (add-one t)

  pub length-commands : (t : ℕ) → length idm ≡ 8 → length (message_commands idm m w bs t) ≡ 13 * t + 18 * min (w * t) (length bs)
  unfolding message_commands
  length-commands zero eight = omega arith
  length-commands (suc t) eight =
      let before = message_commands idm m w bs t in
      let part = take w (drop (w * t) bs) in
      let here = length-command idm part (blocks_bytes m part) eight (length-blocks m part) in
      let many : length part ≡ min w (length bs - w * t) = length-take w (drop (w * t) bs) ∙ ap (min w) (length-drop (w * t) bs) in
      omega (arith, length-append before (message_command idm m part), here, many, length-commands t eight)
