-- Block 0 as the code sets it, and the lengths of the attribute information block and its commands.
-- Assumes nothing.
use mathlib.Core.Path.{◌≡◌, refl, sym, ap, ◌∙◌}
use mathlib.Core.Bool.{Bool, true, false}
use mathlib.Core.List.{List, [], ◌∷◌, map}
use Prim.Native.Nat.{ℕ, ◌+◌, ◌/◌, ◌%◌, ◌<◌, ◌≤◌}
use native.Mathlib.Omega.{arith}
use borrow.Rule.Slice.PartMut.{put_mid}
use lib.ListN.{length, take, set}
use Rattle.std.specs.Prelude.{sum}
use Rattle.tag.specs.Bytes.{byte, run}
use Rattle.tag.proofs.Runs.{map-run}
use Rattle.type3.specs.AttributeInformation.{steady_sum}
use Rattle.type3.specs.Update.{ln_sum}
use Rattle.type3.proofs.Codec.{length-command}
use Rattle.type3.proofs.Summing.{sum-more}
use Rattle.type3_list.specs.Views.Listing.{attribute_information_block, attribute_command, shut_command, shut_length}

-- block 0 of an image is its sixteen bytes
pub sixteen : (j : List ℕ) → 16 ≤ length j → take 16 j ≡ map (byte j) (run 0 16)
sixteen j l = sym (map-run 16 0 j (omega arith))

-- the sum of the bytes of block 0 that writing keeps
pub sum-steady : (i : List ℕ) → sum (take 9 i) + byte i 10 ≡ steady_sum i
sum-steady i =
    omega (arith, sum-more i 0, sum-more i 1, sum-more i 2, sum-more i 3, sum-more i 4, sum-more i 5, sum-more i 6, sum-more i 7, sum-more i 8)

-- block 0 with WriteFlag and Ln set
abbrev pub set-flag : List ℕ → ℕ → ℕ → List ℕ
set-flag b flag n = put_mid 11 3 (set b 9 flag) (n / 65536 % 256 ∷ n / 256 % 256 ∷ n % 256 ∷ [])

-- and with the checksum
pub set-block : (i : List ℕ) (flag n : ℕ) (b : List ℕ) (s : ℕ) → n < 65536 → s < 65536 → b ≡ map (byte i) (run 0 16) → s ≡ sum (take 14 (set-flag b flag n))
    → put_mid 14 2 (set-flag b flag n) (s / 256 % 256 ∷ s % 256 ∷ []) ≡ attribute_information_block i flag n
unfolding attribute_information_block
set-block i flag n b s small few e q =
    let high : n / 65536 % 256 ≡ n / 65536 = omega arith in
    let total : s ≡ steady_sum i + flag + ln_sum n = q ∙ ap (λ x. sum (take 14 (set-flag x flag n))) e ∙ omega arith in
    let byte-14 : s / 256 % 256 ≡ s / 256 = omega arith in
    ap (λ x. put_mid 14 2 (set-flag x flag n) (s / 256 % 256 ∷ s % 256 ∷ [])) e ∙ rw (byte-14, total, high)

pub length-attribute-information-block : (i : List ℕ) (flag n : ℕ) → length (attribute_information_block i flag n) ≡ 16
unfolding attribute_information_block
length-attribute-information-block i flag n = refl

pub length-attribute-command : (idm i : List ℕ) (flag n : ℕ) → length idm ≡ 8 → length (attribute_command idm i flag n) ≡ 31
length-attribute-command idm i flag n eight = length-command idm (0 ∷ []) (attribute_information_block i flag n) eight (length-attribute-information-block i flag n)

pub length-shut : (idm i : List ℕ) (ln : ℕ) (is_shut : Bool) → length idm ≡ 8 → length (shut_command idm i ln is_shut) ≡ shut_length is_shut
length-shut idm i ln true eight = refl
length-shut idm i ln false eight = length-attribute-command idm i 0x0F ln eight
