-- Writing a message to a Type 3 tag: which bytes are set.
-- Assumes nothing.
use Rattle.std.specs.Prelude.{List, [], ◌∷◌, ◌++◌, ℕ, ◌+◌, ◌-◌, ◌*◌, ◌/◌, ◌%◌, min, eqb, length, replicate}
use Rattle.tag.specs.Bytes.{byte, run, overlay}
use Rattle.tag.specs.Plan.{Plan}
use Rattle.type3.specs.AttributeInformation.{steady_sum}

-- k: the blocks of a message of n bytes
abbrev pub blocks_for : ℕ → ℕ
blocks_for n = (n + 15) / 16

-- w: the most blocks of one command
abbrev pub blocks_per_command : ℕ → ℕ
blocks_per_command nbw = min nbw 8

-- what writing sets: WriteFlag, Ln, the checksum, and blocks 1 to k
abbrev pub addresses : List ℕ → List ℕ
addresses m = 9 ∷ 11 ∷ 12 ∷ 13 ∷ 14 ∷ 15 ∷ run 16 (16 * blocks_for (length m))

-- the sum of the three bytes of Ln
abbrev pub ln_sum : ℕ → ℕ
ln_sum n = n / 65536 + n / 256 % 256 + n % 256

-- WriteFlag 00h, the length n, the checksum s, and the bytes of the message's blocks
abbrev pub values_by : ℕ → ℕ → List ℕ → List ℕ
values_by n s body = 0x00 ∷ n / 65536 ∷ n / 256 % 256 ∷ n % 256 ∷ s / 256 ∷ s % 256 ∷ body

-- the message, its last block filled with 00h
abbrev pub body : List ℕ → List ℕ
body m = m ++ replicate (16 * blocks_for (length m) - length m) 0x00

abbrev pub values : List ℕ → List ℕ → List ℕ
values i m = values_by (length m) (steady_sum i + ln_sum (length m)) (body m)

-- the tag with WriteFlag 0Fh and its checksum, Ln as it was
abbrev pub closed_sum : List ℕ → ℕ
closed_sum i = steady_sum i + 0x0F + byte i 11 + byte i 12 + byte i 13

abbrev pub closed : List ℕ → List ℕ
closed i = overlay (9 ∷ 14 ∷ 15 ∷ []) (0x0F ∷ closed_sum i / 256 ∷ closed_sum i % 256 ∷ []) i

-- the guard block is block 0; it is shut already if WriteFlag is 0Fh
abbrev pub plan : List ℕ → List ℕ → Plan
plan i m = record {
  addresses = addresses m;
  values = values i m;
  block_size = 16;
  width = blocks_per_command (byte i 2);
  guard = 0;
  closed = closed i;
  is_shut = eqb (byte i 9) 0x0F;
}
