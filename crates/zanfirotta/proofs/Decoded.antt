-- A Type 6 command that was decoded has at most 32 bytes.
-- Assumes nothing.
use mathlib.Core.Path.{◌≡◌, sym}
use mathlib.Core.List.{List}
use Prim.Native.Nat.{ℕ, ◌≤◌}
use lib.ListN.{take}
use Rattle.type6.specs.declared.Command as code
use Rattle.type6.specs.Codec.{decoded, decode}
use Rattle.type6.proofs.Codec.{encode_decode, defined-bounds}

pub size_small : (z blocks : ℕ) (all : List ℕ) (c : code.Command) → decoded c.block.0 (take z c.bytes) ≡ decode z blocks all → z ≤ 32
size_small z blocks all c e =
    let back = encode_decode z blocks all c.block.0 (take z c.bytes) (sym e) in
    (defined-bounds z back.0).1
