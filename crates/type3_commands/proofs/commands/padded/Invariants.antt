-- The loop keeps: the first k bytes, and zeros after them.
use Rattle.std.proofs.Common.{◌≡◌, replicate, take}
use Rattle.tag.specs.Bytes.{overwrite}
use Rattle.type3_commands.proofs.commands.padded.Given as goal

abbrev pub invariant-loop-k : goal.invariant-loop-k
invariant-loop-k l = l.bytes ≡ overwrite (take l.k l.listed.blockdata.now) (replicate 128 0)
