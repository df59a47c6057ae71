use Rattle.std.proofs.Common.{refl, arith}
use Rattle.ndef.proofs.Bits.{flag}
use Rattle.ndef.proofs.flags.Flags.is_short.Goals as goal

pub returns : goal.returns
returns c = flag c.args.self.0 4 16 refl (omega arith)
