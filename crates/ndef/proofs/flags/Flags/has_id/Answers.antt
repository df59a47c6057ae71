use Rattle.std.proofs.Common.{refl, arith}
use Rattle.ndef.proofs.Bits.{flag}
use Rattle.ndef.proofs.flags.Flags.has_id.Goals as goal

pub returns : goal.returns
returns c = flag c.args.self.0 3 8 refl (omega arith)
