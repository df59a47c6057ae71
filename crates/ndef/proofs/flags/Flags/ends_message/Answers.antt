use Rattle.std.proofs.Common.{refl, arith}
use Rattle.ndef.proofs.Bits.{flag}
use Rattle.ndef.proofs.flags.Flags.ends_message.Goals as goal

pub returns : goal.returns
returns c = flag c.args.self.0 6 64 refl (omega arith)
