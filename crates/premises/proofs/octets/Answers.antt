use Rattle.std.proofs.Common.{arith}
use Rattle.tag.proofs.Octets.{octets-of}
use Rattle.premises.proofs.octets.Goals as goal

pub returns : goal.returns
returns c = octets-of c.args.bytes.now (λ a. omega (arith, c.type_inv.bytes a))
