use Rattle.std.proofs.Common.{rules, sym, ap, arith}
use Rattle.uri.specs.Payload.{is_uri}
use Rattle.uri.proofs.Expanding.{no_byte, no_code, some-code}
use Rattle.uri.proofs.expand.is_uri.Goals as goal

pub returns-in-len1-up : goal.returns-in-len1-up
returns-in-len1-up c = sym (ap is_uri (some-code c.args.payload.now (λ z. omega arith) (search rules)))

pub returns-in_default : goal.returns-in_default
returns-in_default c = sym (ap is_uri (no_byte c.args.payload.now (omega arith)))

pub returns-in_default-2 : goal.returns-in_default-2
returns-in_default-2 c = sym (ap is_uri (no_code c.args.payload.now (search rules)))
