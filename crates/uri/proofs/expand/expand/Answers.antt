use Rattle.std.proofs.Common.{rules, refl, arith}
use Rattle.uri.proofs.Expanding.{no_byte, no_code, taken_apart}
use Rattle.uri.proofs.expand.expand.Goals as goal

pub returns-in_default : goal.returns-in_default
returns-in_default c = rw (no_byte c.args.payload.now (omega arith)) (refl, refl)

pub returns-in_err-prefix : goal.returns-in_err-prefix
returns-in_err-prefix c = rw (no_code c.args.payload.now (search rules)) (search rules)

pub returns : goal.returns
returns c = rw (taken_apart c.args.payload.now c.in_ok-prefix.prefix.now c.in-len1-up.len_at_least (search rules) (search rules)) c.put_both.ensures
