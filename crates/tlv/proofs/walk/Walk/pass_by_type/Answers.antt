use Rattle.std.proofs.Common.{refl}
use Rattle.tlv.proofs.Steps.{stay}
use Rattle.tlv.proofs.walk.Walk.pass_by_type.Goals as goal

pub returns-in-0-clause-placed : goal.returns-in-0-clause-placed
returns-in-0-clause-placed c = (0, stay c.requires.1)

pub returns-in-3-clause-placed : goal.returns-in-3-clause-placed
returns-in-3-clause-placed c = ((0, stay c.requires.1), refl)
