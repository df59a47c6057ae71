use Rattle.tlv.proofs.Steps.{passed-onward}
use Rattle.tlv.proofs.walk.Walk.pass_control.Goals as goal

pub returns-clause-placed : goal.returns-clause-placed
returns-clause-placed c =
    passed-onward c.pass_control_value.new.table 1 c.pass_control_value.result (rw c.in_ok-length.ensures.ok_part at (c.take_byte.ensures.placed c.requires.1)).0 c.pass_control_value.ensures.placed
