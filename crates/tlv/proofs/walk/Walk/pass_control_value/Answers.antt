use Rattle.tlv.proofs.Steps.{onward}
use Rattle.tlv.proofs.walk.Walk.pass_control_value.Goals as goal

pub returns-clause-placed : goal.returns-clause-placed
returns-clause-placed c =
    let first = rw c.in_ok-place.ensures.ok_part at (c.take_byte.ensures.placed c.requires.1) in
    let second = rw c.in_ok-size.ensures.ok_part at (c.take_byte-2.ensures.placed first.0.within) in
    let third = rw c.in_ok-last.ensures.ok_part at (c.take_byte-3.ensures.placed second.0.within) in
    onward (onward first.0 second.0) (onward third.0 c.skip_area.ensures.placed)
