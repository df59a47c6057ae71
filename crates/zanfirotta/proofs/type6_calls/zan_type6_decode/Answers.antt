use Rattle.std.proofs.Common.{◌≡◌, rules, ◌≤◌}
use Rattle.zanfirotta.proofs.Decoded.{size_small}
use Rattle.zanfirotta.proofs.type6_calls.zan_type6_decode.Goals as goal

pub slice_bounds-copy_from_slice-end : goal.slice_bounds-copy_from_slice-end
slice_bounds-copy_from_slice-end c =
    let small = size_small c.args.size c.args.blocks c.args.bytes.now c.in-Ok.command c.in-Ok.ensures.0 in
    search (rules, small)
