use Rattle.std.proofs.Common.{arith, ◌≡◌, ◌+◌, ◌*◌, ◌/◌, ◌<◌, ◌≤◌, length, drop, sym, ap, ℕ}
use Rattle.tag.specs.Bytes.{byte}
use Rattle.one_block_write.specs.Views.Listing.{command_length, blocks_bytes}
use Rattle.one_block_write.proofs.Laying.{block_inside, block-next}
use Rattle.one_block_write.proofs.list.put_blocks.Goals as goal

pub loop-block-init : goal.loop-block-init
unfolding blocks_bytes
loop-block-init g c =
    let u = g.U.BlockUpdate in
    let none : command_length (u.front c.args.update.now) (u.size c.args.update.now) * 0 ≡ 0 = omega arith in
    (sym none, sym (ap (λ n. drop n c.args.out.now) none))

pub loop-block-preserved : goal.loop-block-preserved
loop-block-preserved g c =
    let u = g.U.BlockUpdate in
    let x = c.args.update.now in
    let l = c.loop-block in
    let z = u.size x in
    let new = u.new_image x in
    let bs = c.args.blocks.now in
    let step = command_length (u.front x) z in
    let listed = g.met.U.BlockUpdate.listed x in
    let room : step * (l.block-index + 1) ≤ length l.out
    = omega (arith, block_inside step l.block-index (length bs) (length l.out) c.loop-block-test.true (omega (arith, c.requires.1))) in
    let inside : (k : ℕ) → k < length bs → z * byte bs k + z ≤ length new
    = λ k h. block_inside z (byte bs k) (length new / z) (length new) (c.requires.0 k h) (omega (arith, listed.whole)) in
    let part = rw (l.invariant.0, c.from.ensures) at c.put_block.ensures in
    rw (l.invariant.0, c.command_length-at.ensures)
    (omega arith, block-next (u.front x) z new bs l.out c.args.out.now _ l.block-index c.loop-block-test.true inside room l.invariant.1 part)
