use Rattle.std.proofs.Common.{arith}
use Rattle.type3.proofs.Keeping.{kept-outside, kept-flag}
use Rattle.type3.proofs.kept.is_kept.Goals as goal

pub returns-then-is_kept_outside : goal.returns-then-is_kept_outside
returns-then-is_kept_outside c =
    let a = c.args in
    kept-flag a.image.now a.work.now a.n c.address-end.result.0 (omega (arith, c.address-end.ensures, c.blocks_for.ensures))
    (omega (arith, c.requires.0, c.address-end.ensures, c.blocks_for.ensures)) c.requires.2 _ c.is_kept_outside.ensures c.if-is_kept_outside.true

pub returns-else-is_kept_outside : goal.returns-else-is_kept_outside
returns-else-is_kept_outside c =
    let a = c.args in
    kept-outside a.image.now a.work.now a.n c.address-end.result.0 (omega (arith, c.address-end.ensures, c.blocks_for.ensures))
    (omega (arith, c.requires.0, c.address-end.ensures, c.blocks_for.ensures)) c.requires.2 _ c.is_kept_outside.ensures c.if-is_kept_outside.false
