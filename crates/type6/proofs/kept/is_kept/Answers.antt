use Rattle.std.proofs.Common.{◌+◌, arith}
use Rattle.type6.specs.Container.{file_by}
use Rattle.type6.proofs.Keeping.{compared_at}
use Rattle.type6.proofs.kept.is_kept.Goals as goal

pub returns : goal.returns
returns c =
    let a = c.args in
    let f = c.file_by-file in
    compared_at a.image.now a.work.now (file_by a.size) a.n f.result.0 f.ensures.0 (f.result.0 + 2 + a.n) (omega (arith, f.ensures.0))
    c.requires.2 c.requires.4 _ c.is_kept_outside.ensures
