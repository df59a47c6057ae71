use Rattle.std.proofs.Common.{length, ap, ◌∙◌, not}
use Rattle.tag.specs.Bytes.{run}
use Rattle.tag.specs.Judge.{equal_at}
use Rattle.type3.proofs.Keeping as three
use Rattle.type6.specs.Container.{file_by}
use Rattle.type6.specs.Views.Kept.{set_for}
use Rattle.type6.proofs.Keeping as six
use Rattle.kinds.proofs.kept.is_kept.Goals as goal

pub returns-in-Type3 : goal.returns-in-Type3
returns-in-Type3 c =
    let a = c.args in
    rw c.in-Type3.is (c.is_kept-in-Type3.ensures ∙ three.kept-is a.idm.now a.image.now a.message.now a.work.now)

pub returns-in-Type6 : goal.returns-in-Type6
returns-in-Type6 c =
    let a = c.args in
    let i = a.image.now in
    let m = a.message.now in
    let j = a.work.now in
    let k = rw c.in-Type6.is at c.requires.0 in
    rw c.in-Type6.is
    (c.is_kept-in-Type6.ensures
    ∙ ap (λ z. equal_at (λ x. not (set_for (file_by z) (length m) x)) i j (run 0 (length i))) k.size_is
    ∙ six.kept-is i m j)
