use Rattle.std.proofs.Common.{◌≡◌, ◌≤◌, length, arith, ap, ◌∙◌, not}
use Rattle.tag.specs.Bytes.{run}
use Rattle.tag.specs.Judge.{equal_at}
use Rattle.tag.proofs.Laws.{written-ready}
use Rattle.type6.specs.Container.{file_by, file_at, capacity}
use Rattle.type6.specs.Type6.{type6}
use Rattle.type6.specs.Views.Kept.{set_for}
use Rattle.type6.proofs.Keeping.{kept-is}
use Rattle.type6.proofs.Laws.{ready-room}
use Rattle.kinds.proofs.type6_update.Type6UpdateUpdate.is_kept.Goals as goal

pub is_kept-requires : goal.is_kept-requires
is_kept-requires c =
    let u = c.args.self.now in
    let i = u.image.now in
    let m = u.message.now in
    let k = u.readable.known in
    let room : length m ≤ capacity i = (ready-room i m (written-ready type6 i m (type6.plan i m) u.planned).0).room in
    let file : file_by u.container.size ≡ file_at i = ap file_by k.says.size_is in
    (k.some_size, k.small, omega (arith, file, k.says.file_is, k.says.capacity_is, k.inside), k.short, c.requires)

pub returns : goal.returns
returns c =
    let u = c.args.self.now in
    let i = u.image.now in
    let m = u.message.now in
    let j = c.args.work.now in
    c.is_kept.ensures
    ∙ ap (λ z. equal_at (λ x. not (set_for (file_by z) (length m) x)) i j (run 0 (length i))) u.readable.known.says.size_is
    ∙ kept-is i m j
