use Rattle.std.proofs.Common.{◌≤◌, ◌*◌, length, arith, ◌∙◌}
use Rattle.tag.proofs.Laws.{written-ready}
use Rattle.type3.specs.AttributeInformation.{nmaxb_of}
use Rattle.type3.specs.Update.{plan}
use Rattle.type3.specs.Type3.{type3}
use Rattle.type3.proofs.Keeping.{kept-is}
use Rattle.type3.proofs.Laws.{ready-room}
use Rattle.kinds.proofs.type3_update.Type3UpdateUpdate.is_kept.Goals as goal

pub is_kept-requires : goal.is_kept-requires
is_kept-requires c =
    let u = c.args.self.now in
    let i = u.image.now in
    let m = u.message.now in
    let k = u.readable.known in
    let room : length m ≤ 16 * nmaxb_of i = (ready-room u.idm.now i m (written-ready (type3 u.idm.now) i m (plan i m) u.planned).0).room in
    (omega (arith, k.reach, k.says.nmaxb_is), k.whole.most, c.requires)

pub returns : goal.returns
returns c =
    let u = c.args.self.now in
    c.is_kept.ensures ∙ kept-is u.idm.now u.image.now u.message.now c.args.work.now
