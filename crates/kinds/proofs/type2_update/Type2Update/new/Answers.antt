use Rattle.std.proofs.Common.{arith}
use Rattle.std.proofs.lemmas.Result.{err_from_is_err_and}
use Rattle.tlv_tag.proofs.Fitting.{blank_area}
use Rattle.type2.proofs.Deciding.{refused-writing, no-space-writing}
use Rattle.type2.proofs.Keeping.{covered}
use Rattle.kinds.proofs.Preparing.{writing-at, addresses-at}
use Rattle.kinds.proofs.type2_update.Type2Update.new.Goals as goal

pub find_space-requires : goal.find_space-requires
find_space-requires c =
    let p = c.in_ok-area.ensures in
    blank_area 1024 c.requires (omega arith) (omega (arith, p.ends)) (omega (arith, p.inside, p.short)) (omega (arith, p.inside))

pub returns-in_err-area : goal.returns-in_err-area
returns-in_err-area c =
    let p = err_from_is_err_and c.from_residual.result c.from_residual.ensures.1 in
    rw (p.1, p.2) (refused-writing c.args.image.now c.args.message.now c.in_err-area.ensures)

pub returns-in_err-walk : goal.returns-in_err-walk
returns-in_err-walk c =
    let a = c.args in
    let p = err_from_is_err_and c.from_residual-in_err-walk.result c.from_residual-in_err-walk.ensures.1 in
    rw (p.1, p.2) (no-space-writing a.image.now a.message.now _ _ c.in_ok-area.ensures _ c.in_err-walk.ensures.is)

pub invariant_of-result : goal.invariant_of-result
invariant_of-result c =
    let i = c.args.image.now in
    let m = c.args.message.now in
    let w = c.in_ok-walk in
    let e = c.extent_of-extent in
    record {
      covered = covered i m _ w.walk e.result w.ensures.placed.0 (addresses-at i m _ _ c.in_ok-area.ensures _ w.ensures.is) e.ensures.extends e.ensures.bounded;
      planned = writing-at i m _ _ c.in_ok-area.ensures _ w.ensures.is;
      short = c.in_ok-area.ensures.short;
    }
