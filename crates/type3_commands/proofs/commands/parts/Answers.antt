use Rattle.std.proofs.Common.{ap, sym, ◌∙◌}
use Rattle.type3_commands.specs.Views.Framing.{listed_as}
use Rattle.type3_commands.proofs.Decoding.{decode-by, parts-decoded}
use Rattle.type3_commands.proofs.commands.parts.Goals as goal

pub returns-in_err-listed : goal.returns-in_err-listed
returns-in_err-listed c =
    let a = c.args in
    ap listed_as c.from_residual.ensures ∙ sym (decode-by a.idm.now a.nbw a.nmaxb a.bytes.now c.told-idm ∙ rw c.in_err-listed.ensures)

pub returns : goal.returns
returns c =
    let a = c.args in
    let l = c.in_ok-listed in
    ap listed_as c.then_some.ensures
    ∙ parts-decoded a.idm.now a.nbw a.nmaxb a.bytes.now c.told-idm l.ensures.0 l.listed l.ensures.1 c.listable.result c.listable.ensures
