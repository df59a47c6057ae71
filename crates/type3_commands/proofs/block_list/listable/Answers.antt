use Rattle.std.proofs.Common.{sym, ◌∙◌, map, arith}
use Rattle.type3_commands.proofs.Rising.{rising-listable}
use Rattle.type3_commands.proofs.block_list.listable.Goals as goal

pub returns-then-rises : goal.returns-then-rises
returns-then-rises g c =
    let most = c.min.result in
    let a = c.args in
    c.if-rises.true
    ∙ sym (rising-listable a.nmaxb most 0 (map g.T.Numbered.number a.blocks.now) (sym c.rises.ensures ∙ c.if-rises.true) (omega (arith, c.min.ensures)) (omega (arith, c.min.ensures)))
