use Rattle.std.proofs.Common.{◌∷◌, [], ap, ◌∙◌, arith}
use lib.Seq.{sets}
use Rattle.tag.proofs.Storing.{both_laid}
use Rattle.type6_write.proofs.blocks.BlocksBlockUpdate.put_command.Goals as goal

pub returns : goal.returns
returns c =
    let a = c.args in
    c.store-2.ensures ∙ ap (λ t. sets t 3 a.held.now) c.store.ensures ∙ both_laid (0x02 ∷ 0x21 ∷ a.block.0 ∷ []) a.held.now a.command.now (omega arith)
