-- Blocks of two lengths differ; blocks of four bytes are compared as arrays.
use Rattle.std.proofs.Common.{sym, ◌∙◌}
use Rattle.tag.proofs.Same.{same-lengths}
use Rattle.one_block_write.proofs.Ends.{compared}
use Rattle.one_block_write.proofs.between.same_block.Goals as goal

pub returns-then-a-b : goal.returns-then-a-b
returns-then-a-b c = sym (same-lengths c.args.a.now c.args.b.now c.if-a-b.true)

pub returns-in-4 : goal.returns-in-4
returns-in-4 c =
    c.eq.ensures
    ∙ compared c.args.a.now c.args.b.now (λ h. h c.in-4.is) (λ h. h (sym c.if-a-b.false ∙ c.in-4.is)) (λ x i. i.same) (λ x i. i.same)
    c.as_array.result c.as_array-in-4.result c.as_array.ensures.cases c.as_array-in-4.ensures.cases
