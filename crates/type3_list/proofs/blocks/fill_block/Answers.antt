use Rattle.std.proofs.Common.{◌∙◌, ◌++◌, drop, length, ap, arith}
use Rattle.std.specs.Prelude.{replicate}
use Rattle.type3_list.proofs.MessageBlocks.{short-filled}
use Rattle.type3_list.proofs.blocks.fill_block.Goals as goal

pub returns-then-part-lt-BLOCK_SIZE : goal.returns-then-part-lt-BLOCK_SIZE
returns-then-part-lt-BLOCK_SIZE c =
    let part = c.args.part.now in
    ap (λ x. x ++ drop (length part) (replicate 16 0x00)) c.copy_from_slice.ensures.after ∙ short-filled part (omega arith)
