use Rattle.std.proofs.Common.{replicate, ◌∙◌, ap, arith, set}
use Rattle.std.proofs.lemmas.List.{take_all}
use Rattle.tag.specs.Bytes.{byte, overwrite}
use Rattle.type3_commands.proofs.BlockLists.{numbers-more}
use Rattle.type3_commands.proofs.commands.padded.Goals as goal

pub loop-k-preserved : goal.loop-k-preserved
loop-k-preserved c =
    let l = c.loop-k in
    let p = c.args.listed.now in
    ap (λ t. set t l.k (byte p.blockdata.now l.k)) l.invariant
    ∙ numbers-more p.blockdata.now (replicate 128 0) l.k (omega (arith, c.loop-k-test.true)) (omega (arith, p.whole, p.few))

pub returns : goal.returns
returns c =
    let l = c.loop-k in
    let p = c.args.listed.now in
    l.invariant ∙ ap (λ t. overwrite t (replicate 128 0)) (take_all l.k p.blockdata.now (omega (arith, c.loop-k-test.false)))
