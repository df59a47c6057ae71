use Rattle.std.proofs.Common.{replicate, map, ◌∙◌, ap, sym, [], arith, set}
use Rattle.std.proofs.lemmas.List.{get_or-map, take_all, length-map}
use Rattle.tag.specs.Bytes.{byte, overwrite}
use Rattle.type3_commands.specs.Views.InPlace.{number}
use Rattle.type3_commands.proofs.BlockLists.{numbers-more}
use Rattle.type3_commands.proofs.block_list.numbers.Goals as goal

pub loop-i-preserved : goal.loop-i-preserved
loop-i-preserved c =
    let l = c.loop-i in
    let all = map number c.args.elements.now in
    ap (λ n. set l.numbers l.i n) (c.from.ensures ∙ sym (get_or-map number c.args.elements.now l.i [] 0 c.loop-i-test.true))
    ∙ ap (λ t. set t l.i (byte all l.i)) l.invariant
    ∙ numbers-more all (replicate 8 0) l.i (omega (arith, c.loop-i-test.true, length-map c.args.elements.now number))
    (omega (arith, c.requires, length-map c.args.elements.now number))

pub returns : goal.returns
returns c =
    let l = c.loop-i in
    let all = map number c.args.elements.now in
    l.invariant ∙ ap (λ t. overwrite t (replicate 8 0)) (take_all l.i all (omega (arith, c.loop-i-test.false, length-map c.args.elements.now number)))
