use Rattle.std.proofs.Common.{◌≡◌, sym, ◌∙◌, length, rules, arith}
use Rattle.type3_commands.proofs.Numbering.{all-numbers}
use Rattle.type3_commands.proofs.block_list.block_numbers.Goals as goal

pub returns : goal.returns
returns c =
    let eight : length c.args.blocks ≡ 8 = search rules in
    all-numbers c.args.blocks c.map.result (c.map.ensures.items.long ∙ sym eight)
    (λ i l. let h = (c.map.ensures.items.at i (record { 0 = 0 }) 0 (omega (arith, eight, l))).2.met in search (rules, h))
