use Rattle.std.proofs.Common.{◌≡◌, sym, ◌∙◌, length, rules, arith}
use Rattle.type3_commands.proofs.Numbering.{all-blocks}
use Rattle.type3_commands.proofs.block_list.blocks_of.Goals as goal

pub returns : goal.returns
returns c =
    let eight : length c.args.numbers ≡ 8 = search rules in
    all-blocks c.args.numbers c.map.result (c.map.ensures.items.long ∙ sym eight)
    (λ i l. (c.map.ensures.items.at i 0 (record { 0 = 0 }) (omega (arith, eight, l))).2.met)
