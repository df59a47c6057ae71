use Rattle.std.proofs.Common.{◌≡◌, ◌++◌, sym, ap, ◌∙◌, ◌+◌, ◌-◌, ◌*◌, min, length, take, drop, arith, rules}
use Rattle.tag.proofs.Filling.{three-laid}
use Rattle.type3_list.specs.Views.Listing.{attribute_command, message_commands, shut_command}
use Rattle.type3_list.specs.Views.Laid.{laid, laid_length}
use Rattle.type3_list.proofs.AttributeInformation.{length-shut}
use Rattle.type3_list.proofs.Dealing.{length-commands}
use Rattle.type3_list.proofs.WriteList.put_list.Goals as goal

pub returns : goal.returns
returns c =
    let s = c.args.self.now in
    let i = s.image.now in
    let m = s.message.now in
    let bs = s.blocks.now in
    let list = c.args.list.now in
    let shut = c.put_shut-shut in
    let middle = c.put_commands in
    let closed = shut_command s.idm i s.information.ln s.information.busy in
    let body = message_commands s.idm m s.width bs s.turns in
    let opened = attribute_command s.idm i 0x00 (length m) in
    let most : min (s.width * s.turns) (length bs) ≡ length bs = omega (arith, s.dealt.enough) in
    let total : shut.result + middle.result + 31 ≡ laid_length s = omega (arith, shut.ensures.next, middle.ensures.next) in
    three-laid list shut.new.out closed body middle.new.out shut.result middle.result 31
    (shut.ensures.puts ∙ ap (λ k. closed ++ drop k list) (sym shut.ensures.next))
    (search rules)
    (length-shut s.idm i s.information.ln s.information.busy s.eight ∙ sym shut.ensures.next)
    (length-commands s.idm m s.width bs s.turns s.eight ∙ ap (λ k. 13 * s.turns + 18 * k) most ∙ sym middle.ensures.next)
    (omega (arith, shut.ensures.next, middle.ensures.next, c.requires))
    (middle.ensures.puts ∙ ap (λ k. body ++ drop k (take (length shut.new.out - shut.result) (drop shut.result shut.new.out))) (sym middle.ensures.next))
    opened c.put_attribute_command.new.out c.put_attribute_command.ensures
    ∙ ap (λ k. laid s ++ drop k list) total
