use Rattle.std.proofs.Common.{arith, ◌≡◌, ◌+◌, ◌-◌, ◌*◌, ◌/◌, ◌%◌, ◌∷◌, suc, ap, ◌∙◌}
use Rattle.type2_write.proofs.Shutting.{shut-made}
use Rattle.type2_write.proofs.blocks.BlocksBlockUpdate.put_shut.Goals as goal

pub returns : goal.returns
returns c =
    let u = c.args.self.now in
    let at : c.address-at.result.0 ≡ 4 * (u.first.0 / 4) = c.address-at.ensures ∙ ap (λ b. 4 * b) c.guard-guard.ensures in
    let long : 4 * (u.first.0 / 4) + 4 - 4 * (u.first.0 / 4) ≡ 4 = omega arith in
    let place : 2 + u.first.0 % 4 ≡ suc (suc (u.first.0 % 4)) = omega arith in
    rw (c.put_command.ensures, c.guard-guard.ensures, at, long, place) (ap (λ held. 0xA2 ∷ (u.first.0 / 4) ∷ held) (shut-made u.image.now u.first.0))
