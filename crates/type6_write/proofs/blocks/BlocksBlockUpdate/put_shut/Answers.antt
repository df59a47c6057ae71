use Rattle.std.proofs.Common.{arith, ap, ◌∙◌, ◌≡◌, ◌+◌, ◌-◌, ◌/◌, ◌∷◌, length, take, drop, length-drop}
use lib.Seq.{length-take-le}
use Rattle.type6_write.proofs.Laying.{zeroed, shut-made}
use Rattle.type6_write.proofs.blocks.BlocksBlockUpdate.put_shut.Goals as goal

pub returns : goal.returns
returns c =
    let u = c.args.self.now in
    let f = u.container.file.0 in
    let z = u.container.size in
    let k : f + z - f ≡ z = omega arith in
    let i = u.image.now in
    let whole : length (take z (drop f i)) ≡ z = length-take-le z (drop f i) (omega (arith, length-drop f i, u.inside)) in
    rw (c.fill.ensures.after, c.put_command.ensures, c.guard.ensures, k)
    (ap (λ held. 0x02 ∷ 0x21 ∷ (f / z) ∷ held) (zeroed (take z (drop f i)) (omega (arith, whole, u.large)) ∙ shut-made i f z u.large))
