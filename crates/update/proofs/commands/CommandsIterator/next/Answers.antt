use Rattle.std.proofs.Common.{rules, ◌≡◌, ◌<◌, length, ◌∷◌, ap, arith}
use Rattle.tag.specs.TagType.{pieces}
use Rattle.update.proofs.Cutting.{pieces-step, pieces-none}
use Rattle.update.proofs.commands.CommandsIterator.next.Goals as goal
use Rattle.update.proofs.commands.CommandsIterator.next.Given.{Over}

pub returns-then-is_empty-clause-steps : goal.returns-then-is_empty-clause-steps
returns-then-is_empty-clause-steps g c =
    let s = c.args.self.now in
    let none : length s.rest.now ≡ 0 = search rules in
    let e = pieces-none (g.U.Update.tag_type s.update.now) (g.U.Update.image s.update.now) s.rest.now none in
    (e, e)

-- the list begins with the command, and the rest follows
stepped : (g : Over) (c : goal.After-after-2-1 g) → let s = c.args.self.now in let T = g.U.Update.tag_type s.update.now in let i = g.U.Update.image s.update.now in
    pieces T i s.rest.now ≡ c.split_at.result.0.now ∷ pieces T i c.split_at.result.1.now
stepped g c =
    let s = c.args.self.now in
    let some : 0 < length s.rest.now = search rules in
    rw (c.split_at.ensures.front, c.split_at.ensures.back, c.min-size.ensures, c.span.ensures)
    (pieces-step (g.U.Update.tag_type s.update.now) (g.U.Update.image s.update.now) (g.met.U.Update.some_bytes s.update.now) s.rest.now some)

pub returns-clause-steps : goal.returns-clause-steps
returns-clause-steps g c = stepped g c

pub returns-clause-goes : goal.returns-clause-goes
returns-clause-goes g c =
    let shorter = ap length (stepped g c) in
    record { on = λ _. (tt, tt, omega (arith, shorter)); keeps = tt; rests = λ _. tt }
