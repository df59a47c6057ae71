use Rattle.std.proofs.Common.{◌≡◌, rules, arith, refl}
use Rattle.uri.specs.Prefixes.{codes, prefixes}
use Rattle.uri.specs.Payload.{longest_of, begins}
use Rattle.uri.proofs.Choosing.{longest_inside, best_new, best_not_longer, best_no_beginning}
use Rattle.uri.proofs.Table.{entry}
use Rattle.uri.proofs.shorten.longest.Goals as goal
use Rattle.uri.proofs.shorten.longest.Goals.{then-prefix-len+then-starts_with, else-prefix-len, else-prefix-len-via-then-prefix-len+else-starts_with, else-prefix-len-via-else-prefix-len}

pub loop-code-init : goal.loop-code-init
unfolding longest_of prefixes
loop-code-init c = (refl, refl)

pub loop-code-preserved : goal.loop-code-preserved
unfolding prefixes begins
loop-code-preserved c =
    let l = c.loop-code in
    elim c.if-prefix-len.branch [
      | then-prefix-len+then-starts_with w ↦
          rw (w.best-is, w.len-is) (best_new l.code c.args.uri.now l.best l.len l.invariant _ (search (rules, entry)) w.if-prefix-len.true (search rules))
      | else-prefix-len w ↦ rw (w.best-is, w.len-is) (elim w.else-prefix-len.branch [
        | else-prefix-len-via-then-prefix-len+else-starts_with w' ↦ best_no_beginning l.code c.args.uri.now l.best l.len l.invariant _ (search (rules, entry)) w'.if-prefix-len.true (search rules)
        | else-prefix-len-via-else-prefix-len w' ↦ best_not_longer l.code c.args.uri.now l.best l.len l.invariant _ (search (rules, entry)) w'.if-prefix-len.false
      ])
    ]

pub returns-clause-inside : goal.returns-clause-inside
returns-clause-inside c =
    let all : c.loop-code.code ≡ codes = omega arith in
    omega (arith, rw all at c.loop-code.invariant.1, longest_inside c.args.uri.now)
