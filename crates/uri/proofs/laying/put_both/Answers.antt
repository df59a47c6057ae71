use Rattle.std.proofs.Common.{◌≡◌, ◌++◌, ◌≤◌, length, length-append, sym, ap, ◌∙◌, le-leb, arith}
use lib.Seq.{sets}
use Rattle.tag.specs.Answers.{gives}
use Rattle.tag.proofs.Storing.{both_stored}
use Rattle.uri.proofs.laying.put_both.Goals as goal

pub returns : goal.returns
returns c =
    let x = c.args.front.now in
    let y = c.args.rest.now in
    let n = length-append x y in
    let fits : length (x ++ y) ≤ length c.args.out.now = omega (arith, n, c.if-front-out.false, c.if-rest-out.false) in
    rw (le-leb _ _ fits) (ap gives (sym n), c.store-2.ensures ∙ ap (λ t. sets t (length x) y) c.store.ensures ∙ both_stored x y c.args.out.now (omega (arith, n, fits)))
