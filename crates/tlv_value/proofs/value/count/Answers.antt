use Rattle.std.proofs.Common.{sym, ap, subst, ◌∙◌, ◌-◌, length}
use Rattle.tag.proofs.Runs.{length_run}
use Rattle.tlv.specs.Views.Counted.{TableOf}
use Rattle.tlv.proofs.Counted.{none-declared}
use Rattle.tlv_value.proofs.value.count.Goals as goal

pub returns-then-walk-eq0-clause-is : goal.returns-then-walk-eq0-clause-is
returns-then-walk-eq0-clause-is c =
    let t = c.args.table.now in
    let at = c.args.walk.at.0 in
    let end = c.args.walk.end.0 in
    let none = subst (λ n. TableOf end n t) c.if-walk-eq0.true c.requires.declared in
    sym (ap length (none-declared end t none at (end - at)) ∙ length_run (end - at) at)
