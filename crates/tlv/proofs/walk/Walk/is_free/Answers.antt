-- No area is declared, so none skips an address.
use Rattle.std.proofs.Common.{sym, ap, subst, ◌∙◌, nat_eq}
use Rattle.tlv.specs.Views.Counted.{TableOf}
use Rattle.tlv.proofs.Counted.{none_free}
use Rattle.tlv.proofs.walk.Walk.is_free.Goals as goal

pub returns-then-self-eq0 : goal.returns-then-self-eq0
returns-then-self-eq0 c =
    let w = c.args.self in
    let none = subst (λ n. TableOf w.end.0 n c.args.table.now) c.if-self-eq0.true c.requires.0.declared in
    ap (λ n. nat_eq n 0) c.if-self-eq0.true ∙ sym (none_free w.end.0 c.args.table.now none w.at.0 c.args.n)
