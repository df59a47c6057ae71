use Rattle.std.proofs.Common.{◌≡◌, ◌-◌, ◌*◌, arith, sym, ap, ◌∙◌, length, drop, length-drop}
use Rattle.std.proofs.lemmas.List.Edits.{sets}
use lib.Seq.{take_all}
use Rattle.tag.specs.Bytes.{byte}
use Rattle.tag.specs.Stores.{tag_after}
use Rattle.type6.proofs.Encoding.{stored-bounds}
use Rattle.type6.proofs.Modelling.{command-malformed, command-formed}
use Rattle.type6.proofs.model.take_command.Goals as goal

pub returns-then-not-is_command-clause-stored : goal.returns-then-not-is_command-clause-stored
returns-then-not-is_command-clause-stored c =
    let a = c.args in
    sym (ap (tag_after a.image.now) (command-malformed a.size a.blocks a.command.now (sym c.if-not-is_command.ensures)))

pub store-requires : goal.store-requires
store-requires c =
    let a = c.args in
    let bs = a.command.now in
    let b = stored-bounds a.size a.blocks bs (sym c.if-not-is_command.ensures) in
    let at : c.address-at.result.0 ≡ a.size * byte bs 2 = c.address-at.ensures ∙ ap (λ k. a.size * k) c.from.ensures in
    omega (arith, at, b.long, b.inside, length-drop 3 bs, c.requires)

pub returns-clause-stored : goal.returns-clause-stored
returns-clause-stored c =
    let a = c.args in
    let bs = a.command.now in
    let w = sym c.if-not-is_command.ensures in
    let b = stored-bounds a.size a.blocks bs w in
    let at : c.address-at.result.0 ≡ a.size * byte bs 2 = c.address-at.ensures ∙ ap (λ k. a.size * k) c.from.ensures in
    c.store.ensures
    ∙ ap (sets a.image.now c.address-at.result.0) (take_all (length bs - 3) (drop 3 bs) (omega (arith, length-drop 3 bs)))
    ∙ ap (λ k. sets a.image.now k (drop 3 bs)) at
    ∙ sym (ap (tag_after a.image.now) (command-formed a.size a.blocks bs w))
