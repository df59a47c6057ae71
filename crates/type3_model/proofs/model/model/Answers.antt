-- Each answer binds its own names: its facts `c` are of a type of their own, and a lemma would take each of them as an argument.
use Rattle.std.proofs.Common.{length, sym, ap, ◌∙◌, rules}
use Rattle.tag.specs.Bytes.{byte}
use Rattle.tag.specs.Stores.{tag_after}
use Rattle.tag.specs.Answers.{storing_of}
use Rattle.tag.specs.Model.{image_after}
use Rattle.type3.specs.AttributeInformation.{nmaxb_of}
use Rattle.type3.specs.Codec.{decode, command_of}
use Rattle.type3_commands.specs.Views.Framing.{is_command}
use Rattle.type3_model.proofs.Modelling.{decode-by, malformed-is, model-refused, model-malformed, model-stored}
use Rattle.type3_model.proofs.model.model.Goals as goal

pub returns-in_err-information : goal.returns-in_err-information
returns-in_err-information c =
    let a = c.args in
    let i = a.image.now in
    let e = model-refused a.idm.now i a.command.now _ (sym c.in_err-information.ensures.is) in
    (search rules ∙ sym (ap storing_of e), sym (ap (image_after i) e))

pub returns-then-not-take_command : goal.returns-then-not-take_command
returns-then-not-take_command c =
    let a = c.args in
    let i = a.image.now in
    let said = c.in_ok-information.information in
    let known = c.in_ok-information.ensures.known in
    let k = known.known in
    let t = c.take_command.ensures in
    let e = decode-by (length i) a.idm.now said.nbw said.nmaxb a.command.now i k.says.nbw_is k.says.nmaxb_is k.reach in
    let q = ap is_command (sym e) ∙ sym t.is ∙ c.if-not-take_command.true in
    let m = model-malformed a.idm.now i a.command.now known.passes q in (
      sym (ap storing_of m),
      t.stored
          ∙ ap (λ d. tag_after i (command_of d)) e
          ∙ ap (tag_after i) (malformed-is (decode a.idm.now (byte i 2) (nmaxb_of i) a.command.now) q)
          ∙ sym (ap (image_after i) m),
    )

pub returns : goal.returns
returns c =
    let a = c.args in
    let i = a.image.now in
    let said = c.in_ok-information.information in
    let known = c.in_ok-information.ensures.known in
    let k = known.known in
    let t = c.take_command.ensures in
    let e = decode-by (length i) a.idm.now said.nbw said.nmaxb a.command.now i k.says.nbw_is k.says.nmaxb_is k.reach in
    let m = model-stored a.idm.now i a.command.now known.passes (ap is_command (sym e) ∙ sym t.is ∙ c.if-not-take_command.false) in
    (sym (ap storing_of m), t.stored ∙ ap (λ d. tag_after i (command_of d)) e ∙ sym (ap (image_after i) m))
