-- Commands given to a tag: which the code takes, and what the model answers.
-- Assumes nothing.
use mathlib.Core.Path.{◌≡◌, refl, sym, ap, ◌∙◌}
use mathlib.Core.Bool.{Bool, true, false}
use mathlib.Core.List.{List}
use Prim.Native.Nat.{ℕ, ◌+◌, ◌*◌, ◌/◌, ◌<◌, ◌≤◌}
use native.Mathlib.Omega.{arith}
use borrow.Author.Tests.{lt-ltb}
use lib.ListN.{length}
use Rattle.tag.specs.Bytes.{byte}
use Rattle.tag.specs.Refusals.{malformed_command}
use Rattle.tag.specs.Checks.{fine, fault, first_of}
use Rattle.tag.specs.Stores.{Store, malformed, stores, formed, tag_after}
use Rattle.tag.specs.Views.Judging.{Applied}
use Rattle.tag.specs.Model.{refused_storing, stored, given, model_by, model}
use Rattle.tag.proofs.Logic.{true-false}
use Rattle.type3.specs.AttributeInformation.{nmaxb_of, attribute_information, attribute_checks}
use Rattle.type3.specs.Codec.{Decoded, undecoded, decoded, decode, stores_of, command_of}
use Rattle.type3.specs.Type3.{type3}
use Rattle.type3_commands.specs.Views.Framing.{is_command}
use Rattle.type3_model.specs.Views.Model.{decode_for}
use Rattle.type3.proofs.Message.{unread, passes-reads}

-- ---- which commands are taken

module _ (n : ℕ) (idm : List ℕ) (nbw nmaxb : ℕ) (bytes : List ℕ) where
  decode-inside : nmaxb < n / 16 → decode_for n idm nbw nmaxb bytes ≡ decode idm nbw nmaxb bytes
  decode-inside l = rw (lt-ltb nmaxb (n / 16) l)

  -- with Nbw and Nmaxb of a tag whose blocks 0 to Nmaxb lie in the image
  pub decode-by : (i : List ℕ) → nbw ≡ byte i 2 → nmaxb ≡ nmaxb_of i → 16 * (1 + nmaxb) ≤ n
      → decode_for n idm nbw nmaxb bytes ≡ decode idm (byte i 2) (nmaxb_of i) bytes
  decode-by i p q l =
      decode-inside (omega arith) ∙ ap (λ x. decode idm x nmaxb bytes) p ∙ ap (λ x. decode idm (byte i 2) x bytes) q

-- ---- a command by whether it decodes

pub malformed-is : (d : Decoded) → is_command d ≡ false → command_of d ≡ malformed
malformed-is (undecoded r) q = refl
malformed-is (decoded bs bytes) q = absurd (true-false refl q)

pub some-command : (d : Decoded) → is_command d ≡ true → (ss : List Store) × (command_of d ≡ stores ss)
some-command (undecoded r) q = absurd (true-false q refl)
some-command (decoded bs bytes) q = (stores_of bs bytes, refl)

formed-is : (d : Decoded) → formed (command_of d) ≡ is_command d
formed-is (undecoded r) = refl
formed-is (decoded bs bytes) = refl

-- a command applied to a tag j as long as the tag i handed in, with Nbw and Nmaxb of i
pub applied : (idm i j bytes : List ℕ) → length j ≡ length i → (nbw nmaxb : ℕ) → nbw ≡ byte i 2 → nmaxb ≡ nmaxb_of i → 16 * (1 + nmaxb) ≤ length i
    → (r : Bool) (after : List ℕ) → r ≡ is_command (decode_for (length j) idm nbw nmaxb bytes)
    → after ≡ tag_after j (command_of (decode_for (length j) idm nbw nmaxb bytes)) → Applied (type3 idm) i j bytes r after
applied idm i j bytes size nbw nmaxb p q reach r after e f =
    let by : decode_for (length j) idm nbw nmaxb bytes ≡ decode idm (byte i 2) (nmaxb_of i) bytes =
    decode-by (length j) idm nbw nmaxb bytes i p q (omega arith) in (
      e ∙ ap is_command by ∙ sym (formed-is (decode idm (byte i 2) (nmaxb_of i) bytes)),
      f ∙ ap (λ d. tag_after j (command_of d)) by,
    )

-- ---- the three answers of the model

module _ (idm i bytes : List ℕ) where
  abbrev d : Decoded
  d = decode idm (byte i 2) (nmaxb_of i) bytes

  pub model-refused : (r : ℕ) → first_of (attribute_checks (length i) (attribute_information i)) ≡ fault r → model (type3 idm) i bytes ≡ refused_storing r
  model-refused r e = ap (λ v. model_by i v (command_of d)) (unread i r e)

  model-given : first_of (attribute_checks (length i) (attribute_information i)) ≡ fine → model (type3 idm) i bytes ≡ given i (command_of d)
  model-given e = ap (λ v. model_by i v (command_of d)) (passes-reads i e).1

  pub model-malformed : first_of (attribute_checks (length i) (attribute_information i)) ≡ fine → is_command d ≡ false → model (type3 idm) i bytes ≡ refused_storing malformed_command
  model-malformed e q = model-given e ∙ ap (given i) (malformed-is d q)

  pub model-stored : first_of (attribute_checks (length i) (attribute_information i)) ≡ fine → is_command d ≡ true → model (type3 idm) i bytes ≡ stored (tag_after i (command_of d))
  model-stored e q =
      let (ss, p) = some-command d q in
      model-given e ∙ rw p
