-- The tag as a model, by the tests that the code makes: what was located, and whether the command is well formed.
-- Assumes nothing.
use mathlib.Core.Path.{◌≡◌, refl, sym, ap, ◌∙◌}
use mathlib.Core.Bool.{Bool, true, false}
use mathlib.Core.List.{List, [], ◌∷◌}
use Prim.Native.Nat.{ℕ, ◌*◌, ◌/◌}
use lib.ListN.{length, drop}
use Rattle.tag.specs.Bytes.{byte}
use Rattle.tag.specs.Refusals.{malformed_command}
use Rattle.tag.specs.Stores.{malformed, stores, formed, tag_after}
use Rattle.tag.specs.Views.Judging.{Applied}
use Rattle.tag.specs.Answers.{refuses_one, storing_of}
use Rattle.tag.specs.Model.{image_after, refused_storing, stored, given, model_by, model}
use Rattle.tlv_tag.specs.Message.{refuse, located, locate}
use Rattle.type2.specs.Memory.{memory}
use Rattle.type2.specs.Codec.{well_formed, decode, command_of}
use Rattle.type2.specs.Type2.{type2}
use Rattle.type2.proofs.Reading.{reading_refused, reading_located}
use Rattle.type2.proofs.Encoding.{decode-formed, decode-malformed}

-- ---- commands by their form

pub command_malformed : (i bs : List ℕ) → well_formed (length i / 4) bs ≡ false → type2.command i bs ≡ malformed
command_malformed i bs e = ap command_of (decode-malformed (length i / 4) bs e)

pub command_formed : (i bs : List ℕ) → well_formed (length i / 4) bs ≡ true
    → type2.command i bs ≡ stores (record { at = 4 * byte bs 1; bytes = drop 2 bs } ∷ [])
command_formed i bs e = ap command_of (decode-formed (length i / 4) bs e)

-- a command taken by a tag of the same length as the one handed in
pub applied : (i j bs : List ℕ) → length j ≡ length i → (r : Bool) (after : List ℕ)
    → r ≡ well_formed (length j / 4) bs → after ≡ tag_after j (type2.command j bs) → Applied type2 i j bs r after
applied i j bs size r after e f = (
  e ∙ ap (λ n. well_formed (n / 4) bs) size ∙ go (well_formed (length i / 4) bs) refl,
  f ∙ ap (λ n. tag_after j (command_of (decode (n / 4) bs))) size,
)
  where
    go : (b : Bool) → well_formed (length i / 4) bs ≡ b → b ≡ formed (type2.command i bs)
    go true q = sym (ap formed (command_formed i bs q))
    go false q = sym (ap formed (command_malformed i bs q))

-- ---- the three answers

module _ (i bs : List ℕ) where
  model_unread : {r : ℕ} → refuse r ≡ locate memory i → model type2 i bs ≡ refused_storing r
  model_unread e = ap (λ v. model_by i v (type2.command i bs)) (reading_refused i e)

  pub unread_answer : {r : ℕ} → refuse r ≡ locate memory i → storing_of (model type2 i bs) ≡ refuses_one r
  unread_answer e = ap storing_of (model_unread e)

  pub unread_image : {r : ℕ} → refuse r ≡ locate memory i → image_after i (model type2 i bs) ≡ i
  unread_image e = ap (image_after i) (model_unread e)

  model-given : {us ms : List ℕ} → located us ms ≡ locate memory i → model type2 i bs ≡ given i (type2.command i bs)
  model-given e = ap (λ v. model_by i v (type2.command i bs)) (reading_located i e)

  pub model_malformed : {us ms : List ℕ} → located us ms ≡ locate memory i → well_formed (length i / 4) bs ≡ false → model type2 i bs ≡ refused_storing malformed_command
  model_malformed e f = model-given e ∙ ap (given i) (command_malformed i bs f)

  pub model_stored : {us ms : List ℕ} → located us ms ≡ locate memory i → well_formed (length i / 4) bs ≡ true
      → model type2 i bs ≡ stored (tag_after i (type2.command i bs))
  model_stored e f = model-given e ∙ rw (command_formed i bs f)

pub ruleset by_test = (command_malformed, unread_answer, unread_image, model_malformed, model_stored)
