-- Commands given to a Type 6 tag: which the code takes, and what the model answers.
-- Assumes nothing.
use mathlib.Core.Path.{◌≡◌, sym, ap, ◌∙◌}
use mathlib.Core.Bool.{Bool, true, false}
use mathlib.Core.List.{List, [], ◌∷◌}
use Prim.Native.Nat.{ℕ, ◌*◌}
use lib.ListN.{drop}
use Rattle.tag.specs.Bytes.{byte}
use Rattle.tag.specs.Refusals.{positioned, malformed_command}
use Rattle.tag.specs.Checks.{fine, fault, first_of}
use Rattle.tag.specs.Stores.{malformed, stores, formed, tag_after}
use Rattle.tag.specs.Views.Judging.{Applied}
use Rattle.tag.specs.Answers.{refuses_one, storing_of}
use Rattle.tag.specs.Model.{image_after, refused_storing, stored, given, model_by, model}
use Rattle.tag.proofs.Checks.{fine-all}
use Rattle.type6.specs.declared.container.Container.{Container}
use Rattle.type6.specs.Container.{tag_block_size, block_count, checks}
use Rattle.type6.specs.Codec.{well_formed, undecoded, decoded, decode, command_of}
use Rattle.type6.specs.Type6.{command_by, type6}
use Rattle.type6.specs.Views.Container.{Readable}
use Rattle.type6.proofs.Message.{unread, passes-reads}

-- ---- commands by their form

module _ (z blocks : ℕ) (bs : List ℕ) where
  pub decode-formed : well_formed z blocks bs ≡ true → decode z blocks bs ≡ decoded (byte bs 2) (drop 3 bs)
  unfolding decode
  decode-formed h = rw h

  pub decode-malformed : well_formed z blocks bs ≡ false → decode z blocks bs ≡ undecoded (positioned malformed_command 0)
  unfolding decode
  decode-malformed h = rw h

  pub command-formed : well_formed z blocks bs ≡ true → command_by z blocks bs ≡ stores (record { at = z * byte bs 2; bytes = drop 3 bs } ∷ [])
  command-formed e = ap (command_of z) (decode-formed e)

  pub command-malformed : well_formed z blocks bs ≡ false → command_by z blocks bs ≡ malformed
  command-malformed e = ap (command_of z) (decode-malformed e)

  formed-is : (b : Bool) → well_formed z blocks bs ≡ b → b ≡ formed (command_by z blocks bs)
  formed-is true q = sym (ap formed (command-formed q))
  formed-is false q = sym (ap formed (command-malformed q))

  -- a command taken by a tag j, with the block size and the number of blocks of the tag i handed in
  pub applied : (i j : List ℕ) → z ≡ tag_block_size i → blocks ≡ block_count i → (r : Bool) (after : List ℕ)
      → r ≡ well_formed z blocks bs → after ≡ tag_after j (command_by z blocks bs) → Applied type6 i j bs r after
  applied i j p q r after e f =
      let by : command_by z blocks bs ≡ command_by (tag_block_size i) (block_count i) bs = ap (λ x. command_by x blocks bs) p ∙ ap (λ x. command_by (tag_block_size i) x bs) q in
      (formed-is r (sym e) ∙ ap formed by, f ∙ ap (tag_after j) by)

-- ---- the three answers of the model

module _ (i bs : List ℕ) where
  pub model-refused : (r : ℕ) → first_of (checks i) ≡ fault r → model type6 i bs ≡ refused_storing r
  model-refused r e = ap (λ v. model_by i v (type6.command i bs)) (unread i r e)

  model-given : first_of (checks i) ≡ fine → model type6 i bs ≡ given i (type6.command i bs)
  model-given e = ap (λ v. model_by i v (type6.command i bs)) (passes-reads i (fine-all (checks i) e))

  module _ (z blocks : ℕ) (p : z ≡ tag_block_size i) (q : blocks ≡ block_count i) (e : first_of (checks i) ≡ fine) where
    by : command_by z blocks bs ≡ type6.command i bs
    by = ap (λ x. command_by x blocks bs) p ∙ ap (λ x. command_by (tag_block_size i) x bs) q

    pub model-malformed : well_formed z blocks bs ≡ false → model type6 i bs ≡ refused_storing malformed_command
    model-malformed w = model-given e ∙ ap (given i) (sym by ∙ command-malformed z blocks bs w)

    pub model-stored : well_formed z blocks bs ≡ true → model type6 i bs ≡ stored (tag_after i (command_by z blocks bs))
    model-stored w =
        let f = command-formed z blocks bs w in
        model-given e ∙ ap (given i) (sym by ∙ f) ∙ ap (λ c. stored (tag_after i c)) (sym f)

-- ---- the same, as the search takes them: by the refusal, or by the container that was read

module _ (i bs : List ℕ) where
  pub unread_answer : {r : ℕ} → first_of (checks i) ≡ fault r → storing_of (model type6 i bs) ≡ refuses_one r
  unread_answer {r} e = ap storing_of (model-refused i bs r e)

  pub unread_image : {r : ℕ} → first_of (checks i) ≡ fault r → image_after i (model type6 i bs) ≡ i
  unread_image {r} e = ap (image_after i) (model-refused i bs r e)

  pub read_malformed : {c : Container} → Readable i c → well_formed c.size c.blocks bs ≡ false → model type6 i bs ≡ refused_storing malformed_command
  read_malformed {c} k w = model-malformed i bs c.size c.blocks k.known.says.size_is k.known.says.blocks_are k.passes w

  pub read_stored : {c : Container} → Readable i c → well_formed c.size c.blocks bs ≡ true
      → model type6 i bs ≡ stored (tag_after i (command_by c.size c.blocks bs))
  read_stored {c} k w = model-stored i bs c.size c.blocks k.known.says.size_is k.known.says.blocks_are k.passes w

pub ruleset by_test = (command-malformed, unread_answer, unread_image, read_malformed, read_stored)
