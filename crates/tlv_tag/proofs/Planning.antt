-- Writing is refused exactly as the space for its message is; otherwise its plan is the one for that space.
-- Assumes nothing.
use mathlib.Core.Path.{◌≡◌, refl, ap, ◌∙◌}
use mathlib.Core.Bool.{Bool, true, false, not, cond}
use mathlib.Core.List.{List, [], ◌∷◌}
use Prim.Native.Nat.{ℕ}
use lib.Dec.{leb, eqb}
use lib.ListN.{length}
use Rattle.tag.specs.Stores.{Store, Command}
use Rattle.tag.specs.TagType.{Writing, refused_write, written, writing, planned}
use Rattle.tag.specs.Refusals.{empty_message, not_writable, message_too_long}
use Rattle.tag.specs.Checks.{check, Checked, first_of}
use Rattle.tlv_tag.specs.Message.{TlvTag, Located, refuse, located, locate, capacity_in, reading}
use Rattle.tlv_tag.specs.Update.{usable, plan_by}
use Rattle.tlv_tag.specs.Tag.{tag_of}
use Rattle.tlv_tag.specs.Views.Space.{Space, no_space, space, space_of}
use Rattle.tlv_tag.proofs.Writes.{report-writable, report-capacity}

-- what writing answers, given the space
abbrev pub writing_in : ℕ → List ℕ → List ℕ → Space → Writing
writing_in z i m (no_space r) = refused_write r
writing_in z i m (space us) = written (plan_by z us i m)

-- the three tests in order, as a list and as a choice
in_order : (z : ℕ) (us i m : List ℕ) (e w f : Bool)
    → planned (plan_by z us i m) (first_of (check (not e) empty_message ∷ check w not_writable ∷ check f message_too_long ∷ []))
    ≡ writing_in z i m (cond e (no_space empty_message) (cond w (cond f (space us) (no_space message_too_long)) (no_space not_writable)))
in_order z us i m true w f = refl
in_order z us i m false false f = refl
in_order z us i m false true false = refl
in_order z us i m false true true = refl

module _ (K : TlvTag) (command : List ℕ → List ℕ → Command) (span : List ℕ → List ℕ → ℕ) (encoded : List Store → List ℕ) where
  pub writing-space : (i m : List ℕ) → writing (tag_of K command span encoded) i m ≡ writing_in K.block_size i m (space_of (K.writable i) (length m) (locate K i))
  unfolding writing reading
  writing-space i m = go (locate K i) refl
    where
      go : (v : Located) → locate K i ≡ v → writing (tag_of K command span encoded) i m ≡ writing_in K.block_size i m (space_of (K.writable i) (length m) v)
      go (refuse r) q = rw q
      go (located us ms) q =
          let c = capacity_in (length us) in
          let tests : Checked
          = first_of (check (not (eqb (length m) 0)) empty_message ∷ check (K.writable i) not_writable ∷ check (leb (length m) c) message_too_long ∷ []) in
          rw q (rw (report-writable (K.writable i) c i ms, report-capacity (K.writable i) c i ms)
          (ap (λ vs. planned (plan_by K.block_size vs i m) tests) (ap usable q)
          ∙ in_order K.block_size us i m (eqb (length m) 0) (K.writable i) (leb (length m) c)))
