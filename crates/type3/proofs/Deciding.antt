-- What writing to a Type 3 tag answers before the list is laid, by the code's attribute information.
-- Assumes nothing.
use mathlib.Core.Path.{◌≡◌, refl, sym, ap, ◌∙◌}
use mathlib.Core.Bool.{Bool, true, false, not}
use mathlib.Core.List.{List, [], ◌∷◌}
use Prim.Native.Nat.{ℕ}
use lib.Dec.{leb, eqb}
use lib.ListN.{length}
use Rattle.tag.specs.Refusals.{empty_message, not_writable, block_too_small, message_too_long}
use Rattle.tag.specs.Checks.{check, fine, fault, first_of}
use Rattle.tag.specs.Reading.{Report, reads}
use Rattle.tag.specs.TagType.{refused_write, written, checks_of, planned, writing_by, writing}
use Rattle.tag.proofs.Deciding as tag
use Rattle.type3.specs.declared.read.AttributeInformation.{AttributeInformation}
use Rattle.type3.specs.AttributeInformation.{capacity, attribute_information, attribute_checks, may_write}
use Rattle.type3.specs.Message.{reading}
use Rattle.type3.specs.Update.{plan}
use Rattle.type3.specs.Type3.{type3}
use Rattle.type3.specs.Views.AttributeInformation.{Readable}
use Rattle.type3.specs.Views.Space.{space_checks}
use Rattle.type3.proofs.Message.{unread, passes-reads, reads-writable, reads-capacity}

module _ (idm i m : List ℕ) where
  pub writing-unread : (r : ℕ) → first_of (attribute_checks (length i) (attribute_information i)) ≡ fault r → writing (type3 idm) i m ≡ refused_write r
  writing-unread r e = tag.writing-unread (type3 idm) i m r (unread i r e)

  module _ (a : AttributeInformation) (known : Readable i a) where
    -- no block of a Type 3 tag is too small
    left_is : (p : Report) → reading i ≡ reads p → first_of (space_checks a (length m)) ≡ first_of (checks_of (type3 idm) i m p)
    left_is p q =
        let s = known.known.says in
        rw (reads-writable i p q, reads-capacity i p q, s.writable_is, s.nmaxb_is) (go (eqb (length m) 0) (may_write i) (leb (length m) (capacity i)))
      where
        go : (none may room : Bool)
            → first_of (check (not none) empty_message ∷ check may not_writable ∷ check room message_too_long ∷ [])
            ≡ first_of (check (not none) empty_message ∷ check may not_writable ∷ check true block_too_small ∷ check room message_too_long ∷ [])
        go true may room = refl
        go false false room = refl
        go false true false = refl
        go false true true = refl

    writing-by : writing (type3 idm) i m ≡ planned (plan i m) (first_of (space_checks a (length m)))
    unfolding writing
    writing-by =
        let (p, q) = passes-reads i known.passes in
        ap (writing_by (type3 idm) i m) q ∙ ap (planned (plan i m)) (sym (left_is p q))

    pub writing-refused : (r : ℕ) → first_of (space_checks a (length m)) ≡ fault r → writing (type3 idm) i m ≡ refused_write r
    writing-refused r e = writing-by ∙ ap (planned (plan i m)) e

    pub writing-planned : first_of (space_checks a (length m)) ≡ fine → writing (type3 idm) i m ≡ written (plan i m)
    writing-planned e = writing-by ∙ ap (planned (plan i m)) e
