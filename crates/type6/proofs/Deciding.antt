-- What writing to a Type 6 tag answers before the list is laid, by the code's container.
-- Assumes nothing.
use mathlib.Core.Path.{◌≡◌, sym, ap, ◌∙◌}
use mathlib.Core.List.{List}
use Prim.Native.Nat.{ℕ}
use lib.ListN.{length}
use Rattle.tag.specs.Checks.{fine, fault, first_of}
use Rattle.tag.specs.Reading.{Report, reads}
use Rattle.tag.specs.TagType.{refused_write, written, checks_of, planned, writing_by, writing}
use Rattle.tag.proofs.Checks.{fine-all}
use Rattle.tag.proofs.Deciding as tag
use Rattle.type6.specs.declared.container.Container.{Container}
use Rattle.type6.specs.Container.{file_at, capacity, nlen, checks, may_write}
use Rattle.type6.specs.Message.{report_of, reading}
use Rattle.type6.specs.Update.{plan}
use Rattle.type6.specs.Type6.{type6}
use Rattle.type6.specs.Views.Container.{Readable}
use Rattle.type6.specs.Views.Space.{space_checks}
use Rattle.type6.proofs.Message.{unread, passes-reads, reads-writable, reads-capacity}

module _ (i m : List ℕ) where
  pub writing-unread : (r : ℕ) → first_of (checks i) ≡ fault r → writing type6 i m ≡ refused_write r
  writing-unread r e = tag.writing-unread type6 i m r (unread i r e)

  module _ (c : Container) (known : Readable i c) where
    reads_as : reading i ≡ reads (report_of (may_write i) (capacity i) (file_at i) i (nlen i))
    reads_as = passes-reads i (fine-all (checks i) known.passes)

    left_is : (p : Report) → reading i ≡ reads p → first_of (space_checks c (length m)) ≡ first_of (checks_of type6 i m p)
    left_is p q =
        let s = known.known.says in
        rw (reads-writable i p q, reads-capacity i p q, s.writable_is, s.size_is, s.capacity_is)

    pub writing-refused : (r : ℕ) → first_of (space_checks c (length m)) ≡ fault r → writing type6 i m ≡ refused_write r
    unfolding writing
    writing-refused r e = ap (writing_by type6 i m) reads_as ∙ ap (planned (plan i m)) (sym (left_is _ reads_as) ∙ e)

    pub writing-planned : first_of (space_checks c (length m)) ≡ fine → writing type6 i m ≡ written (plan i m)
    unfolding writing
    writing-planned e = ap (writing_by type6 i m) reads_as ∙ ap (planned (plan i m)) (sym (left_is _ reads_as) ∙ e)
