-- What writing answers before the list is laid, for every type of tag: reading's refusal, then that of writing's own tests, else the
-- plan.
-- Assumes nothing.
use mathlib.Core.Path.{◌≡◌, ap, ◌∙◌}
use mathlib.Core.List.{List}
use Prim.Native.Nat.{ℕ}
use Rattle.tag.specs.Checks.{fine, fault, first_of}
use Rattle.tag.specs.Reading.{Report, unreadable, reads}
use Rattle.tag.specs.TagType.{TagType, refused_write, written, checks_of, planned, writing_by, writing}

module _ (T : TagType) (i m : List ℕ) where
  pub writing-unread : (r : ℕ) → T.reading i ≡ unreadable r → writing T i m ≡ refused_write r
  unfolding writing
  writing-unread r e = ap (writing_by T i m) e

  module _ (p : Report) (e : T.reading i ≡ reads p) where
    pub writing-refused : (r : ℕ) → first_of (checks_of T i m p) ≡ fault r → writing T i m ≡ refused_write r
    unfolding writing
    writing-refused r q = ap (writing_by T i m) e ∙ ap (planned (T.plan i m)) q

    pub writing-planned : first_of (checks_of T i m p) ≡ fine → writing T i m ≡ written (T.plan i m)
    unfolding writing
    writing-planned q = ap (writing_by T i m) e ∙ ap (planned (T.plan i m)) q
