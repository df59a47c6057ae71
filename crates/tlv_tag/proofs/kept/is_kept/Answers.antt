use Rattle.std.proofs.Common.{sym, ap, ◌∙◌, not}
use Rattle.std.proofs.Math.Bool.{not-not}
use Rattle.tlv_tag.proofs.Keeping.{changed-outside, kept-outside, kept-plain}
use Rattle.tlv_tag.proofs.kept.is_kept.Goals as goal
use Rattle.tlv_tag.proofs.kept.is_kept.Goals.{then-extent, else-extent}

pub returns-after-extent : goal.returns-after-extent
returns-after-extent c =
    let a = c.args in
    let whole = kept-outside a.image.now a.work.now a.table.now a.extent c.requires.0 c.requires.1 (sym c.is_kept_outside.ensures ∙ c.if-is_kept_outside.true) in
    elim c.if-extent.branch [
      | then-extent w ↦ rw (whole, w.result-is, w.skipped_changed.ensures) (not-not _)
      | else-extent w ↦
          let plain = kept-plain a.image.now a.work.now a.table.now a.extent c.requires.0 c.requires.1 w.if-extent.false in
          ap not (w.result-is ∙ w.if-extent.false) ∙ sym (whole ∙ plain)
    ]

pub returns-else-is_kept_outside : goal.returns-else-is_kept_outside
returns-else-is_kept_outside c =
    let a = c.args in
    c.if-is_kept_outside.false
    ∙ sym (changed-outside a.image.now a.work.now a.table.now a.extent c.requires.0 c.requires.1 (sym c.is_kept_outside.ensures ∙ c.if-is_kept_outside.false))
