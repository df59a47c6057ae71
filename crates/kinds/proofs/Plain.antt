-- A tag whose messages are never interrupted is read without a gathering buffer as it is with one.
-- Assumes nothing.
use mathlib.Core.Path.{◌≡◌, sym, ◌∙◌}
use mathlib.Core.Bool.{false}
use mathlib.Core.List.{List, []}
use Prim.Native.Nat.{ℕ}
use lib.ListN.{length}
use Rattle.std.specs.Prelude.{Result}
use Rattle.tag.specs.declared.Report as code
use Rattle.tag.specs.declared.refusals.Refusal as refusals
use Rattle.tag.specs.Reading.{Report, Reading, reads}
use Rattle.tag.specs.PublicContracts.{Read}
use Rattle.tag.proofs.Showing.{plain-answer, plain-buffer}

module _ (reading : List ℕ → Reading) (i buffer : List ℕ) (r : Result code.Report refusals.Refusal) (plain : (p : Report) → reading i ≡ reads p → p.interrupted ≡ false)
    (h : Read reading i [] r []) where
  pub plain-read : Read reading i buffer r buffer
  plain-read = (h.0 ∙ plain-answer (reading i) plain 0 (length buffer), sym (plain-buffer (reading i) plain buffer))
