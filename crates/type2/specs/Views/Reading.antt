-- The message TLV of a Type 2 tag as the code locates it.
-- Assumes nothing.
use Rattle.std.specs.Prelude.{◌≡◌, Bool, List, ℕ, Result, Ok, Err}
use Rattle.tag.specs.declared.refusals.Refusal as refusals
use Rattle.tag.specs.Answers.{number_of}
use Rattle.tlv_tag.specs.declared.read.Located as code
use Rattle.tlv_tag.specs.Message.{Located, refuse}
use Rattle.tlv_tag.specs.Views.Reading as views
use Rattle.tlv_tag.specs.Views.Reading.{Placed}
use Rattle.type2.specs.Memory.{memory}

abbrev pub located_as : List ℕ → Result (code.Located × Bool) refusals.Refusal → Located
located_as table (Err e) = refuse (number_of e)
located_as table (Ok p) = views.located_as table (Ok p.0)

-- it lies inside image and table, and the flag says whether the tag is writable
abbrev pub LocatedHere : List ℕ → List ℕ → Result (code.Located × Bool) refusals.Refusal → Type 0
LocatedHere image table (Err e) = Unit {0}
LocatedHere image table (Ok p) = Placed image table p.0 × (p.1 ≡ memory.writable image)
