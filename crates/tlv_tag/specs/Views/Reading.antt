-- The message TLV as the code locates it.
-- Assumes nothing.
use Rattle.std.specs.Prelude.{◌≡◌, List, ℕ, ◌-◌, ◌<◌, ◌≤◌, length, take, Result, Ok, Err}
use Rattle.tag.specs.declared.Content.{Content}
use Rattle.tag.specs.declared.Content.TheVariants.{Message, Empty, BeingWritten}
use Rattle.tag.specs.declared.refusals.Refusal as refusals
use Rattle.tag.specs.Bytes.{run}
use Rattle.tag.specs.Answers.{number_of}
use Rattle.tlv.specs.Areas.{allowed_area}
use Rattle.tlv.specs.Walk.{find}
use Rattle.tlv.specs.declared.walk.Walk.{Walk}
use Rattle.tlv.specs.Views.Walks.{ahead, Within, InTable}
use Rattle.tlv_value.specs.Views.Values.{at, measured}
use Rattle.tlv_tag.specs.declared.read.Located as code
use Rattle.tlv_tag.specs.Message.{Located, refuse, located, locate_from}

-- the data area from first up to end
abbrev pub area_located : List ℕ → ℕ → ℕ → Located
area_located i first end = locate_from i (find (allowed_area first (length i)) (end - first) i (run first (end - first)))

-- how many bytes the value has
abbrev pub size : Content → ℕ
size (Message a n interrupted) = n
size Empty = 0
size BeingWritten = 0

-- the content is that of the first n of the usable addresses us
abbrev pub Held : List ℕ → ℕ → Content → Type 0
Held us n (Message a k interrupted) = (k ≡ n) × (1 ≤ n) × (n ≤ length us) × (at a.0 interrupted ≡ measured n us)
Held us n Empty = n ≡ 0
Held us n BeingWritten = ⊥

-- the addresses of the value
abbrev pub value_addresses : List ℕ → code.Located → List ℕ
value_addresses table l = take (size l.content) (ahead table l.value)

abbrev pub located_as : List ℕ → Result code.Located refusals.Refusal → Located
located_as table (Err e) = refuse (number_of e)
located_as table (Ok l) = located (ahead table l.field) (value_addresses table l)

-- the message TLV lies inside the image and the table, the table is that of the areas before it, and the content is its own
pub record Placed (image table : List ℕ) (l : code.Located) : Type 0 where
  pub in_image : l.field.end.0 ≤ length image
  pub within : Within table l.field
  pub value_within : Within table l.value
  pub same_end : l.value.end.0 ≡ l.field.end.0
  pub some_room : 0 < length (ahead table l.field)
  pub held : Held (ahead table l.value) (size l.content) l.content

-- its value lies inside the image, and inside a table that areas made, and the content is the value's own
pub record ValueHeld (image table : List ℕ) (l : code.Located) : Type 0 where
  pub in_image : l.value.end.0 ≤ length image
  pub in_table : InTable table l.value
  pub held : Held (ahead table l.value) (size l.content) l.content

-- the walk past its type byte is w
abbrev pub LocatedAt : List ℕ → List ℕ → Walk → Result code.Located refusals.Refusal → Type 0
LocatedAt image table w (Err e) = Unit {0}
LocatedAt image table w (Ok l) = Placed image table l × (l.field.at.0 ≡ w.at.0) × (l.field.end.0 ≡ w.end.0)

-- it lies in the data area from first up to end
abbrev pub LocatedPlaced : List ℕ → List ℕ → ℕ → ℕ → Result code.Located refusals.Refusal → Type 0
LocatedPlaced image table first end (Err e) = Unit {0}
LocatedPlaced image table first end (Ok l) = Placed image table l × (first < l.field.at.0) × (l.field.end.0 ≡ end)
