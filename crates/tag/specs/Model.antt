-- The model: a tag that takes one command a call. It gives reading's refusals except 13, then 20; else it stores the blocks that
-- the command lists, protected or not. A refusal leaves the image as it is.
-- Assumes nothing.
use Rattle.std.specs.Prelude.{List, ℕ}
use Rattle.tag.specs.Refusals.{malformed_command}
use Rattle.tag.specs.Reading.{Reading, unreadable, reads}
use Rattle.tag.specs.Stores.{Command, malformed, stores, puts}
use Rattle.tag.specs.TagType.{TagType}

pub data Modelled : Type 0 where
  refused_storing : ℕ → Modelled
  stored : List ℕ → Modelled

-- a command given to a tag that reads
abbrev pub given : List ℕ → Command → Modelled
given i malformed = refused_storing malformed_command
given i (stores ss) = stored (puts i ss)

abbrev pub model_by : List ℕ → Reading → Command → Modelled
model_by i (unreadable r) c = refused_storing r
model_by i (reads p) c = given i c

-- one call, with the bytes of one command
abbrev pub model : TagType → List ℕ → List ℕ → Modelled
model T i bytes = model_by i (T.reading i) (T.command i bytes)

-- the image after a call
abbrev pub image_after : List ℕ → Modelled → List ℕ
image_after i (refused_storing r) = i
image_after i (stored j) = j
