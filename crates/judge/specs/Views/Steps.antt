-- One step of the judge: the answer about the next command of a list.
-- Assumes nothing.
use Rattle.std.specs.Prelude.{List, ℕ, cond, Result, Ok, Err}
use Rattle.tag.specs.declared.refusals.Refusal as refusals
use Rattle.tag.specs.declared.refusals.Refusal.TheVariants.{MalformedCommand, ProtectedByte, Misread}
use Rattle.tag.specs.Stores.{Command, formed, tag_after}
use Rattle.tag.specs.TagType.{TagType, held}
use Rattle.tag.specs.Judge.{is_safe, keeps, task}

-- the command is given to the tag j: 20, 21 and 22, in this order
abbrev pub tested : TagType → List ℕ → List ℕ → List ℕ → Command → Result (Unit {0}) refusals.Refusal
tested T i m j c =
    cond (formed c)
    (cond (keeps (task T i m) (tag_after j c)) (cond (is_safe (task T i m) (held T (tag_after j c))) (Ok tt) (Err Misread)) (Err ProtectedByte))
    (Err MalformedCommand)
