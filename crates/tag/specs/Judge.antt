-- The judge of command lists, whoever made them, for every type of tag. It tests each command for 20, 21 and 22, in this order, and
-- reports the first command at fault. If none is, and the tag does not read as the message when the list ends, it gives 23.
-- Assumes nothing.
use Rattle.std.specs.Prelude.{Bool, true, false, not, ◌&&◌, ◌||◌, List, [], ◌∷◌, ℕ, zero, suc, eqb, length}
use Rattle.tag.specs.Bytes.{byte, run, same}
use Rattle.tag.specs.Refusals.{malformed_command, protected_byte, misread, unfinished}
use Rattle.tag.specs.Reading.{Held, broken, nothing, holds}
use Rattle.tag.specs.Stores.{Command, malformed, stores, tag_after, states}
use Rattle.tag.specs.Plan.{Plan, protected}
use Rattle.tag.specs.TagType.{TagType, held, Writing, refused_write, written, writing, commands}

-- accepted, with the number of commands; or a refusal and the position of the command, counted from 0
pub data Verdict : Type 0 where
  accepted : ℕ → Verdict
  refused : ℕ → ℕ → Verdict

-- what the judge needs in addition to the list: how tags are read, the tag handed in, the new message, the protected addresses
pub record Task : Type 0 where
  pub held : List ℕ → Held
  pub start : List ℕ
  pub wanted : List ℕ
  pub kept : ℕ → Bool

-- does a tag hold just this message
abbrev pub holds_as : Held → List ℕ → Bool
holds_as broken m = false
holds_as nothing m = false
holds_as (holds x) m = same m x

-- does a tag that holds this read as none, as the new message, or as the old one
abbrev pub reads_as_one_of : List ℕ → Held → Held → Bool
reads_as_one_of new old broken = false
reads_as_one_of new old nothing = true
reads_as_one_of new old (holds x) = same x new || holds_as old x

abbrev pub is_safe : Task → Held → Bool
is_safe t h = reads_as_one_of t.wanted (t.held t.start) h

-- does the tag j have the bytes of i at each of the addresses that the test picks
abbrev pub equal_at : (ℕ → Bool) → List ℕ → List ℕ → List ℕ → Bool
equal_at test i j [] = true
equal_at test i j (a ∷ us) = (not (test a) || eqb (byte j a) (byte i a)) && equal_at test i j us

-- is every protected byte unchanged
abbrev pub keeps : Task → List ℕ → Bool
keeps t j = equal_at t.kept t.start j (run 0 (length t.start))

abbrev pub every : (List ℕ → Bool) → List (List ℕ) → Bool
every test [] = true
every test (x ∷ xs) = test x && every test xs

-- the refusal of a command that is given to the tag j, or 0
unfoldable pub fault : Task → List ℕ → Command → ℕ
fault t j malformed = malformed_command
fault t j (stores ss) =
    elim (every (keeps t) (states j ss)) [
      | false ↦ protected_byte
      | true ↦ elim (every (λ x. is_safe t (t.held x)) (states j ss)) [ false ↦ misread | true ↦ 0 ]
    ]

-- the verdict on the commands from position n on; j is the tag that those before have left
unfoldable pub judge : Task → ℕ → List ℕ → List Command → Verdict
judge t n j [] = elim (holds_as (t.held j) t.wanted) [ true ↦ accepted n | false ↦ refused unfinished n ]
judge t n j (c ∷ cs) = elim (fault t j c) [ zero ↦ judge t (suc n) (tag_after j c) cs | suc r ↦ refused (suc r) n ]

abbrev pub task_of : TagType → List ℕ → List ℕ → Plan → Task
task_of T i m p = record { held = held T; start = i; wanted = m; kept = protected p }

-- what is protected and what is well formed depend on the tag handed in and the new message
abbrev pub task : TagType → List ℕ → List ℕ → Task
task T i m = task_of T i m (T.plan i m)

-- writing's refusals first, with position 0; then the list's commands
abbrev pub judge_by : TagType → List ℕ → List ℕ → List ℕ → Writing → Verdict
judge_by T i m bytes (refused_write r) = refused r 0
judge_by T i m bytes (written p) = judge (task_of T i m p) 0 i (commands T i bytes)

-- the answer of `judge`, for a tag, a message and the bytes of a list
abbrev pub judged : TagType → List ℕ → List ℕ → List ℕ → Verdict
judged T i m bytes = judge_by T i m bytes (writing T i m)
