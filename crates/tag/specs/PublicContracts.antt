-- The contracts of the public functions, for every type of tag, as relations between a call's arguments and its results. The public
-- functions of each type ensure these relations, and demands 2 and 3 of the code are about any calls that satisfy them.
-- Assumes nothing.
use Rattle.std.specs.Prelude.{◌≡◌, List, ℕ, length, Result}
use Rattle.tag.specs.declared.Report as report
use Rattle.tag.specs.declared.refusals.Refusal as refusals
use Rattle.tag.specs.declared.refusals.Fault as faults
use Rattle.tag.specs.Reading.{Reading, answer_of, gathered_into, shown}
use Rattle.tag.specs.TagType.{TagType, Output, output_into, write}
use Rattle.tag.specs.Judge.{judged}
use Rattle.tag.specs.Model.{model, image_after}
use Rattle.tag.specs.Answers.{read_as, count_of, count_as, verdict_as, storing_of, model_as}

-- a call that reports a reading, given a gathering buffer, answers r and leaves the buffer as out
abbrev pub ReadOf : Reading → List ℕ → Result report.Report refusals.Refusal → List ℕ → Type 0
ReadOf v buffer r out = (read_as r ≡ answer_of (length buffer) v) × (out ≡ gathered_into buffer v)

-- `read`, given a tag and a gathering buffer, answers r and leaves the buffer as out; the first argument is how the type reads
abbrev pub Read : (List ℕ → Reading) → List ℕ → List ℕ → Result report.Report refusals.Refusal → List ℕ → Type 0
Read reading i buffer r out = ReadOf (reading i) buffer r out

-- `shown`, given a tag, the gathered copy and an answer of `read`, returns the part
abbrev pub Showed : List ℕ → List ℕ → Result report.Report refusals.Refusal → List ℕ → Type 0
Showed i gathered r part = part ≡ shown i gathered (read_as r)

-- a call that writes to a buffer the output that o gives for its length answers r and leaves the buffer as out
abbrev pub PutOut : (ℕ → Output) → List ℕ → Result ℕ refusals.Refusal → List ℕ → Type 0
PutOut o buffer r out = (count_as r ≡ count_of (o (length buffer))) × (out ≡ output_into buffer (o (length buffer)))

-- `write`, given a tag, a message and a list buffer, answers r and leaves the buffer as out
abbrev pub Wrote : TagType → List ℕ → List ℕ → List ℕ → Result ℕ refusals.Refusal → List ℕ → Type 0
Wrote T i m buffer r out = PutOut (λ room. write T room i m) buffer r out

-- `judge`, given a tag, a message and the bytes of a list, answers r
abbrev pub Judged : TagType → List ℕ → List ℕ → List ℕ → Result ℕ faults.Fault → Type 0
Judged T i m bytes r = verdict_as r ≡ judged T i m bytes

-- `model`, given a tag and a command, answers r and leaves the tag as j
abbrev pub Took : TagType → List ℕ → List ℕ → Result (Unit {0}) refusals.Refusal → List ℕ → Type 0
Took T i command r j = (model_as r ≡ storing_of (model T i command)) × (j ≡ image_after i (model T i command))
