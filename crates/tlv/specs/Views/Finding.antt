-- The answers of the walk to the message TLV as the definitions have them, and what callers rely on: how far the walk is, and how
-- the skip table has changed.
-- Assumes nothing.
use Rattle.std.specs.Prelude.{◌≡◌, Bool, List, ℕ, ◌<◌, ◌≤◌, length, Option, Result, Ok, Err}
use Rattle.tlv.specs.declared.walk.Walk.{Walk}
use Rattle.tlv.specs.declared.find.Step as code
use Rattle.tlv.specs.declared.find.Step.TheVariants as step
use Rattle.tag.specs.declared.Address.{Address}
use Rattle.tag.specs.declared.refusals.Refusal.{Refusal}
use Rattle.tag.specs.Answers.{number_of}
use Rattle.tlv.specs.Areas.{Area}
use Rattle.tlv.specs.Walk.{Step, on, hit, more, stop, Found, lost, found, find, take_byte}
use Rattle.tlv.specs.Views.Counted.{Declared}
use Rattle.tlv.specs.Views.Walks.{ahead, Walked, taken_as}

-- ---- a step

abbrev pub step_as : List ℕ → code.Step → Step
step_as table (step.On w) = on (more (ahead table w))
step_as table (step.Message a w) = hit a.0 (ahead table w)

abbrev pub stepped_as : List ℕ → Result code.Step Refusal → Step
stepped_as table (Err e) = on (stop (number_of e))
stepped_as table (Ok s) = step_as table s

-- after the type byte at p
abbrev pub TypeStepped : List ℕ → List ℕ → Walk → ℕ → code.Step → Type 0
TypeStepped t u v p (step.On w) = Walked t u v w
TypeStepped t u v p (step.Message a w) = Walked t u v w × (a.0 ≡ p)

abbrev pub TypePlaced : List ℕ → List ℕ → Walk → ℕ → Result code.Step Refusal → Type 0
TypePlaced t u v p (Err e) = u ≡ t
TypePlaced t u v p (Ok s) = TypeStepped t u v p s

-- ---- the next type byte, past NULL TLVs

-- from us on the walk finds what it finds from v on, whatever areas are allowed, and r is the byte taken there
pub record TypeTaken (image table : List ℕ) (v : Walk) (r : Option (ℕ × Address × Walk)) : Type 0 where
  pub us : List ℕ
  pub fewer : length us ≤ length (ahead table v)
  pub same : (allowed : Area → Bool) (fuel : ℕ) → length (ahead table v) ≤ fuel → find allowed fuel image (ahead table v) ≡ find allowed fuel image us
  pub taken : taken_as table r ≡ take_byte image us

-- ---- the message TLV found

-- its type byte's address, and the walk past that byte
abbrev pub found_as : List ℕ → Result (Address × Walk) Refusal → Found
found_as table (Err e) = lost (number_of e)
found_as table (Ok p) = found p.0.0 (ahead table p.1)

abbrev pub FoundPlaced : List ℕ → List ℕ → Walk → Result (Address × Walk) Refusal → Type 0
FoundPlaced t u v (Err e) = Declared v.at.0 v.end.0 t u
FoundPlaced t u v (Ok p) = Walked t u v p.1 × (v.at.0 ≤ p.0.0) × (p.0.0 < p.1.at.0)
