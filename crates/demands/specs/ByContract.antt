-- Demand 3 about what the public functions answer. It holds of any answers that meet the contracts of `write`, `judge` and `model`:
-- the relations `Wrote`, `Judged` and `Took`. The record `Code3` is the whole claim; `proofs/ByContract.antt` proves it.
-- Assumes nothing.
use Rattle.std.specs.Prelude.{◌≡◌, ◌↔◌, List, [], ◌∷◌, ℕ, ◌≤◌, length, take, replicate, Result, Ok, Err}
use Rattle.tag.specs.declared.refusals.Refusal.{Refusal}
use Rattle.tag.specs.declared.refusals.Fault.{Fault}
use Rattle.tag.specs.Plan.{command_count}
use Rattle.tag.specs.TagType.{TagType, pieces, commands}
use Rattle.tag.specs.Judge.{refused, task}
use Rattle.tag.specs.Cuts.{SafeList, FirstFault}
use Rattle.tag.specs.Answers.{refused_as}
use Rattle.tag.specs.PublicContracts.{Wrote, Judged, Took}
use Rattle.demands.specs.Demand3.{cut_of, our_bytes, our_image}

-- calls of the model, the first on the tag j and each later one on the image that the call before left: the given commands in
-- order, with the answer to each, and between them any calls that the model refuses. The last image is what the whole run leaves
pub data Run (T : TagType) : List ℕ → List (List ℕ) → List (Result (Unit {0}) Refusal) → List ℕ → Type 0 where
  end : {j : List ℕ} → Run T j [] [] j
  give : {j b k x : List ℕ} {given : List (List ℕ)} {rs : List (Result (Unit {0}) Refusal)} (r : Result (Unit {0}) Refusal)
      → Took T j b r k → Run T k given rs x → Run T j (b ∷ given) (r ∷ rs) x
  refuse : {j k x : List ℕ} {given : List (List ℕ)} {rs : List (Result (Unit {0}) Refusal)} (b : List ℕ) (f : Refusal)
      → Took T j b (Err f) k → Run T k given rs x → Run T j given rs x

-- the answer of `judge` is a refusal with this number and this position
abbrev pub RefusesAt : Result ℕ Fault → ℕ → ℕ → Type 0
RefusesAt r f p = (g : Fault) × (r ≡ Err g) × (refused_as g ≡ refused f p)

pub record Code3 (T : TagType) (i m : List ℕ) : Type 0 where
  -- the judge accepts exactly the safe lists, with the number of their commands
  pub accepts : (bytes : List ℕ) (n : ℕ) → Judged T i m bytes (Ok n) → (n ≡ length (commands T i bytes)) × SafeList (task T i m) (commands T i bytes)
  pub accepted : (bytes : List ℕ) (r : Result ℕ Fault) → Judged T i m bytes r → SafeList (task T i m) (commands T i bytes) → r ≡ Ok (length (commands T i bytes))
  -- and refuses a list with a number and a position exactly if that is its first fault
  pub refuses : (bytes : List ℕ) (r : Result ℕ Fault) → Judged T i m bytes r
      → (f p : ℕ) → RefusesAt r f p ↔ FirstFault (task T i m) (commands T i bytes) f p
  -- the list that `write` gives is accepted, with the count that `write` answers
  pub ours : (buffer out : List ℕ) (n : ℕ) → Wrote T i m buffer (Ok n) out
      → (r : Result ℕ Fault) → Judged T i m (take (length (our_bytes T i m)) out) r → r ≡ Ok n
  -- given the first k commands of an accepted list in order, one a call, the model stores each and leaves cut k; calls that it
  -- refuses may come between
  pub followed : (bytes : List ℕ) (n : ℕ) → Judged T i m bytes (Ok n) → (k : ℕ) → k ≤ n
      → (rs : List (Result (Unit {0}) Refusal)) (j : List ℕ) → Run T i (take k (pieces T i bytes)) rs j
      → (rs ≡ replicate k (Ok tt)) × (j ≡ cut_of T i bytes k)
  -- a call that the model refuses changes nothing, on any tag
  pub unchanged : (j command : List ℕ) (f : Refusal) (k : List ℕ) → Took T j command (Err f) k → k ≡ j
  -- writing afresh to any cut of an accepted list gives our list for that cut, with its count, if the buffer is long enough; that
  -- list ends in the same image as our list for the tag handed in
  pub restart : (bytes : List ℕ) (n : ℕ) → Judged T i m bytes (Ok n) → (k : ℕ) → k ≤ n
      → (buffer out : List ℕ) (r : Result ℕ Refusal) → length (our_bytes T (cut_of T i bytes k) m) ≤ length buffer → Wrote T (cut_of T i bytes k) m buffer r out
      → (r ≡ Ok (command_count (T.plan (cut_of T i bytes k) m) (cut_of T i bytes k)))
      × (our_image T (cut_of T i bytes k) m ≡ our_image T i m)
      × (take (length (our_bytes T (cut_of T i bytes k) m)) out ≡ our_bytes T (cut_of T i bytes k) m)
