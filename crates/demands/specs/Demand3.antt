-- Demand 3: one claim for every tag, message, list and cut, for any type of tag. It is about the bytes of the list.
-- `proofs/Demand3.antt` proves it of every tag that reads, is writable, and has room for the new, non-empty message (`Ready`). What
-- else the caller states is part of the type of tag, and so the same in all calls.
-- Assumes nothing.
use Rattle.std.specs.Prelude.{◌≡◌, ◌↔◌, List, [], ◌∷◌, ℕ, suc, ◌<◌, ◌≤◌, length, get_or, take}
use Rattle.tag.specs.Stores.{cut}
use Rattle.tag.specs.Plan.{command_count}
use Rattle.tag.specs.TagType.{TagType, writing, written, list_bytes, pieces, commands}
use Rattle.tag.specs.Judge.{task, accepted, refused, judged}
use Rattle.tag.specs.Model.{model, refused_storing, stored, image_after}
use Rattle.tag.specs.Cuts.{SafeList, FirstFault}

-- cut k of a list's bytes
abbrev pub cut_of : TagType → List ℕ → List ℕ → ℕ → List ℕ
cut_of T i bytes k = cut k i (commands T i bytes)

-- the bytes of our list, and the image that it gives if the write does not break off: its last cut
abbrev pub our_bytes : TagType → List ℕ → List ℕ → List ℕ
our_bytes T i m = list_bytes T (T.plan i m) i

abbrev pub our_image : TagType → List ℕ → List ℕ → List ℕ
our_image T i m = cut_of T i (our_bytes T i m) (length (commands T i (our_bytes T i m)))

-- calls of the model, each on the image left by the call before: the given commands in order, and between them any calls that the
-- model refuses
pub data Calls (T : TagType) : List ℕ → List (List ℕ) → List (List ℕ) → Type 0 where
  end : {j : List ℕ} → Calls T j [] []
  give : {j b : List ℕ} {given calls : List (List ℕ)} → Calls T (image_after j (model T j b)) given calls → Calls T j (b ∷ given) (b ∷ calls)
  refuse : {j b : List ℕ} {given calls : List (List ℕ)} (r : ℕ) → model T j b ≡ refused_storing r → Calls T j given calls → Calls T j given (b ∷ calls)

-- the image that a run of calls leaves
abbrev pub image_of : TagType → List ℕ → List (List ℕ) → List ℕ
image_of T j [] = j
image_of T j (b ∷ calls) = image_of T (image_after j (model T j b)) calls

pub record Demand3 (T : TagType) (i m : List ℕ) : Type 0 where
  -- the judge accepts exactly the safe lists, and counts their commands
  pub exactly : (bytes : List ℕ) (n : ℕ) → (judged T i m bytes ≡ accepted n) ↔ ((n ≡ length (commands T i bytes)) × SafeList (task T i m) (commands T i bytes))
  -- and gives a refusal and a position exactly if that is the first fault
  pub first_fault : (bytes : List ℕ) (r p : ℕ) → (judged T i m bytes ≡ refused r p) ↔ FirstFault (task T i m) (commands T i bytes) r p
  -- our list is accepted, with the number of commands that 02's formula gives
  pub ours : judged T i m (our_bytes T i m) ≡ accepted (command_count (T.plan i m) i)
  -- the model, given the commands of an accepted list one a call, refuses none: it takes cut k to cut k + 1
  pub refuses_none : (bytes : List ℕ) (n : ℕ) → judged T i m bytes ≡ accepted n → (k : ℕ) → k < n
      → model T (cut_of T i bytes k) (get_or (pieces T i bytes) k []) ≡ stored (cut_of T i bytes (suc k))
  -- and given the first k it leaves cut k; calls that it refuses may come between
  pub followed : (bytes : List ℕ) (n : ℕ) → judged T i m bytes ≡ accepted n → (k : ℕ) → k ≤ n
      → (calls : List (List ℕ)) → Calls T i (take k (pieces T i bytes)) calls → image_of T i calls ≡ cut_of T i bytes k
  -- writing afresh to any cut of an accepted list is not refused and ends in the image that our list gives for the tag handed in; our
  -- list for that cut leaves out what the cut already holds
  pub restart : (bytes : List ℕ) (n : ℕ) → judged T i m bytes ≡ accepted n → (k : ℕ) → k ≤ n
      → (writing T (cut_of T i bytes k) m ≡ written (T.plan (cut_of T i bytes k) m)) × (our_image T (cut_of T i bytes k) m ≡ our_image T i m)
