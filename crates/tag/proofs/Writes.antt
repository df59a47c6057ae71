-- Writing by blocks, for every type of tag: from what a type shows of its plan, the list is accepted and ends in the new image.
-- Assumes nothing.
use mathlib.Core.Path.{◌≡◌, refl, sym, ap, ◌∙◌}
use mathlib.Core.Bool.{Bool, true, false, not, cond}
use mathlib.Core.Logic.{◌⊎◌, inl, inr}
use mathlib.Core.List.{List, [], ◌∷◌, ◌++◌, map, map-append}
use Prim.Native.Nat.{ℕ, ◌/◌, ◌<◌}
use native.Mathlib.Omega.{arith}
use borrow.Author.Tests.{eqb-true, eq-eqb, not-true}
use lib.Dec.{eqb}
use lib.ListN.{length, length-append, length-map}
use Rattle.tag.specs.Bytes.{byte}
use Rattle.tag.specs.Reading.{broken, nothing, holds}
use Rattle.tag.specs.Stores.{Command, stores, cut}
use Rattle.tag.specs.Plan.{Plan, new_image, block_of, is_there, between, last_store, middle, list}
use Rattle.tag.specs.TagType.{TagType, held}
use Rattle.tag.specs.Judge.{task_of, accepted, judge}
use Rattle.tag.specs.Cuts.{Kept}
use Rattle.tag.proofs.Logic.{and_l, true-false}
use Rattle.tag.proofs.Images.{length-overlay, overlay-out}
use Rattle.tag.proofs.Guarded.{Between, Guard, Shuts, Tail, ending, accepts, last-cut, shut-accepts, shut-last-cut}
use Rattle.tag.proofs.Blocks.{in_block, Blockwise, block-parts}
use Rattle.tag.proofs.There.{there-new}

-- the tag once the guard block is shut: as the first command leaves it, or as it was if that is left out
abbrev pub shut_image : Plan → List ℕ → List ℕ
shut_image p i = cond p.is_shut i p.closed

-- so whatever holds of both holds of it
pub shut-either : (p : Plan) (i : List ℕ) (P : List ℕ → Type 0) → (p.is_shut ≡ true → P i) → P p.closed → P (shut_image p i)
shut-either p i P here closed = go p.is_shut refl
  where
    go : (c : Bool) → p.is_shut ≡ c → P (cond c i p.closed)
    go true q = here q
    go false q = closed

-- what a type of tag shows of the plan for a tag and a message
pub record Sound (T : TagType) (i m : List ℕ) (p : Plan) : Type 0 where
  pub blockwise : Blockwise p i
  pub closed-kept : Kept (task_of T i m p) p.closed
  -- with the guard block shut the tag holds none
  pub quiet : (j : List ℕ) → Between (in_block p.block_size p.guard) i (shut_image p i) (new_image p i) j → held T j ≡ nothing
  -- the new image reads as the message
  pub new-reads : held T (new_image p i) ≡ holds m

module _ (T : TagType) (i m : List ℕ) (p : Plan) (s : Sound T i m p) where
  abbrev guard : Guard (task_of T i m p)
  guard = record {
    block = in_block p.block_size p.guard;
    closed = shut_image p i;
    new = new_image p i;
    new-length = length-overlay p.addresses p.values i;
    closed-kept = shut-either p i (Kept (task_of T i m p)) (λ q a l k. refl) s.closed-kept;
    new-kept = λ a l q. overlay-out p.addresses p.values i a q;
    quiet = s.quiet;
    reads = s.new-reads;
  }

  -- the list picks no guard block, and what it leaves out has its new bytes
  others : (b : ℕ) → between p i b ≡ true → b ≡ p.guard → ⊥
  others b q e = true-false (eq-eqb b p.guard e) (not-true (eqb b p.guard) (and_l _ (not (is_there p.block_size i (new_image p i) b)) q))

  complete : (a b : ℕ) → a < length i → in_block p.block_size b a ≡ true
      → (between p i b ≡ true) ⊎ ((b ≡ p.guard) ⊎ (byte i a ≡ byte (new_image p i) a))
  complete a b l h = go (eqb b p.guard) refl (is_there p.block_size i (new_image p i) b) refl
    where
      go : (c : Bool) → eqb b p.guard ≡ c → (d : Bool) → is_there p.block_size i (new_image p i) b ≡ d
          → (between p i b ≡ true) ⊎ ((b ≡ p.guard) ⊎ (byte i a ≡ byte (new_image p i) a))
      go true q d r = inr (inl (eqb-true b p.guard q))
      go false q true r = inr (inr (there-new p.block_size b i (new_image p i) r a h))
      go false q false r = inl (rw (q, r))

  -- the commands after the first one
  abbrev rest : List Command
  rest = ending (task_of T i m p) guard (last_store p i) (middle p i)

  parts : Shuts (task_of T i m p) guard (block_of p.block_size (shut_image p i) p.guard) × Tail (task_of T i m p) guard (last_store p i) (middle p i)
  parts =
      let b = s.blockwise in
      block-parts (task_of T i m p) guard p.block_size p.width (length i / p.block_size) p.guard (between p i) b.some_size b.some_width b.whole b.inside
      (λ a. refl) (shut-either p i (λ j. length j ≡ length i) (λ q. refl) b.closed-length) others complete

  rest_is : map stores (middle p i) ++ stores (last_store p i ∷ []) ∷ [] ≡ map stores (middle p i ++ (last_store p i ∷ []) ∷ [])
  rest_is = sym (map-append stores (middle p i) ((last_store p i ∷ []) ∷ []))

  rest-count : length rest ≡ length (middle p i ++ (last_store p i ∷ []) ∷ [])
  rest-count = simp (length-append, length-map) (omega arith)

  -- our list is accepted, with its number of commands, and ends in the new image
  pub list-accepted : (held T i ≡ broken → ⊥) → judge (task_of T i m p) 0 i (map stores (list p i)) ≡ accepted (length (list p i))
  list-accepted ok = go p.is_shut refl
    where
      go : (c : Bool) → p.is_shut ≡ c → judge (task_of T i m p) 0 i (map stores (list p i)) ≡ accepted (length (list p i))
      go true q =
          rw (q, ← rest_is)
          (shut-accepts (task_of T i m p) guard (last_store p i) (middle p i) parts.1 (λ a l e. rw q)
          ∙ ap accepted (simp length-append (omega arith)))
      go false q =
          rw (q, ← rest_is)
          (rw q at (accepts (task_of T i m p) guard (block_of p.block_size (shut_image p i) p.guard) (last_store p i) (middle p i) parts.0 parts.1 ok)
          ∙ ap accepted (simp length-append (omega arith)))

  pub list-ends : cut (length (list p i)) i (map stores (list p i)) ≡ new_image p i
  list-ends = go p.is_shut refl
    where
      go : (c : Bool) → p.is_shut ≡ c → cut (length (list p i)) i (map stores (list p i)) ≡ new_image p i
      go true q = rw (q, ← rest_is, ← rest-count) (shut-last-cut (task_of T i m p) guard (last_store p i) (middle p i) parts.1 (λ a l e. rw q))
      go false q =
          rw (q, ← rest_is, ← rest-count)
          (rw q at (last-cut (task_of T i m p) guard (block_of p.block_size (shut_image p i) p.guard) (last_store p i) (middle p i) parts.0 parts.1))
