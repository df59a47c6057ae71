-- Demand 2 for every type of tag, from its laws. The tag that took our commands reads as the message, and the part shown after
-- reading is the message.
-- Assumes nothing.
use mathlib.Core.Path.{◌≡◌, refl, sym, ap, ◌∙◌}
use mathlib.Core.Bool.{Bool, true, false}
use mathlib.Core.List.{List}
use Prim.Native.Nat.{ℕ}
use lib.Dec.{leb}
use lib.ListN.{length, length-map}
use Rattle.tag.specs.Refusals.{short_buffer}
use Rattle.tag.specs.Reading.{holds}
use Rattle.tag.specs.Stores.{stores}
use Rattle.tag.specs.Plan.{list, command_count}
use Rattle.tag.specs.TagType.{TagType, held, Writing, refused_write, written, writing, refused_output, output, fitted, write, list_bytes, commands}
use Rattle.tag.proofs.Logic.{nope}
use Rattle.tag.proofs.Counts.{length-list}
use Rattle.tag.proofs.Laws.{Laws, written-ready}
use Rattle.tag.proofs.Showing.{shown-part}
use Rattle.demands.specs.Demand3.{cut_of, our_bytes}
use Rattle.demands.specs.Demand2.{Demand2}
use Rattle.demands.proofs.Capacity.{longer}
use Rattle.demands.proofs.Demand3.{our-commands, our-image}

-- an output is what was to be written, with its count
pub fitted-is : (room k n : ℕ) (bytes all : List ℕ) → fitted room k bytes ≡ output n all → (k ≡ n) × (bytes ≡ all)
fitted-is room k n bytes all e = go (leb (length bytes) room) refl
  where
    go : (b : Bool) → leb (length bytes) room ≡ b → (k ≡ n) × (bytes ≡ all)
    go false q = let f : refused_output short_buffer ≡ output n all = rw q at e in absurd (nope (cc))
    go true q = let f : output k bytes ≡ output n all = rw q at e in (cc, cc)

module _ (T : TagType) (L : Laws T) where
  reads_back : (room n : ℕ) (i m bytes : List ℕ) → write T room i m ≡ output n bytes
      → (n ≡ length (commands T i bytes)) × (held T (cut_of T i bytes n) ≡ holds m)
  reads_back room n i m bytes e = go (writing T i m) refl
    where
      go : (w : Writing) → writing T i m ≡ w → (n ≡ length (commands T i bytes)) × (held T (cut_of T i bytes n) ≡ holds m)
      go (refused_write r) q = let f : refused_output r ≡ output n bytes = rw q at e in absurd (nope (cc))
      go (written p) q =
          let (r, u) = written-ready T i m p q in
          let f : fitted room (length (list p i)) (list_bytes T p i) ≡ output n bytes = rw q at e in
          let (k, b) = fitted-is room (length (list p i)) n (list_bytes T p i) bytes f in
          let b' : our_bytes T i m ≡ bytes = ap (λ p. list_bytes T p i) u ∙ b in
          let c : n ≡ length (commands T i (our_bytes T i m))
          = sym k ∙ ap (λ p. length (list p i)) (sym u) ∙ sym (ap length (our-commands T L i m r) ∙ length-map (list (T.plan i m) i) stores) in
          (c ∙ ap (λ all. length (commands T i all)) b', rw (← b', c) (ap (held T) (our-image T L i m r) ∙ (L.sound i m r).new-reads))

  -- the number answered is the formula's
  formula : (room n : ℕ) (i m bytes : List ℕ) → write T room i m ≡ output n bytes → n ≡ command_count (T.plan i m) i
  formula room n i m bytes e = go (writing T i m) refl
    where
      go : (w : Writing) → writing T i m ≡ w → n ≡ command_count (T.plan i m) i
      go (refused_write r) q = let f : refused_output r ≡ output n bytes = rw q at e in absurd (nope (cc))
      go (written p) q =
          let f : fitted room (length (list p i)) (list_bytes T p i) ≡ output n bytes = rw q at e in
          sym (fitted-is room (length (list p i)) n (list_bytes T p i) bytes f).0
          ∙ length-list p i
          ∙ ap (λ p. command_count p i) (sym (written-ready T i m p q).1)

  pub claim : Demand2 T
  claim = record {
    written_reads = reads_back;
    counts = formula;
    refusals = L.numbered;
    shown_is = λ i buffer p e f. rw e (shown-part T L i buffer p e f);
    too_long = longer T;
  }
