-- Refusal 14: a Type 6 tag that reads and is writable gets it, for a message that is not empty, exactly if its block size is below 2.
-- Assumes nothing.
use mathlib.Core.Path.{◌≡◌, refl, sym, ap, ◌∙◌}
use mathlib.Core.Bool.{Bool, true, false}
use mathlib.Core.List.{List}
use Prim.Native.Nat.{ℕ, ◌≤◌}
use borrow.Author.Tests.{ne_eqb}
use lib.Dec.{leb}
use lib.ListN.{length}
use Rattle.tag.specs.Refusals.{message_too_long, block_too_small}
use Rattle.tag.specs.Checks.{Checked, fine, fault, first_of}
use Rattle.tag.specs.Reading.{Report, reads}
use Rattle.tag.specs.TagType.{writing, refused_write, planned, checks_of}
use Rattle.tag.proofs.Logic.{nope}
use Rattle.type6.specs.Container.{tag_block_size}
use Rattle.type6.specs.Message.{reading}
use Rattle.type6.specs.Update.{block_size_suffices, plan}
use Rattle.type6.specs.Type6.{type6}
use Rattle.type6.proofs.Laws.{suffice-exactly}
use Rattle.demands.specs.Demand2.{TooSmall6}

module _ (i m : List ℕ) (p : Report) (reads_as : reading i ≡ reads p) (writable : p.writable ≡ true) (some_bytes : length m ≡ 0 → ⊥) where
  decided : (c : Checked) → first_of (checks_of type6 i m p) ≡ c → writing type6 i m ≡ planned (plan i m) c
  unfolding writing
  decided c e = rw reads_as (ap (planned (plan i m)) e)

  small : block_size_suffices i ≡ false → writing type6 i m ≡ refused_write block_too_small
  small q = decided (fault block_too_small) (rw (ne_eqb (length m) 0 some_bytes) (rw writable (rw q)))

  large : block_size_suffices i ≡ true → writing type6 i m ≡ refused_write block_too_small → ⊥
  large q e = go (leb (length m) p.capacity) refl
    where
      -- after 14 there is only 11
      go : (b : Bool) → leb (length m) p.capacity ≡ b → ⊥
      go true f =
          let d : first_of (checks_of type6 i m p) ≡ fine = rw (ne_eqb (length m) 0 some_bytes) (rw writable (rw q (rw f))) in
          let z : planned (plan i m) fine ≡ refused_write block_too_small = sym (decided fine d) ∙ e in
          nope (cc)
      go false f =
          let d : first_of (checks_of type6 i m p) ≡ fault message_too_long
          = rw (ne_eqb (length m) 0 some_bytes) (rw writable (rw q (rw f))) in
          let z : refused_write message_too_long ≡ refused_write block_too_small = sym (decided (fault message_too_long) d) ∙ e in
          let n : message_too_long ≡ block_too_small = cc in
          nope (cc)

  suffice : (b : Bool) → block_size_suffices i ≡ b → (writing type6 i m ≡ refused_write block_too_small → ⊥) → 2 ≤ tag_block_size i
  suffice true q none = (suffice-exactly i).0 q
  suffice false q none = absurd (none (small q))

pub too-small-6 : TooSmall6
too-small-6 i m p e w n = (suffice i m p e w n (block_size_suffices i) refl, λ l. large i m p e w n ((suffice-exactly i).1 l))
