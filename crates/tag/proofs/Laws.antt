-- The laws that each type of tag has to prove of itself. Demands 2 and 3 follow from them for every type alike. This file also
-- shows that a tag is ready exactly if writing is not refused.
-- Assumes nothing.
use mathlib.Core.Path.{◌≡◌, refl, sym, ap, ◌∙◌}
use mathlib.Core.Bool.{false}
use mathlib.Core.List.{List, [], ◌++◌}
use Prim.Native.Nat.{ℕ, ◌<◌}
use borrow.Author.Tests.{ne_eqb, eqb-false, leb-true, le-leb, not-true}
use lib.Dec.{eqb}
use lib.ListN.{length}
use Rattle.tag.specs.Checks.{Checked, fine, fault, first_of}
use Rattle.tag.specs.Reading.{Content, message, empty, being-written, Report, Reading, unreadable, reads, broken, nothing, holds, part}
use Rattle.tag.specs.Stores.{Store, stores}
use Rattle.tag.specs.Plan.{Plan, list}
use Rattle.tag.specs.TagType.{TagType, held, refused_write, written, checks_of, planned, writing}
use Rattle.tag.specs.Judge.{task_of}
use Rattle.tag.specs.Cuts.{Ready, Kept}
use Rattle.tag.proofs.Logic.{nope}
use Rattle.tag.proofs.Checks.{AllPass, fine-all, all-fine, OfReading}
use Rattle.tag.proofs.Each.{Each}
use Rattle.tag.proofs.Writes.{Sound}

-- a command whose bytes are taken for what it stores, also at the front of a list
pub record Sent (T : TagType) (i : List ℕ) (ss : List Store) : Type 0 where
  pub taken : T.command i (T.encoded ss) ≡ stores ss
  pub some_bytes : 0 < length (T.encoded ss)
  pub whole : (r : List ℕ) → T.span i (T.encoded ss ++ r) ≡ length (T.encoded ss)

-- a tag that a list may leave when it breaks off: of the same length, with its protected bytes unchanged, and readable
pub record Near (T : TagType) (i m j : List ℕ) : Type 0 where
  pub same_length : length j ≡ length i
  pub kept : Kept (task_of T i m (T.plan i m)) j
  pub readable : held T j ≡ broken → ⊥

pub record Laws (T : TagType) : Type 0 where
  -- with the guard block shut the tag holds none, and the new image reads as the message
  pub sound : (i m : List ℕ) → Ready T i m → Sound T i m (T.plan i m)
  -- protected bytes fix the plan: what is set, and what a command must look like
  pub still-ready : (i m j : List ℕ) → Ready T i m → Near T i m j → Ready T j m
  pub same-addresses : (i m j : List ℕ) → Ready T i m → Near T i m j → (T.plan j m).addresses ≡ (T.plan i m).addresses
  pub same-values : (i m j : List ℕ) → Ready T i m → Near T i m j → (T.plan j m).values ≡ (T.plan i m).values
  pub same-command : (i m j : List ℕ) → Ready T i m → Near T i m j → (bytes : List ℕ) → T.command j bytes ≡ T.command i bytes
  -- reading refuses with 1 to 8 only
  pub numbered : (i : List ℕ) (r : ℕ) → T.reading i ≡ unreadable r → OfReading r
  -- without a message there are no bytes, and a message that is not interrupted is a part of the image
  pub wordless : (i : List ℕ) (p : Report) → T.reading i ≡ reads p → (p.content ≡ message → ⊥) → p.bytes ≡ []
  pub in_place : (i : List ℕ) (p : Report) → T.reading i ≡ reads p → p.content ≡ message → p.interrupted ≡ false
      → part p.address (length p.bytes) i ≡ p.bytes
  -- our commands are taken for what they store
  pub sent : (i m : List ℕ) → Ready T i m → Each (Sent T i) (list (T.plan i m) i)

-- ---- a tag is ready exactly if writing is not refused

pub ready-written : (T : TagType) (i m : List ℕ) → Ready T i m → writing T i m ≡ written (T.plan i m)
unfolding writing
ready-written T i m r =
    let e : first_of (checks_of T i m r.report) ≡ fine = all-fine (checks_of T i m r.report) (rw (ne_eqb (length m) 0 r.some_bytes), (r.writable, (r.large_blocks, (le-leb (length m) r.report.capacity r.room, tt)))) in
    rw r.reads_as (ap (planned (T.plan i m)) e)

pub written-ready : (T : TagType) (i m : List ℕ) (p : Plan) → writing T i m ≡ written p → Ready T i m × (T.plan i m ≡ p)
unfolding writing
written-ready T i m p e = go (T.reading i) refl
  where
    go : (v : Reading) → T.reading i ≡ v → Ready T i m × (T.plan i m ≡ p)
    go (unreadable r) q = let e' : refused_write r ≡ written p = rw q at e in absurd (nope (cc))
    go (reads v) q = on (first_of (checks_of T i m v)) refl
      where
        on : (c : Checked) → first_of (checks_of T i m v) ≡ c → Ready T i m × (T.plan i m ≡ p)
        on (fault r) f =
            let e' : planned (T.plan i m) (first_of (checks_of T i m v)) ≡ written p = rw q at e in
            let e'' : refused_write r ≡ written p = sym (ap (planned (T.plan i m)) f) ∙ e' in
            absurd (nope (cc))
        on fine f =
            let e' : planned (T.plan i m) (first_of (checks_of T i m v)) ≡ written p = rw q at e in
            let e'' : written (T.plan i m) ≡ written p = sym (ap (planned (T.plan i m)) f) ∙ e' in
            let a : AllPass (checks_of T i m v) = fine-all (checks_of T i m v) f in (
              record {
                report = v;
                reads_as = q;
                writable = a.1.0;
                some_bytes = eqb-false (length m) 0 (not-true (eqb (length m) 0) a.0);
                large_blocks = a.1.1.0;
                room = leb-true (length m) v.capacity a.1.1.1.0;
              },
              cc,
            )

pub reads_held : (T : TagType) (i : List ℕ) (p : Report) → T.reading i ≡ reads p → held T i ≡ broken → ⊥
reads_held T i p r e = go p.content refl
  where
    go : (w : Content) → p.content ≡ w → ⊥
    go message q = let e' : holds p.bytes ≡ broken = rw (r, q) at e in nope (cc)
    go empty q = let e' : nothing ≡ broken = rw (r, q) at e in nope (cc)
    go being-written q = let e' : nothing ≡ broken = rw (r, q) at e in nope (cc)

pub ready-reads : (T : TagType) (i m : List ℕ) → Ready T i m → held T i ≡ broken → ⊥
ready-reads T i m r = reads_held T i r.report r.reads_as
