-- One record of a table: where its parts lie, whether it can be written, and how long it is.
-- Assumes nothing.
use mathlib.Core.Path.{◌≡◌, refl, sym, ◌∙◌}
use mathlib.Core.Bool.{Bool, true, false, ◌&&◌, cond}
use Rattle.std.specs.Prelude.{Option, Some, None}
use mathlib.Core.List.{List, ◌++◌}
use Prim.Native.Nat.{ℕ, ◌+◌, ◌*◌, ◌≤◌}
use native.Mathlib.Omega.{arith}
use lib.ListN.{length}
use borrow.Author.Tests.{leb-true}
use Rattle.tag.proofs.Logic.{nope, and-three}
use Rattle.ndef.specs.declared.Place.{Place}
use Rattle.ndef.specs.Record.{tnf_allows}
use Rattle.ndef.specs.Places.{part_at, part_in, record_at, lies_in}
use Rattle.ndef.specs.Shortest.{header_bytes, record_bytes}
use Rattle.ndef.specs.Writing.{header_holds, is_writable}
use Rattle.ndef.proofs.Sound.{both, tnf_small}
use Rattle.ndef.proofs.HeaderForms.{record-long, header-long}
use Rattle.ndef.proofs.ListBack.{Fit, fit}
use Rattle.ndef.proofs.Least.{part-size}
use Rattle.ndef_write.specs.Views.Sizes.{header_size, size_for}
use Rattle.ndef_write.specs.Views.Laying.{Lays}

-- where the three parts of a place lie
pub record Inside (size : ℕ) (p : Place) : Type 0 where
  pub type_inside : p.rtype.at + p.rtype.len ≤ size
  pub id_inside : p.id.at + p.id.len ≤ size
  pub payload_inside : p.payload.at + p.payload.len ≤ size

pub inside : (size : ℕ) (p : Place) → lies_in size p ≡ true → Inside size p
unfolding lies_in
inside size p e =
    let (a, b, c) = and-three (part_in size p.rtype) (part_in size p.id) (part_in size p.payload) e in
    record { type_inside = leb-true _ size a; id_inside = leb-true _ size b; payload_inside = leb-true _ size c }

-- the two tests of a place that do not look at the bytes
abbrev allowed : Place → Bool
allowed p = tnf_allows p.tnf p.rtype.len p.id.len p.payload.len

abbrev held : Place → Bool
held p = header_holds p.rtype.len p.id.len p.payload.len

-- its length, if it is written
abbrev long : Place → ℕ
long p = header_size p.id.len p.payload.len + p.rtype.len + p.id.len + p.payload.len

-- the parts of a record are as long as its place says
module _ (bytes : List ℕ) (p : Place) (w : Inside (length bytes) p) where
  pub type-long : length (part_at bytes p.rtype) ≡ p.rtype.len
  type-long = part-size bytes p.rtype.at p.rtype.len w.type_inside

  pub id-long : length (part_at bytes p.id) ≡ p.id.len
  id-long = part-size bytes p.id.at p.id.len w.id_inside

  pub payload-long : length (part_at bytes p.payload) ≡ p.payload.len
  payload-long = part-size bytes p.payload.at p.payload.len w.payload_inside

  pub writable_is : is_writable (record_at bytes p) ≡ cond (allowed p) (held p) false
  unfolding record_at is_writable
  writable_is = rw (type-long, id-long, payload-long)

  pub bytes-are : (first last : ℕ)
      → record_bytes first last (record_at bytes p)
      ≡ header_bytes (first * 128 + last * 64 + p.tnf) p.rtype.len p.id.len p.payload.len
      ++ (part_at bytes p.rtype ++ (part_at bytes p.id ++ part_at bytes p.payload))
  unfolding record_at record_bytes
  bytes-are first last = rw (type-long, id-long, payload-long)

  pub record-size : (first last : ℕ) → length (record_bytes first last (record_at bytes p)) ≡ long p
  unfolding header_size record_at
  record-size first last =
      let header : length (header_bytes (first * 128 + last * 64 + p.tnf) (length (part_at bytes p.rtype)) (length (part_at bytes p.id)) (length (part_at bytes p.payload)))
      ≡ header_size p.id.len p.payload.len =
      header-long (first * 128 + last * 64 + p.tnf) (length (part_at bytes p.rtype)) (length (part_at bytes p.id)) (length (part_at bytes p.payload)) ∙ rw (id-long, payload-long) in
      omega (arith, record-long first last p.tnf (part_at bytes p.rtype) (part_at bytes p.id) (part_at bytes p.payload), header, type-long, id-long, payload-long)

-- the place lies in the bytes, and its record can be written
unfoldable pub ok : List ℕ → Place → Bool
ok bytes p = cond (lies_in (length bytes) p) (is_writable (record_at bytes p)) false

module _ (bytes : List ℕ) (p : Place) where
  ok-is : ok bytes p ≡ lies_in (length bytes) p && held p && allowed p
  unfolding ok
  ok-is = go (lies_in (length bytes) p) refl
    where
      swap : (a h : Bool) → cond a h false ≡ h && a
      swap true true = refl
      swap true false = refl
      swap false true = refl
      swap false false = refl

      go : (b : Bool) → lies_in (length bytes) p ≡ b → cond b (is_writable (record_at bytes p)) false ≡ b && held p && allowed p
      go true q = writable_is bytes p (inside (length bytes) p q) ∙ swap (allowed p) (held p)
      go false q = refl

  pub unfit : size_for (length bytes) p ≡ None → ok bytes p ≡ false
  unfit e = ok-is ∙ go (lies_in (length bytes) p && held p && allowed p) e
    where
      go : (b : Bool) → ◌≡◌ {A = Option ℕ} (cond b (Some (long p)) None) None → b ≡ false
      go true q = absurd (nope (cc))
      go false q = refl

  module _ (n : ℕ) (e : size_for (length bytes) p ≡ Some n) where
    decided : (b : Bool) → ◌≡◌ {A = Option ℕ} (cond b (Some (long p)) None) (Some n) → (b ≡ true) × (n ≡ long p)
    decided true q = (refl, cc)
    decided false q = absurd (nope (cc))

    pub sound-place : ok bytes p ≡ true
    sound-place = ok-is ∙ (decided (lies_in (length bytes) p && held p && allowed p) e).0

    pub sized : (first last : ℕ) → n ≡ length (record_bytes first last (record_at bytes p))
    unfolding ok
    sized first last =
        let w = both (lies_in (length bytes) p) (is_writable (record_at bytes p)) sound-place in
        (decided (lies_in (length bytes) p && held p && allowed p) e).1 ∙ sym (record-size bytes p (inside (length bytes) p w.0) first last)

fit_of : (bytes : List ℕ) (p : Place) → Inside (length bytes) p → is_writable (record_at bytes p) ≡ true → Fit p.tnf p.rtype.len p.id.len p.payload.len
unfolding record_at
fit_of bytes p i q =
    rw (type-long bytes p i, id-long bytes p i, payload-long bytes p i)
    at (fit p.tnf (part_at bytes p.rtype) (part_at bytes p.id) (part_at bytes p.payload) q)

-- what the code that lays a record asks
pub lays : (bytes : List ℕ) (p : Place) → ok bytes p ≡ true → Lays (length bytes) p
unfolding ok
lays bytes p e =
    let w = both (lies_in (length bytes) p) (is_writable (record_at bytes p)) e in
    let i = inside (length bytes) p w.0 in
    let t : Fit p.tnf p.rtype.len p.id.len p.payload.len = fit_of bytes p i w.1 in
    record {
      tnf_small = tnf_small p.tnf p.rtype.len p.id.len p.payload.len t.allowed;
      type_small = t.type_small;
      id_small = t.id_small;
      payload_small = t.payload_small;
      type_inside = i.type_inside;
      id_inside = i.id_inside;
      payload_inside = i.payload_inside;
    }
