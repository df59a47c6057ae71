-- Bytes laid one behind the other in a buffer: the parts of a record, and the records of a table.
-- Assumes nothing.
use mathlib.Core.Path.{◌≡◌, refl, sym, ap, ◌∙◌}
use mathlib.Core.Bool.{Bool, true, false, cond}
use mathlib.Core.List.{List, [], ◌++◌, append-nil, append_assoc}
use Prim.Native.Nat.{ℕ, ◌+◌, ◌*◌, ◌≤◌, ◌<◌}
use native.Mathlib.Omega.{arith}
use mir.Val.{bool_byte}
use lib.ListN.{length, drop, length-append, length-drop, drop_of_length-le}
use lib.Seq.{sets, length-sets}
use lib.Dec.{eqb}
use borrow.Author.Tests.{eq-eqb, ne_eqb, eqb-true, eqb-false}
use Rattle.tag.proofs.Storing.{sets-append}
use Rattle.ndef.specs.declared.Place.{Place}
use Rattle.ndef.specs.Places.{part_at, record_at}
use Rattle.ndef.specs.Shortest.{header_bytes, record_bytes, message_bytes}
use Rattle.ndef.specs.Writing.{is_writable_list, all_lie_in}
use Rattle.ndef.proofs.Sound.{both}
use Rattle.ndef.proofs.ListBack.{listed}
use Rattle.ndef_write.specs.Views.Sizes.{places, named}
use Rattle.ndef_write.specs.Views.Laying.{PutAt, Lays, Fits}
use Rattle.ndef_write.proofs.HeaderPut.{bit_is}
use Rattle.ndef_write.proofs.OneRecord.{Inside, type-long, id-long, payload-long, bytes-are, ok, lays}
use Rattle.ndef_write.proofs.Measuring.{all_ok, ok-more, named-many, place-at, left_is}

-- one thing behind another
pub then : {a b c : List ℕ} {at r q : ℕ} (xs ys : List ℕ) → PutAt a b at xs r → PutAt b c r ys q → PutAt a c at (xs ++ ys) q
then {a} {b} {c} {at} {r} {q} xs ys v w = record {
  stored = w.stored ∙ ap (λ l. sets l r ys) v.stored ∙ rw v.behind (sym (sets-append xs ys a at));
  behind = omega (arith, v.behind, w.behind, length-append xs ys);
}

pub same_size : {a b : List ℕ} {at r : ℕ} {xs : List ℕ} → PutAt a b at xs r → length b ≡ length a
same_size {a} {b} {at} {r} {xs} w = ap length w.stored ∙ length-sets a at xs

-- ---- a record

module _ (bytes : List ℕ) (p : Place) (w : Lays (length bytes) p) where
  within : Inside (length bytes) p
  within = record { type_inside = w.type_inside; id_inside = w.id_inside; payload_inside = w.payload_inside }

  -- the length of a record, by its header and its parts
  record-is-long : (first last : ℕ)
      → length (record_bytes first last (record_at bytes p))
      ≡ length (header_bytes (first * 128 + last * 64 + p.tnf) p.rtype.len p.id.len p.payload.len) + (p.rtype.len + (p.id.len + p.payload.len))
  record-is-long first last =
      rw (bytes-are bytes p within first last, length-append, length-append, length-append, type-long bytes p within, id-long bytes p within, payload-long bytes p within)

  -- the header, then the parts
  pub record-put : {a b c d e : List ℕ} {at q r s u : ℕ} (first last : ℕ)
      → PutAt a b at (header_bytes (first * 128 + last * 64 + p.tnf) p.rtype.len p.id.len p.payload.len) q
      → PutAt b c q (part_at bytes p.rtype) r → PutAt c d r (part_at bytes p.id) s → PutAt d e s (part_at bytes p.payload) u
      → PutAt a e at (record_bytes first last (record_at bytes p)) u
  record-put first last h x y z =
      rw (bytes-are bytes p within first last)
      (then _ (part_at bytes p.rtype ++ (part_at bytes p.id ++ part_at bytes p.payload)) h
      (then (part_at bytes p.rtype) (part_at bytes p.id ++ part_at bytes p.payload) x (then (part_at bytes p.id) (part_at bytes p.payload) y z)))

  pub part-lengths : (length (part_at bytes p.rtype) ≡ p.rtype.len) × (length (part_at bytes p.id) ≡ p.id.len) × (length (part_at bytes p.payload) ≡ p.payload.len)
  part-lengths = (type-long bytes p within, id-long bytes p within, payload-long bytes p within)

  -- the flags as the code adds them up
  module _ (first last : Bool) {f l : ℕ} (f-is : f ≡ bool_byte first) (l-is : l ≡ bool_byte last) where
    flags-are : f * 128 + l * 64 + p.tnf ≡ cond first 1 0 * 128 + cond last 1 0 * 64 + p.tnf
    flags-are = rw (f-is, l-is, bit_is first, bit_is last)

    pub header-is : header_bytes (f * 128 + l * 64 + p.tnf) p.rtype.len p.id.len p.payload.len ≡ header_bytes (cond first 1 0 * 128 + cond last 1 0 * 64 + p.tnf) p.rtype.len p.id.len p.payload.len
    header-is = rw flags-are

    long : length (record_bytes (cond first 1 0) (cond last 1 0) (record_at bytes p))
        ≡ length (header_bytes (f * 128 + l * 64 + p.tnf) p.rtype.len p.id.len p.payload.len) + (p.rtype.len + (p.id.len + p.payload.len))
    long = rw header-is (record-is-long (cond first 1 0) (cond last 1 0))

    module _ (out : List ℕ) (at : ℕ) (room : at + length (record_bytes (cond first 1 0) (cond last 1 0) (record_at bytes p)) ≤ length out) where
      pub header-room : at + length (header_bytes (f * 128 + l * 64 + p.tnf) p.rtype.len p.id.len p.payload.len) ≤ length out
      header-room = omega (arith, long)

      -- what is left for the parts
      pub parts-room : {after : List ℕ} {q : ℕ} → PutAt out after at (header_bytes (f * 128 + l * 64 + p.tnf) p.rtype.len p.id.len p.payload.len) q
          → q + (p.rtype.len + (p.id.len + p.payload.len)) ≤ length after
      parts-room h = omega (arith, long, h.behind, same_size h)

-- ---- the records of a table

module _ (bytes : List ℕ) (rows : List (List ℕ)) (out₀ : List ℕ) where
  abbrev all : List ℕ
  all = message_bytes 1 (named bytes rows)

  -- the first `count` records are laid, up to `at`
  pub record Laid (out : List ℕ) (count at : ℕ) : Type 0 where
    pub front : List ℕ
    pub split : all ≡ front ++ message_bytes (cond (eqb count 0) 1 0) (named bytes (drop count rows))
    pub put : PutAt out₀ out 0 front at
    pub fine : all_ok bytes (places (drop count rows)) ≡ true

  module _ (w₀ : Fits bytes rows (length out₀)) where
    pub none-laid : Laid out₀ 0 0
    unfolding all_ok
    none-laid =
        let t = both (all_lie_in (length bytes) (places rows)) (is_writable_list (named bytes rows)) w₀.given in
        record {
          front = [];
          split = refl;
          put = record { stored = refl; behind = refl };
          fine = rw t.0 (listed (named bytes rows) t.1).each;
        }

    module _ {out : List ℕ} {count at : ℕ} (w : Laid out count at) where
      pub all_laid : length rows ≤ count → out ≡ sets out₀ 0 all
      unfolding message_bytes
      all_laid l =
          let done : all ≡ w.front = w.split ∙ rw (drop_of_length-le rows {i = count} l, append-nil) in
          rw done w.put.stored

      module _ (l : count < length rows) where
        abbrev p : Place
        p = place-at bytes rows count

        abbrev rest : List (List ℕ)
        rest = drop (count + 1) rows

        abbrev first : ℕ
        first = cond (eqb count 0) 1 0

        abbrev last : ℕ
        last = cond (eqb (count + 1) (length rows)) 1 0

        ok-both : (ok bytes p ≡ true) × (all_ok bytes (places rest) ≡ true)
        ok-both = both (ok bytes p) (all_ok bytes (places rest)) (sym (ok-more bytes p (places rest)) ∙ rw (left_is bytes rows count l) at w.fine)

        pub place-lays : Lays (length bytes) p
        place-lays = lays bytes p ok-both.0

        last-is : ◌≡◌ {A = ℕ} (cond (eqb (length (named bytes rest)) 0) 1 0) last
        last-is = go (eqb (count + 1) (length rows)) refl
          where
            many : length (named bytes rest) + (count + 1) ≡ length rows
            many = omega (arith, named-many bytes rest, length-drop (count + 1) rows)

            go : (b : Bool) → eqb (count + 1) (length rows) ≡ b → ◌≡◌ {A = ℕ} (cond (eqb (length (named bytes rest)) 0) 1 0) (cond (eqb (count + 1) (length rows)) 1 0)
            go true q = rw (q, eq-eqb (length (named bytes rest)) 0 (omega (arith, many, eqb-true (count + 1) (length rows) q)))
            go false q =
                let f : count + 1 ≡ length rows → ⊥ = eqb-false (count + 1) (length rows) q in
                rw (q, ne_eqb (length (named bytes rest)) 0 (λ z. f (omega (arith, many))))

        split-more : all ≡ w.front ++ (record_bytes first last (record_at bytes p) ++ message_bytes 0 (named bytes rest))
        unfolding message_bytes
        split-more = w.split ∙ rw (left_is bytes rows count l, last-is)

        -- the buffer has room for it
        pub room : at + length (record_bytes first last (record_at bytes p)) ≤ length out
        room =
            let xs : List ℕ = record_bytes first last (record_at bytes p) in
            let ys : List ℕ = message_bytes 0 (named bytes rest) in
            omega (arith, ap length split-more, length-append w.front (xs ++ ys), length-append xs ys, w.put.behind, same_size w.put, w₀.enough)

        pub one-laid : {out' : List ℕ} {r : ℕ} → PutAt out out' at (record_bytes first last (record_at bytes p)) r → Laid out' (count + 1) r
        one-laid v = record {
          front = w.front ++ record_bytes first last (record_at bytes p);
          split = split-more ∙ rw (ne_eqb (count + 1) 0 (omega arith)) (sym (append_assoc w.front _ _));
          put = then w.front (record_bytes first last (record_at bytes p)) w.put v;
          fine = ok-both.1;
        }
