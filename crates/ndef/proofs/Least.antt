-- No message is shorter than what is written for the list that it reads as, and one as short is the same bytes.
-- Assumes nothing.
use mathlib.Core.Path.{◌≡◌, refl, sym, ap, ap₂, ◌∙◌}
use mathlib.Core.Bool.{Bool, true, false, cond}
use mathlib.Core.List.{List, [], ◌∷◌, ◌++◌, append_assoc}
use Prim.Native.Nat.{ℕ, zero, suc, ◌+◌, ◌-◌, ◌*◌, ◌≤◌, ◌<◌}
use native.Mathlib.Omega.{arith}
use lib.ListN.{length, take, drop, length-append, length-drop, take-append-drop}
use lib.Seq.{take-add, length-take-le}
use lib.Dec.{eqb}
use borrow.Author.Tests.{eq-eqb, ne_eqb, eqb-true, eqb-false}
use Rattle.tag.specs.Bytes.{byte, Octets}
use Rattle.tag.specs.Checks.{fine, first_of}
use Rattle.tag.proofs.Logic.{nope}
use Rattle.tag.proofs.Octets.{octets-take, octets-drop}
use Rattle.ndef.specs.Record.{Record, ndef, OctetRecord, OctetRecords}
use Rattle.ndef.specs.Header.{me, tnf, header_length, id_length, payload_length, record_length}
use Rattle.ndef.specs.Message.{records, part, record_checks, record_by, record_of, records_of, message_of}
use Rattle.ndef.specs.Shortest.{header_bytes, record_bytes, message_bytes, is_shortest_header, are_shortest, is_shortest}
use Rattle.ndef.specs.Writing.{is_writable, are_writable}
use Rattle.ndef.proofs.Sound.{sound, both}
use Rattle.ndef.proofs.Turns.{too_many, no-message, some-message, step, none_read}
use Rattle.ndef.proofs.HeaderLeast.{Tight, headed, even}
use Rattle.ndef.proofs.ListBack.{Fit, Listed, fits-so}

-- `front`, `size` bytes long, against the bytes that are written
pub record Least (bytes : List ℕ) (size : ℕ) (front : List ℕ) : Type 0 where
  pub small : length bytes ≤ size
  pub same : length bytes ≡ size → front ≡ bytes

-- ---- one record

pub part-size : (s : List ℕ) (at n : ℕ) → at + n ≤ length s → length (part at n s) ≡ n
unfolding part
part-size s at n h = length-take-le n (drop at s) (omega (arith, length-drop at s))

pub octets-part : (s : List ℕ) → Octets s → (at n : ℕ) → Octets (part at n s)
unfolding part
octets-part s o at n = octets-take n (drop at s) (octets-drop at s o)

parts : (s : List ℕ) (header k i p : ℕ) → take (header + k + i + p) s ≡ take header s ++ (part header k s ++ (part (header + k) i s ++ part (header + k + i) p s))
unfolding part
parts s header k i p = rw (take-add (header + k + i) p s, take-add (header + k) i s, take-add header k s) (simp append_assoc)

-- the record that lies in s behind a header, with a type of k bytes, an ID of i and a payload of p
module _ (first last t header k i p : ℕ) (s : List ℕ) (h : header + k + i + p ≤ length s) where
  abbrev header-bytes : List ℕ
  header-bytes = header_bytes (first * 128 + last * 64 + t) k i p

  abbrev behind : List ℕ
  behind = part header k s ++ (part (header + k) i s ++ part (header + k + i) p s)

  abbrev cut : Record
  cut = ndef t (part header k s) (part (header + k) i s) (part (header + k + i) p s)

  type-size : length (part header k s) ≡ k
  type-size = part-size s header k (omega arith)

  id-size : length (part (header + k) i s) ≡ i
  id-size = part-size s (header + k) i (omega arith)

  payload-size : length (part (header + k + i) p s) ≡ p
  payload-size = part-size s (header + k + i) p h

  cut-bytes : record_bytes first last cut ≡ header-bytes ++ behind
  unfolding record_bytes
  cut-bytes = rw (type-size, id-size, payload-size)

  cut-size : length (record_bytes first last cut) ≡ length header-bytes + (k + (i + p))
  cut-size = rw (cut-bytes, length-append, length-append, length-append, type-size, id-size, payload-size)

  least_by : Tight (first * 128 + last * 64 + t) k i p header (take header s) → Least (record_bytes first last cut) (header + k + i + p) (take (header + k + i + p) s)
  least_by w = record {
    small = omega (arith, cut-size, w.small);
    same = λ e. parts s header k i p ∙ ap (λ (x : List ℕ). x ++ behind) (w.same (omega (arith, cut-size))) ∙ sym cut-bytes;
  }

  cut_fits : Fit t k i p → is_writable cut ≡ true
  cut_fits w = fits-so t (part header k s) (part (header + k) i s) (part (header + k + i) p s) (rw (type-size, id-size, payload-size) w)

  cut-octets : Octets s → OctetRecord cut
  cut-octets o = (octets-part s o header k, octets-part s o (header + k) i, octets-part s o (header + k + i) p)

-- a record that passes its tests
record Front (s : List ℕ) (last first : ℕ) : Type 0 where
  ends : last ≡ cond (eqb (record_length s) (length s)) 1 0
  whole : record_length s ≤ length s
  fits : is_writable (record_of s) ≡ true
  octets : OctetRecord (record_of s)
  least : Least (record_bytes first last (record_of s)) (record_length s) (take (record_length s) s)
  even : is_shortest_header s ≡ true → length (record_bytes first last (record_of s)) ≡ record_length s
  shortest : length (record_bytes first last (record_of s)) ≡ record_length s → is_shortest_header s ≡ true

front : (s : List ℕ) (first : ℕ) → Octets s → first_of (record_checks first s) ≡ fine → Front s (me (byte s 0)) first
unfolding record_checks record_of record_by record_length is_shortest_header
front s first o z =
    let f : ℕ = byte s 0 in
    let header : ℕ = header_length f in
    let k : ℕ = byte s 1 in
    let i : ℕ = id_length f s in
    let p : ℕ = payload_length f s in
    let w = sound f header k i p (length s) first z in
    let whole : header + k + i + p ≤ length s = w.whole in
    let h = headed s o first (me f) w.begins refl w.unchunked (omega arith) in
    let long = cut-size first (me f) (tnf f) header k i p s whole in
    let e = even f (first * 128 + me f * 64 + tnf f) k i p in
    record {
      ends = w.ends;
      whole = whole;
      fits = cut_fits first (me f) (tnf f) header k i p s whole (record { allowed = w.allowed; type_small = h.type_small; id_small = h.id_small; payload_small = h.payload_small });
      octets = cut-octets first (me f) (tnf f) header k i p s whole o;
      least = least_by first (me f) (tnf f) header k i p s whole h.tight;
      even = λ q. omega (arith, long, e.even q);
      shortest = λ q. e.shortest (omega (arith, long));
    }

-- ---- the list

-- a list that s reads as
record Below (first n : ℕ) (s : List ℕ) (rs : List Record) : Type 0 where
  few : length rs ≤ n
  none : length rs ≡ 0 → length s ≡ 0
  ended : length s ≡ 0 → length rs ≡ 0
  each : are_writable rs ≡ true
  octets : OctetRecords rs
  least : Least (message_bytes first rs) (length s) s
  even : are_shortest n s ≡ true → length (message_bytes first rs) ≡ length s
  shortest : length (message_bytes first rs) ≡ length s → are_shortest n s ≡ true

shortest-none : (n : ℕ) → are_shortest n [] ≡ true
unfolding are_shortest
shortest-none zero = refl
shortest-none (suc n) = refl

shortest-more : (n : ℕ) (s : List ℕ) → 0 < length s → are_shortest (suc n) s ≡ cond (is_shortest_header s) (are_shortest n (drop (record_length s) s)) false
unfolding are_shortest
shortest-more n s h = rw (are_shortest, ne_eqb (length s) 0 (omega arith))

none_left : (first n : ℕ) (rs : List Record) → rs ≡ [] → Below first n [] rs
unfolding are_writable message_bytes
none_left first n rs e =
    rw e (record {
      few = omega arith;
      none = λ z. refl;
      ended = λ z. refl;
      each = refl;
      octets = tt;
      least = record { small = omega arith; same = λ z. refl };
      even = λ z. refl;
      shortest = λ z. shortest-none n;
    })

-- ME of the last record: nothing is left of the list exactly if nothing is left of s
last_bit : (n m size all : ℕ) → (n ≡ 0 → m ≡ 0) → (m ≡ 0 → n ≡ 0) → m ≡ all - size → size ≤ all → ◌≡◌ {A = ℕ} (cond (eqb n 0) 1 0) (cond (eqb size all) 1 0)
last_bit n m size all a b e h = go (eqb n 0) refl
  where
    go : (c : Bool) → eqb n 0 ≡ c → ◌≡◌ {A = ℕ} (cond (eqb n 0) 1 0) (cond (eqb size all) 1 0)
    go true q = rw (q, eq-eqb size all (omega (arith, a (eqb-true n 0 q))))
    go false q = rw (q, ne_eqb size all (λ y. eqb-false n 0 q (b (omega arith))))

more : (first n : ℕ) (s : List ℕ) (rs : List Record) → Octets s → 0 < length s → first_of (record_checks first s) ≡ fine → Below 0 n (drop (record_length s) s) rs
    → Below first (suc n) s (record_of s ∷ rs)
unfolding are_writable message_bytes
more first n s rs o l z w =
    let f = front s first o z in
    let size : ℕ = record_length s in
    let bit : cond (eqb (length rs) 0) 1 0 ≡ me (byte s 0) =
    last_bit (length rs) (length (drop size s)) size (length s) w.none w.ended (length-drop size s) f.whole ∙ sym f.ends in
    let xs : List ℕ = record_bytes first (me (byte s 0)) (record_of s) in
    let ys : List ℕ = message_bytes 0 rs in
    let long : length (xs ++ ys) ≡ length xs + length ys = length-append xs ys in
    let rest : length (drop size s) ≡ length s - size = length-drop size s in
    let a : length xs ≤ size = f.least.small in
    let b : length ys ≤ length (drop size s) = w.least.small in
    let c : size ≤ length s = f.whole in
    let again = shortest-more n s l in
    record {
      few = omega (arith, w.few);
      none = λ q. absurd (omega arith);
      ended = λ q. absurd (omega arith);
      each = rw f.fits w.each;
      octets = (f.octets, w.octets);
      least = rw bit (record {
        small = omega arith;
        same = λ q. sym (take-append-drop size s) ∙ ap₂ (λ (x y : List ℕ). x ++ y) (f.least.same (omega arith)) (w.least.same (omega arith));
      });
      even = λ q.
          let t = both (is_shortest_header s) (are_shortest n (drop size s)) (sym again ∙ q) in
          rw bit (omega (arith, f.even t.0, w.even t.1));
      shortest = rw bit (λ q. again ∙ rw (f.shortest (omega arith)) (w.shortest (omega arith)));
    }

below : (first n : ℕ) (s : List ℕ) (rs : List Record) → Octets s → records_of first n s ≡ records rs → Below first n s rs
below first zero [] rs o e = none_left first 0 rs (none_read first 0 [] rs refl e)
below first zero (b ∷ s) rs o e = absurd (nope (cc (too_many first (b ∷ s) (omega arith))))
below first (suc n) [] rs o e = none_left first (suc n) rs (none_read first (suc n) [] rs refl e)
below first (suc n) (b ∷ s) rs o e =
    let t = step first n (b ∷ s) rs (omega arith) e in
    rw t.list-is (more first n (b ∷ s) t.more o (omega arith) t.passes
    (below 0 n (drop (record_length (b ∷ s)) (b ∷ s)) t.more (octets-drop (record_length (b ∷ s)) (b ∷ s) o) t.reads_more))

-- ---- the message

-- a message, and the list that it reads as
pub record Message (m : List ℕ) (rs : List Record) : Type 0 where
  pub list : Listed rs
  pub octets : OctetRecords rs
  pub least : Least (message_bytes 1 rs) (length m) m
  pub even : is_shortest m ≡ true → length (message_bytes 1 rs) ≡ length m
  pub shortest : length (message_bytes 1 rs) ≡ length m → is_shortest m ≡ true

pub message : (m : List ℕ) (rs : List Record) → Octets m → message_of m ≡ records rs → Message m rs
unfolding is_shortest
message m rs o e = go (eqb (length m) 0) refl
  where
    go : (c : Bool) → eqb (length m) 0 ≡ c → Message m rs
    go true q = absurd (nope (cc (no-message m (eqb-true (length m) 0 q))))
    go false q =
        let some : length m ≡ 0 → ⊥ = eqb-false (length m) 0 q in
        let w = below 1 16 m rs o (sym (some-message m some) ∙ e) in
        let n : length rs ≡ 0 → ⊥ = λ z. some (w.none z) in
        record { list = record { some = omega arith; few = w.few; each = w.each }; octets = w.octets; least = w.least; even = w.even; shortest = w.shortest }
