-- No header is shorter than the one that is written, and one as short is the same bytes.
-- Assumes nothing.
use mathlib.Core.Path.{◌≡◌, refl, sym, ap, ◌∙◌}
use mathlib.Core.Bool.{Bool, true, false, cond}
use mathlib.Core.List.{List, [], ◌∷◌}
use Prim.Native.Nat.{ℕ, ◌+◌, ◌*◌, ◌/◌, ◌%◌, ◌≤◌, ◌<◌, ◌^◌}
use native.Mathlib.Omega.{arith}
use lib.ListN.{length, take}
use lib.Seq.{take-suc}
use lib.Dec.{eqb, ltb}
use borrow.Author.Tests.{ltb-true, ltb-false, eqb-true, eqb-false}
use Rattle.tag.specs.Bytes.{byte, Octets}
use Rattle.tag.proofs.Logic.{nope}
use Rattle.tag.proofs.Octets.{octets-byte}
use Rattle.ndef.specs.Header.{header_length, id_length, payload_length}
use Rattle.ndef.specs.Shortest.{header_bytes, is_shortest_by}
use Rattle.ndef.proofs.HeaderForms.{header-3, header-4, header-6, header-7, header-long}

-- `front`, `header` bytes long, against the header that is written
pub record Tight (flags type id payload header : ℕ) (front : List ℕ) : Type 0 where
  pub small : length (header_bytes flags type id payload) ≤ header
  pub same : length (header_bytes flags type id payload) ≡ header → front ≡ header_bytes flags type id payload

-- a header with the flags f is as long as the one that is written exactly if it uses the shortest form
pub record Even (f flags type id payload header : ℕ) : Type 0 where
  pub even : is_shortest_by f id payload ≡ true → length (header_bytes flags type id payload) ≡ header
  pub shortest : length (header_bytes flags type id payload) ≡ header → is_shortest_by f id payload ≡ true

-- the tests, whatever they are: x and y the bits, a and b what they should be
evens : (x y : ℕ) (a b : Bool) → x < 2 → y < 2
    → (cond (eqb x (cond a 1 0)) (eqb y (cond b 0 1)) false ≡ true → ◌≡◌ {A = ℕ} (cond a (cond b 3 4) (cond b 6 7)) (cond (eqb x 1) (cond (eqb y 1) 4 3) (cond (eqb y 1) 7 6)))
    × (◌≡◌ {A = ℕ} (cond a (cond b 3 4) (cond b 6 7)) (cond (eqb x 1) (cond (eqb y 1) 4 3) (cond (eqb y 1) 7 6)) → cond (eqb x (cond a 1 0)) (eqb y (cond b 0 1)) false ≡ true)
evens x y a b hx hy = go (eqb x 1) refl (eqb y 1) refl where
  on : (n : ℕ) → n < 2 → (t : Bool) → eqb n 1 ≡ t → n ≡ cond t 1 0
  on n h true q = eqb-true n 1 q
  on n h false q = let f : n ≡ 1 → ⊥ = eqb-false n 1 q in omega arith

  same : (t u a b : Bool)
      → (cond (eqb (cond t 1 0) (cond a 1 0)) (eqb (cond u 1 0) (cond b 0 1)) false ≡ true → ◌≡◌ {A = ℕ} (cond a (cond b 3 4) (cond b 6 7)) (cond t (cond u 4 3) (cond u 7 6)))
      × (◌≡◌ {A = ℕ} (cond a (cond b 3 4) (cond b 6 7)) (cond t (cond u 4 3) (cond u 7 6)) → cond (eqb (cond t 1 0) (cond a 1 0)) (eqb (cond u 1 0) (cond b 0 1)) false ≡ true)
  same true true true true = (λ h. absurd (nope (cc)), λ e. absurd (omega arith))
  same true true true false = (λ _. refl, λ _. refl)
  same true true false true = (λ h. absurd (nope (cc)), λ e. absurd (omega arith))
  same true true false false = (λ h. absurd (nope (cc)), λ e. absurd (omega arith))
  same true false true true = (λ _. refl, λ _. refl)
  same true false true false = (λ h. absurd (nope (cc)), λ e. absurd (omega arith))
  same true false false true = (λ h. absurd (nope (cc)), λ e. absurd (omega arith))
  same true false false false = (λ h. absurd (nope (cc)), λ e. absurd (omega arith))
  same false true true true = (λ h. absurd (nope (cc)), λ e. absurd (omega arith))
  same false true true false = (λ h. absurd (nope (cc)), λ e. absurd (omega arith))
  same false true false true = (λ h. absurd (nope (cc)), λ e. absurd (omega arith))
  same false true false false = (λ _. refl, λ _. refl)
  same false false true true = (λ h. absurd (nope (cc)), λ e. absurd (omega arith))
  same false false true false = (λ h. absurd (nope (cc)), λ e. absurd (omega arith))
  same false false false true = (λ _. refl, λ _. refl)
  same false false false false = (λ h. absurd (nope (cc)), λ e. absurd (omega arith))

  go : (t : Bool) → eqb x 1 ≡ t → (u : Bool) → eqb y 1 ≡ u
      → (cond (eqb x (cond a 1 0)) (eqb y (cond b 0 1)) false ≡ true → ◌≡◌ {A = ℕ} (cond a (cond b 3 4) (cond b 6 7)) (cond (eqb x 1) (cond (eqb y 1) 4 3) (cond (eqb y 1) 7 6)))
      × (◌≡◌ {A = ℕ} (cond a (cond b 3 4) (cond b 6 7)) (cond (eqb x 1) (cond (eqb y 1) 4 3) (cond (eqb y 1) 7 6)) → cond (eqb x (cond a 1 0)) (eqb y (cond b 0 1)) false ≡ true)
  go t q u w = rw (q, w, on x hx t q, on y hy u w) (same t u a b)

pub even : (f flags type id payload : ℕ) → Even f flags type id payload (header_length f)
unfolding is_shortest_by header_length
even f flags type id payload =
    let w = evens (f / 16 % 2) (f / 8 % 2) (ltb payload 256) (eqb id 0) (omega arith) (omega arith) in
    record { even = λ h. header-long flags type id payload ∙ w.0 h; shortest = λ e. w.1 (sym (header-long flags type id payload) ∙ e) }

-- a byte is its bits
bits : (f : ℕ) → f ≡ f / 128 * 128 + f / 64 % 2 * 64 + f / 32 % 2 * 32 + f / 16 % 2 * 16 + f / 8 % 2 * 8 + f % 8
bits f =
    let a : f / 8 ≡ f / 16 * 2 + f / 8 % 2 = omega arith in
    let b : f / 16 ≡ f / 32 * 2 + f / 16 % 2 = omega arith in
    let c : f / 32 ≡ f / 64 * 2 + f / 32 % 2 = omega arith in
    let d : f / 64 ≡ f / 128 * 2 + f / 64 % 2 = omega arith in
    let e : f ≡ f / 8 * 8 + f % 8 = omega arith in
    omega arith

module _ (f k first last : ℕ) (octet : f < 256) (begins : f / 128 ≡ first) (ends : f / 64 % 2 ≡ last) (unchunked : f / 32 % 2 ≡ 0) where
  abbrev flags : ℕ
  flags = first * 128 + last * 64 + f % 8

  -- two headers of known bytes
  by : (type id payload header : ℕ) (front h : List ℕ) → header_bytes flags type id payload ≡ h → length h ≤ header → (length h ≡ header → front ≡ h)
      → Tight flags type id payload header front
  by type id payload header front h e a b = record { small = rw e a; same = rw e b }

  tight-3 : (p : ℕ) → p < 256 → f / 16 % 2 ≡ 1 → (f / 8 % 2 ≡ 1 → ⊥) → Tight flags k 0 p 3 (f ∷ k ∷ p ∷ [])
  tight-3 p h sr il =
      let e : f ≡ flags + 16 = omega (arith, bits f) in
      by k 0 p 3 _ _ (header-3 flags k 0 p h refl) (omega arith) (λ _. ap (λ (x : ℕ). x ∷ k ∷ p ∷ []) e)

  tight-4 : (p i : ℕ) → p < 256 → f / 16 % 2 ≡ 1 → f / 8 % 2 ≡ 1 → Tight flags k i p 4 (f ∷ k ∷ p ∷ i ∷ [])
  tight-4 p i h sr il = go (eqb i 0) refl where
    go : (b : Bool) → eqb i 0 ≡ b → Tight flags k i p 4 (f ∷ k ∷ p ∷ i ∷ [])
    go true q = by k i p 4 _ _ (header-3 flags k i p h (eqb-true i 0 q)) (omega arith) (λ z. absurd (omega arith))
    go false q =
        let e : f ≡ flags + 24 = omega (arith, bits f) in
        by k i p 4 _ _ (header-4 flags k i p h (eqb-false i 0 q)) (omega arith) (λ _. ap (λ (x : ℕ). x ∷ k ∷ p ∷ i ∷ []) e)

  module _ (a b c d p : ℕ) (ha : a < 256) (hb : b < 256) (hc : c < 256) (hd : d < 256) (sum : p ≡ a * 16777216 + b * 65536 + c * 256 + d) (sr : f / 16 % 2 ≡ 1 → ⊥) where
    tight-6 : (f / 8 % 2 ≡ 1 → ⊥) → Tight flags k 0 p 6 (f ∷ k ∷ a ∷ b ∷ c ∷ d ∷ [])
    tight-6 il = go (ltb p 256) refl where
      go : (t : Bool) → ltb p 256 ≡ t → Tight flags k 0 p 6 (f ∷ k ∷ a ∷ b ∷ c ∷ d ∷ [])
      go true q = by k 0 p 6 _ _ (header-3 flags k 0 p (ltb-true p 256 q) refl) (omega arith) (λ z. absurd (omega arith))
      go false q =
          let e : f ≡ flags = omega (arith, bits f) in
          let e3 : a ≡ p / 256 / 256 / 256 % 256 = omega arith in
          let e2 : b ≡ p / 256 / 256 % 256 = omega arith in
          let e1 : c ≡ p / 256 % 256 = omega arith in
          let e0 : d ≡ p % 256 = omega arith in
          by k 0 p 6 _ _ (header-6 flags k 0 p (ltb-false p 256 q) refl) (omega arith) (λ _. cc)

    tight-7 : (i : ℕ) → f / 8 % 2 ≡ 1 → Tight flags k i p 7 (f ∷ k ∷ a ∷ b ∷ c ∷ d ∷ i ∷ [])
    tight-7 i il = go (ltb p 256) refl (eqb i 0) refl where
      go : (t : Bool) → ltb p 256 ≡ t → (u : Bool) → eqb i 0 ≡ u → Tight flags k i p 7 (f ∷ k ∷ a ∷ b ∷ c ∷ d ∷ i ∷ [])
      go true q true w = by k i p 7 _ _ (header-3 flags k i p (ltb-true p 256 q) (eqb-true i 0 w)) (omega arith) (λ z. absurd (omega arith))
      go true q false w = by k i p 7 _ _ (header-4 flags k i p (ltb-true p 256 q) (eqb-false i 0 w)) (omega arith) (λ z. absurd (omega arith))
      go false q true w = by k i p 7 _ _ (header-6 flags k i p (ltb-false p 256 q) (eqb-true i 0 w)) (omega arith) (λ z. absurd (omega arith))
      go false q false w =
          let e : f ≡ flags + 8 = omega (arith, bits f) in
          let e3 : a ≡ p / 256 / 256 / 256 % 256 = omega arith in
          let e2 : b ≡ p / 256 / 256 % 256 = omega arith in
          let e1 : c ≡ p / 256 % 256 = omega arith in
          let e0 : d ≡ p % 256 = omega arith in
          by k i p 7 _ _ (header-7 flags k i p (ltb-false p 256 q) (eqb-false i 0 w)) (omega arith) (λ _. cc)

-- ---- the first bytes by name

module _ (s : List ℕ) where
  take-3 : 3 ≤ length s → take 3 s ≡ byte s 0 ∷ byte s 1 ∷ byte s 2 ∷ []
  take-3 h = take-suc s 2 0 (omega arith) ∙ rw (take-suc s 1 0 (omega arith), take-suc s 0 0 (omega arith))

  take-4 : 4 ≤ length s → take 4 s ≡ byte s 0 ∷ byte s 1 ∷ byte s 2 ∷ byte s 3 ∷ []
  take-4 h = take-suc s 3 0 (omega arith) ∙ rw (take-3 (omega arith))

  take-6 : 6 ≤ length s → take 6 s ≡ byte s 0 ∷ byte s 1 ∷ byte s 2 ∷ byte s 3 ∷ byte s 4 ∷ byte s 5 ∷ []
  take-6 h = take-suc s 5 0 (omega arith) ∙ rw (take-suc s 4 0 (omega arith), take-4 (omega arith))

  take-7 : 7 ≤ length s → take 7 s ≡ byte s 0 ∷ byte s 1 ∷ byte s 2 ∷ byte s 3 ∷ byte s 4 ∷ byte s 5 ∷ byte s 6 ∷ []
  take-7 h = take-suc s 6 0 (omega arith) ∙ rw (take-6 (omega arith))

-- what the header of s says, and that it is tight
pub record Headed (s : List ℕ) (first last : ℕ) : Type 0 where
  pub type_small : byte s 1 < 256
  pub id_small : id_length (byte s 0) s < 256
  pub payload_small : payload_length (byte s 0) s < 2 ^ 32
  pub tight : Tight (first * 128 + last * 64 + byte s 0 % 8) (byte s 1) (id_length (byte s 0) s) (payload_length (byte s 0) s)
      (header_length (byte s 0)) (take (header_length (byte s 0)) s)

module _ (s : List ℕ) (o : Octets s) (first last : ℕ)
    (begins : byte s 0 / 128 ≡ first) (ends : byte s 0 / 64 % 2 ≡ last) (unchunked : byte s 0 / 32 % 2 ≡ 0) (whole : header_length (byte s 0) ≤ length s) where
  abbrev f : ℕ
  f = byte s 0

  octet : (i : ℕ) → byte s i < 256
  octet i = octets-byte s o i

  small-sum : (a b c d : ℕ) → a < 256 → b < 256 → c < 256 → d < 256 → a * 16777216 + b * 65536 + c * 256 + d < 2 ^ 32
  small-sum a b c d ha hb hc hd = omega arith

  pub headed : Headed s first last
  unfolding header_length id_length payload_length
  headed = go (eqb (f / 16 % 2) 1) refl (eqb (f / 8 % 2) 1) refl where
    go : (x : Bool) → eqb (f / 16 % 2) 1 ≡ x → (y : Bool) → eqb (f / 8 % 2) 1 ≡ y → Headed s first last
    go true q false w =
        let size : header_length f ≡ 3 = rw (q, w) in
        let id : id_length f s ≡ 0 = rw w in
        let payload : payload_length f s ≡ byte s 2 = rw q in
        record {
          type_small = octet 1;
          id_small = omega arith;
          payload_small = omega (arith, octet 2);
          tight = rw (id, payload, size, take-3 s (omega arith))
              (tight-3 f (byte s 1) first last (octet 0) begins ends unchunked (byte s 2) (octet 2) (eqb-true (f / 16 % 2) 1 q) (eqb-false (f / 8 % 2) 1 w));
        }
    go true q true w =
        let size : header_length f ≡ 4 = rw (q, w) in
        let id : id_length f s ≡ byte s 3 = rw (w, q) in
        let payload : payload_length f s ≡ byte s 2 = rw q in
        record {
          type_small = octet 1;
          id_small = rw id (octet 3);
          payload_small = omega (arith, octet 2);
          tight = rw (id, payload, size, take-4 s (omega arith))
              (tight-4 f (byte s 1) first last (octet 0) begins ends unchunked (byte s 2) (byte s 3) (octet 2) (eqb-true (f / 16 % 2) 1 q) (eqb-true (f / 8 % 2) 1 w));
        }
    go false q false w =
        let size : header_length f ≡ 6 = rw (q, w) in
        let id : id_length f s ≡ 0 = rw w in
        let payload : payload_length f s ≡ byte s 2 * 16777216 + byte s 3 * 65536 + byte s 4 * 256 + byte s 5 = rw q in
        record {
          type_small = octet 1;
          id_small = omega arith;
          payload_small = rw payload (small-sum (byte s 2) (byte s 3) (byte s 4) (byte s 5) (octet 2) (octet 3) (octet 4) (octet 5));
          tight = rw (id, size, take-6 s (omega arith))
              (tight-6 f (byte s 1) first last (octet 0) begins ends unchunked
              (byte s 2) (byte s 3) (byte s 4) (byte s 5) (payload_length f s) (octet 2) (octet 3) (octet 4) (octet 5) payload (eqb-false (f / 16 % 2) 1 q) (eqb-false (f / 8 % 2) 1 w));
        }
    go false q true w =
        let size : header_length f ≡ 7 = rw (q, w) in
        let id : id_length f s ≡ byte s 6 = rw (w, q) in
        let payload : payload_length f s ≡ byte s 2 * 16777216 + byte s 3 * 65536 + byte s 4 * 256 + byte s 5 = rw q in
        record {
          type_small = octet 1;
          id_small = rw id (octet 6);
          payload_small = rw payload (small-sum (byte s 2) (byte s 3) (byte s 4) (byte s 5) (octet 2) (octet 3) (octet 4) (octet 5));
          tight = rw (id, size, take-7 s (omega arith))
              (tight-7 f (byte s 1) first last (octet 0) begins ends unchunked
              (byte s 2) (byte s 3) (byte s 4) (byte s 5) (payload_length f s) (octet 2) (octet 3) (octet 4) (octet 5) payload (eqb-false (f / 16 % 2) 1 q) (byte s 6) (eqb-true (f / 8 % 2) 1 w));
        }
