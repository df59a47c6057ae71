-- What a reading says can be shown: without a message there are no bytes, and a message that is not interrupted is a part of
-- the image.
-- Assumes nothing.
use mathlib.Core.Path.{◌≡◌, refl, sym, ap, ◌∙◌, subst}
use mathlib.Core.Bool.{true, false}
use mathlib.Core.List.{List, [], ◌∷◌, map}
use Prim.Native.Nat.{ℕ, suc, ◌+◌, ◌≤◌}
use native.Mathlib.Omega.{arith}
use borrow.Author.Tests.{eqb-true, le-leb, not-false}
use lib.Dec.{eqb}
use lib.ListN.{length, take, drop, length-map}
use Rattle.tag.specs.Bytes.{byte, run, consecutive}
use Rattle.tag.specs.Reading.{Content, message, Report, Reading, reads, part}
use Rattle.tag.proofs.Logic.{and_l, and_r, nope}
use Rattle.tag.proofs.Addresses.{Above, above-length, above-take}
use Rattle.tag.proofs.Runs.{map-run}
use Rattle.tlv.proofs.Locality.{length_above}
use Rattle.tlv_tag.specs.Message.{TlvTag, located, locate, capacity_in, report_of, reading}
use Rattle.tlv_tag.proofs.Tag.{TlvLaws, TlvPlaced, located-placed, located-field, by-report, beyond}

consecutive-run : (a : ℕ) (us : List ℕ) → consecutive (a ∷ us) ≡ true → a ∷ us ≡ run a (length (a ∷ us))
consecutive-run a [] e = refl
consecutive-run a (b ∷ us) e =
    let q : suc a ≡ b = eqb-true (suc a) b (and_l (eqb (suc a) b) (consecutive (b ∷ us)) e) in
    ap (λ r. a ∷ r) (consecutive-run b us (and_r (eqb (suc a) b) (consecutive (b ∷ us)) e) ∙ ap (λ x. run x (length (b ∷ us))) (sym q))

module _ (T : TlvTag) (laws : TlvLaws T) where
  -- the message's addresses rise inside the image
  message-above : (i us ms : List ℕ) → locate T i ≡ located us ms → (x : ℕ) × Above (length i) x ms
  message-above i us ms e =
      let p : TlvPlaced T i us = located-placed T i us ms e in
      let (n, vs, q, t) = located-field T i us ms e in
      (p.at, subst (λ l. Above (length i) p.at l) t (above-take (length i) n p.at vs (length_above (length i) i us vs n q p.at (beyond T laws i us p).1)))

  pub wordless : (i : List ℕ) (p : Report) → reading T i ≡ reads p → (p.content ≡ message → ⊥) → p.bytes ≡ []
  wordless i p e n = let (us, ms, q, r) = by-report T i p e in go (capacity_in (length us)) ms r
    where
      go : (c : ℕ) (ms : List ℕ) → report_of (T.writable i) c i ms ≡ p → p.bytes ≡ []
      go c [] r = rw (← r)
      go c (a ∷ ms) r = absurd (n (rw (← r)))

  pub in_place : (i : List ℕ) (p : Report) → reading T i ≡ reads p → p.content ≡ message → p.interrupted ≡ false
      → part p.address (length p.bytes) i ≡ p.bytes
  in_place i p e m f = let (us, ms, q, r) = by-report T i p e in let (x, h) = message-above i us ms q in go (capacity_in (length us)) x ms r h
    where
      go : (c x : ℕ) (ms : List ℕ) → report_of (T.writable i) c i ms ≡ p → Above (length i) x ms → part p.address (length p.bytes) i ≡ p.bytes
      go c x [] r h = let z : ◌≡◌ {A = Content} Rattle.tag.specs.Reading.empty message = ap (λ s. s.content) r ∙ m in absurd (nope (cc))
      go c x (a ∷ ms) r h =
          let row : consecutive (a ∷ ms) ≡ true = not-false (consecutive (a ∷ ms)) (ap (λ s. s.interrupted) r ∙ f) in
          let n = length (a ∷ ms) in
          let l : a + n ≤ length i = omega (arith, above-length (length i) a ms h.1) in
          let b : map (byte i) (a ∷ ms) ≡ take n (drop a i) = ap (map (byte i)) (consecutive-run a ms row) ∙ map-run n a i l in
          let k : length (map (byte i) (a ∷ ms)) ≡ n = length-map (a ∷ ms) (byte i) in
          let g : part a n i ≡ take n (drop a i) = rw (le-leb (a + n) (length i) l) in
          rw (← r) (ap (λ j. part a j i) k ∙ g ∙ sym b)

  -- a message is no longer than the image
  pub message-short : (i : List ℕ) (p : Report) → reading T i ≡ reads p → length p.bytes ≤ length i
  message-short i p e = let (us, ms, q, r) = by-report T i p e in let (x, h) = message-above i us ms q in go (capacity_in (length us)) x ms r h
    where
      go : (c x : ℕ) (ms : List ℕ) → report_of (T.writable i) c i ms ≡ p → Above (length i) x ms → length p.bytes ≤ length i
      go c x [] r h = rw (← r) (omega arith)
      go c x (a ∷ ms) r h = rw (← r) (omega (arith, length-map (a ∷ ms) (byte i), above-length (length i) x (a ∷ ms) h))
