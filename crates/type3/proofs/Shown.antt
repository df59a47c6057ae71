-- What the reading of a Type 3 tag can show: no bytes without a message, and a message as a part of the image.
-- Assumes nothing.
use mathlib.Core.Path.{◌≡◌, refl, sym, ap, ◌∙◌}
use mathlib.Core.Bool.{Bool, true, false}
use mathlib.Core.List.{List, []}
use Prim.Native.Nat.{ℕ, zero, suc, ◌+◌, ◌≤◌}
use native.Mathlib.Omega.{arith}
use borrow.Author.Tests.{le-leb}
use lib.Dec.{eqb}
use lib.ListN.{length, take, drop, length-drop}
use lib.Seq.{length-take-le}
use Rattle.tag.specs.Bytes.{byte}
use Rattle.tag.specs.Checks.{Checked, fine, fault, first_of}
use Rattle.tag.specs.Reading.{Content, message, empty, being-written, Report, reads, part}
use Rattle.tag.proofs.Logic.{nope}
use Rattle.tag.proofs.Checks.{fine-all}
use Rattle.type3.specs.AttributeInformation.{attribute_information, attribute_checks, may_write}
use Rattle.type3.specs.Message.{Announced, refuse, busy, announced, announce_by, announce, without, with_message, reading_of, reading}
use Rattle.type3.proofs.Message.{Passes, bounds, ln_fits}

-- the message's bytes lie in the image
announced-inside : (i : List ℕ) (n : ℕ) → announce i ≡ announced n → 16 + n ≤ length i
unfolding announce_by
announced-inside i n e = go (first_of (attribute_checks (length i) (attribute_information i))) refl (eqb (byte i 9) 0x0F) refl
  where
    go : (c : Checked) → first_of (attribute_checks (length i) (attribute_information i)) ≡ c → (b : Bool) → eqb (byte i 9) 0x0F ≡ b → 16 + n ≤ length i
    go (fault r) p b q = let f : refuse r ≡ announced n = rw p at e in absurd (nope (cc))
    go fine p true q = let f : busy ≡ announced n = rw (p, q) at e in absurd (nope (cc))
    go fine p false q =
        let f : announced (attribute_information i).ln ≡ announced n = rw (p, q) at e in
        let l : (attribute_information i).ln ≡ n = cc in
        let c : Passes i = fine-all (attribute_checks (length i) (attribute_information i)) p in
        omega (arith, l, ln_fits i c, (bounds i c).reach)

pub wordless : (i : List ℕ) (p : Report) → reading i ≡ reads p → (p.content ≡ message → ⊥) → p.bytes ≡ []
unfolding reading
wordless i p e n = go (announce i) e
  where
    go : (v : Announced) → reading_of (may_write i) i v ≡ reads p → p.bytes ≡ []
    go (refuse r) f = absurd (nope (cc))
    go busy f = let q : without being-written i (may_write i) ≡ p = cc in ap (λ x. x.bytes) (sym q)
    go (announced zero) f = let q : without empty i (may_write i) ≡ p = cc in ap (λ x. x.bytes) (sym q)
    go (announced (suc k)) f = let q : with_message (suc k) i (may_write i) ≡ p = cc in absurd (n (ap (λ x. x.content) (sym q)))

pub in_place : (i : List ℕ) (p : Report) → reading i ≡ reads p → p.content ≡ message → p.interrupted ≡ false
    → part p.address (length p.bytes) i ≡ p.bytes
unfolding reading
in_place i p e m f = go (announce i) refl e
  where
    kind : (w : Content) → p.content ≡ w → w ≡ message
    kind w q = sym q ∙ m

    go : (v : Announced) → announce i ≡ v → reading_of (may_write i) i v ≡ reads p → part p.address (length p.bytes) i ≡ p.bytes
    go (refuse r) q g = absurd (nope (cc))
    go busy q g =
        let r : without being-written i (may_write i) ≡ p = cc in
        let z : being-written ≡ message = kind being-written (ap (λ x. x.content) (sym r)) in
        absurd (nope (cc))
    go (announced zero) q g =
        let r : without empty i (may_write i) ≡ p = cc in
        let z : empty ≡ message = kind empty (ap (λ x. x.content) (sym r)) in
        absurd (nope (cc))
    go (announced (suc k)) q g =
        let r : with_message (suc k) i (may_write i) ≡ p = cc in
        let l : 16 + suc k ≤ length i = announced-inside i (suc k) q in
        let n : length (take (suc k) (drop 16 i)) ≡ suc k = length-take-le (suc k) (drop 16 i) (rw length-drop (omega arith)) in
        let h : part 16 (suc k) i ≡ take (suc k) (drop 16 i) = rw (le-leb (16 + suc k) (length i) l) in
        rw (← r) (ap (λ j. part 16 j i) n ∙ h)
