-- What reading a Type 3 tag answers is what its attribute information says.
-- Assumes nothing.
use mathlib.Core.Path.{◌≡◌, refl, sym, ap}
use mathlib.Core.Bool.{Bool, true, false, cond}
use mathlib.Core.List.{List}
use Prim.Native.Nat.{ℕ, zero, suc, ◌+◌, ◌≤◌}
use native.Mathlib.Omega.{arith}
use borrow.Author.Tests.{ne_eqb}
use lib.Dec.{eqb}
use lib.ListN.{length, take, drop, length-drop}
use lib.Seq.{length-take-le}
use Rattle.tag.specs.Bytes.{byte}
use Rattle.tag.specs.Checks.{fault, first_of}
use Rattle.tag.specs.Reading.{being-written, empty, message, refusal, answer, answer_of}
use Rattle.type3.specs.declared.read.AttributeInformation.{AttributeInformation}
use Rattle.type3.specs.AttributeInformation.{capacity, attribute_information, attribute_checks, may_write}
use Rattle.type3.specs.Message.{busy, announced, announce_by, reading_of, reading}
use Rattle.type3.specs.Views.AttributeInformation.{Readable, answer_for}
use Rattle.type3.proofs.Message.{unread}

-- a test that fails gives its refusal
pub answer-refused : (i : List ℕ) (r : ℕ) → first_of (attribute_checks (length i) (attribute_information i)) ≡ fault r → answer_of 0 (reading i) ≡ refusal r
answer-refused i r e = ap (answer_of 0) (unread i r e)

-- the attribute information says the rest
pub answer-known : (i : List ℕ) (a : AttributeInformation) → Readable i a → answer_for a ≡ answer_of 0 (reading i)
unfolding reading announce_by
answer-known i a r =
    let k = r.known in
    rw (r.passes, k.says.busy_is, k.says.writable_is, k.says.ln_is, k.says.nmaxb_is)
    (go (eqb (byte i 9) 0x0F) (attribute_information i).ln (omega (arith, k.reach, k.ln_fits, k.says.ln_is)))
  where
    w : Bool
    w = may_write i

    c : ℕ
    c = capacity i

    go : (b : Bool) (n : ℕ) → 16 + n ≤ length i
        → cond b (answer being-written 0 0 false w c) (cond (eqb n 0) (answer empty 0 0 false w c) (answer message 16 n false w c))
        ≡ answer_of 0 (reading_of w i (cond b busy (announced n)))
    go true n l = refl
    go false zero l = refl
    go false (suc n) l =
        let whole : length (take (suc n) (drop 16 i)) ≡ suc n = length-take-le (suc n) (drop 16 i) (rw length-drop (omega arith)) in
        rw (ne_eqb (suc n) 0 (omega arith)) (ap (λ k. answer message 16 k false w c) (sym whole))
