-- An answer of the code is determined by its view in the definitions.
-- Assumes nothing.
use mathlib.Core.Path.{◌≡◌, refl, ap, ◌∙◌}
use mathlib.Core.Bool.{Bool}
use mathlib.Core.List.{List}
use Prim.Native.Nat.{ℕ}
use lib.ListN.{length}
use Rattle.std.specs.Prelude.{Result, Ok, Err}
use Rattle.tag.specs.declared.Content as code
use Rattle.tag.specs.declared.Content.TheVariants as content
use Rattle.tag.specs.declared.Report as report
use Rattle.tag.specs.declared.refusals.Refusal.{Refusal}
use Rattle.tag.specs.declared.refusals.Fault.{Fault}
use Rattle.tag.specs.Reading.{Content, message, refusal, answer}
use Rattle.tag.specs.Judge.{accepted, refused}
use Rattle.tag.specs.Answers.{number_of, gives, content_as, read_as, verdict_as, model_as}
use Rattle.tag.proofs.Logic.{nope}
use Rattle.tag.proofs.Numbered.{same-name}
use Rattle.demands.specs.ByContract.{RefusesAt}
use Rattle.demands.specs.Code2.{RefusesWith, Tells}

-- ---- judging and the model

pub accepted-is : (r : Result ℕ Fault) (n : ℕ) → verdict_as r ≡ accepted n → r ≡ Ok n
accepted-is (Err f) n e = absurd (nope (cc))
accepted-is (Ok k) n e = let q : k ≡ n = cc in ap Ok q

pub refused-is : (r : Result ℕ Fault) (f p : ℕ) → verdict_as r ≡ refused f p → RefusesAt r f p
refused-is (Ok k) f p e = absurd (nope (cc))
refused-is (Err g) f p e = (g, refl, e)

pub refused-verdict : (r : Result ℕ Fault) (f p : ℕ) → RefusesAt r f p → verdict_as r ≡ refused f p
refused-verdict r f p (g, q, e) = ap verdict_as q ∙ e

pub stored_is : (r : Result (Unit {0}) Refusal) → model_as r ≡ gives tt → r ≡ Ok tt
stored_is (Err f) e = absurd (nope (cc))
stored_is (Ok u) e = refl

-- ---- reading

pub named-refusal : {A : Type 0} (r : Result A Refusal) (f : Refusal) → RefusesWith r (number_of f) → r ≡ Err f
named-refusal r f (g, q, n) = q ∙ ap Err (same-name g f n)

-- an answer with a report has its capacity, and says whether the tag is writable
content-known : (k : code.Content) (w v : Bool) (c d : ℕ) (h : Content) (a n : ℕ) (i : Bool) → content_as k w c ≡ answer h a n i v d → (v ≡ w) × (d ≡ c)
content-known (content.Message x y i) w v c d h a n j e = (cc, cc)
content-known content.Empty w v c d h a n j e = (cc, cc)
content-known content.BeingWritten w v c d h a n j e = (cc, cc)

pub report-says : (p : report.Report) (h : Content) (a n : ℕ) (i w : Bool) (c : ℕ) → read_as (Ok p) ≡ answer h a n i w c → (w ≡ p.writable) × (c ≡ p.capacity)
report-says p h a n i w c e = content-known p.content p.writable w p.capacity c h a n i e

content-not : (k : code.Content) (w : Bool) (c n : ℕ) → content_as k w c ≡ refusal n → ⊥
content-not (content.Message x y i) w c n e = nope (cc)
content-not content.Empty w c n e = nope (cc)
content-not content.BeingWritten w c n e = nope (cc)

pub not-refused : (p : report.Report) (n : ℕ) → read_as (Ok p) ≡ refusal n → ⊥
not-refused p n e = content-not p.content p.writable p.capacity n e

pub unread-is : (r : Result report.Report Refusal) (n : ℕ) → read_as r ≡ refusal n → RefusesWith r n
unread-is (Err f) n e = let q : number_of f ≡ n = cc in (f, refl, q)
unread-is (Ok p) n e = absurd (not-refused p n e)

pub told : (m : List ℕ) (r : Result report.Report Refusal) (part : List ℕ) (a n : ℕ) (b w : Bool) (c : ℕ) → read_as r ≡ answer message a n b w c → n ≡ length m → part ≡ m → Tells m r part
told m (Err f) part a n b w c e l s = absurd (nope (cc))
told m (Ok p) part a n b w c e l s = go p.content refl
  where
    go : (k : code.Content) → p.content ≡ k → Tells m (Ok p) part
    go (content.Message x y i) q =
        let e' : answer message x.0 y i p.writable p.capacity ≡ answer message a n b w c = rw q at e in
        let z : y ≡ n = cc in
        record { report = p; answered = refl; address = x; interrupted = i; a_message = q ∙ ap (λ k. content.Message x k i) (z ∙ l); its_bytes = s }
    go content.Empty q = let e' : content_as content.Empty p.writable p.capacity ≡ answer message a n b w c = rw q at e in absurd (nope (cc))
    go content.BeingWritten q = let e' : content_as content.BeingWritten p.writable p.capacity ≡ answer message a n b w c = rw q at e in absurd (nope (cc))
