-- What is reported of a message, and what becomes of the gathering buffer.
-- Assumes nothing.
use mathlib.Core.Path.{◌≡◌, refl, ◌∙◌}
use mathlib.Core.Bool.{Bool, true, false, not}
use mathlib.Core.List.{List, [], ◌∷◌, map}
use Prim.Native.Nat.{ℕ, zero, suc, ◌<◌, ◌≤◌}
use native.Mathlib.Nat.{not-suc-le-zero}
use native.Mathlib.Omega.{arith}
use borrow.Author.Tests.{le-leb, lt-ltb, le-ltb}
use lib.ListN.{length, get_or, take, length-map}
use lib.Seq.{length-take-le}
use Rattle.tag.specs.Bytes.{byte, consecutive, overwrite}
use Rattle.tag.specs.Reading.{message, reads, Answer, refusal, answer, answer_of, gathered_into}
use Rattle.tlv_value.specs.Views.Values.{at, measured}
use Rattle.tlv.proofs.Steps.{within-in_table}
use Rattle.tlv_tag.specs.declared.read.Located.{Located}
use Rattle.tlv_tag.specs.Message.{report_of}
use Rattle.tlv_tag.specs.Views.Reading.{Placed, ValueHeld}

-- where the table is that of the areas before the message TLV
pub value-held : {i t : List ℕ} {l : Located} → Placed i t l → ValueHeld i t l
value-held p = record { in_image = omega (arith, p.in_image, p.same_end); in_table = within-in_table p.value_within; held = p.held }

report-measured : (b : Bool) (c : ℕ) (i us : List ℕ) (n : ℕ) → 1 ≤ n → n ≤ length us
    → report_of b c i (take n us) ≡ record {
      content = message;
      bytes = map (byte i) (take n us);
      address = get_or us 0 0;
      interrupted = not (consecutive (take n us));
      writable = b;
      capacity = c;
    }
report-measured b c i us zero p l = absurd (omega arith)
report-measured b c i [] (suc n) p l = absurd (not-suc-le-zero l)
report-measured b c i (a ∷ us) (suc n) p l = refl

module _ (w : Bool) (c : ℕ) (i us : List ℕ) (n a : ℕ) (b : Bool) (some : 1 ≤ n) (enough : n ≤ length us) (e : at a b ≡ measured n us) where
  is-measured : report_of w c i (take n us) ≡ record { content = message; bytes = map (byte i) (take n us); address = a; interrupted = b; writable = w; capacity = c }
  unfolding measured
  is-measured =
      let q = rw (le-leb n (length us) enough) at e in
      cc (report-measured w c i us n some enough)

  size : length (map (byte i) (take n us)) ≡ n
  size = length-map (take n us) (byte i) ∙ length-take-le n us enough

  module _ (buffer : List ℕ) where
    abbrev pub Answers : Answer → List ℕ → Type 0
    Answers r after = (r ≡ answer_of (length buffer) (reads (report_of w c i (take n us)))) × (after ≡ gathered_into buffer (reads (report_of w c i (take n us))))

    pub whole : b ≡ false → Answers (answer message a n b w c) buffer
    whole q = rw (is-measured, q, size) (refl, refl)

    pub unfit : b ≡ true → length buffer < n → Answers (refusal 13) buffer
    unfit q l = rw (is-measured, q, size, lt-ltb (length buffer) n l) (refl, refl)

    pub fit : (after : List ℕ) → b ≡ true → n ≤ length buffer → after ≡ overwrite (map (byte i) (take n us)) buffer → Answers (answer message a n b w c) after
    fit after q l k = rw (is-measured, q, size, le-ltb (length buffer) n l) (refl, rw size at k)
