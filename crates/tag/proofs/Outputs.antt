-- What an answer of writing, encoding or reading records says of the output that it was given for.
-- Assumes nothing.
use mathlib.Core.Path.{◌≡◌, refl, sym, ap, ◌∙◌}
use mathlib.Core.Bool.{Bool, true, false, ◌&&◌}
use mathlib.Core.Logic.{◌↔◌}
use mathlib.Core.List.{List}
use Prim.Native.Nat.{ℕ}
use lib.Dec.{leb}
use lib.ListN.{length}
use Rattle.std.specs.Prelude.{Result, Ok, Err}
use Rattle.tag.specs.declared.refusals.Refusal as refusals
use Rattle.tag.specs.Bytes.{overwrite}
use Rattle.tag.specs.Refusals.{Refusal, plain, positioned, refusal_at, malformed_command, unfinished}
use Rattle.tag.specs.TagType.{Output, refused_output, output, output_into}
use Rattle.tag.specs.Answers.{number_of, gives, refuses_one, count_of, count_as}
use Rattle.tag.specs.PublicContracts.{PutOut}
use Rattle.tag.proofs.Logic.{nope}
use Rattle.tag.proofs.Numbered.{same-name}

-- ---- refusals are equal if their numbers are

refusal_number : Refusal → ℕ
refusal_number (plain r) = r
refusal_number (positioned r p) = r

number-is : (r : ℕ) → refusal_number (refusal_at r 0) ≡ r
unfolding refusal_number
number-is r = go (leb malformed_command r && leb r unfinished) refl
  where
    go : (b : Bool) → leb malformed_command r && leb r unfinished ≡ b → refusal_number (refusal_at r 0) ≡ r
    go true q = rw q
    go false q = rw q

pub same-refusal : {A : Type 0} (r s : ℕ) → refuses_one {A = A} r ≡ refuses_one s → r ≡ s
same-refusal r s e = let q : refusal_at r 0 ≡ refusal_at s 0 = cc in sym (number-is r) ∙ ap refusal_number q ∙ number-is s

-- ---- answers that give a count

pub counted_is : (r : Result ℕ refusals.Refusal) (n : ℕ) → count_as r ≡ gives n → r ≡ Ok n
counted_is (Err f) n e = absurd (nope (cc))
counted_is (Ok k) n e = let q : k ≡ n = cc in ap Ok q

-- the refusal has the number n
abbrev pub RefusesWith : Result ℕ refusals.Refusal → ℕ → Type 0
RefusesWith r n = (f : refusals.Refusal) × (r ≡ Err f) × (number_of f ≡ n)

pub refused-count-is : (r : Result ℕ refusals.Refusal) (n : ℕ) → count_as r ≡ refuses_one n → RefusesWith r n
refused-count-is (Err f) n e = (f, refl, same-refusal (number_of f) n e)
refused-count-is (Ok k) n e = absurd (nope (cc))

module _ (o : ℕ → Output) (buffer out : List ℕ) where
  -- an output is answered with its count, and lies at the buffer's front
  pub put_all : (r : Result ℕ refusals.Refusal) (n : ℕ) (all : List ℕ) → PutOut o buffer r out → o (length buffer) ≡ output n all
      → (r ≡ Ok n) × (out ≡ overwrite all buffer)
  put_all r n all (a, b) e = (counted_is r n (a ∙ ap count_of e), b ∙ ap (output_into buffer) e)

  -- and where a count is answered, there is an output with that count
  pub put-counted : (n : ℕ) → PutOut o buffer (Ok n) out → (all : List ℕ) × (o (length buffer) ≡ output n all) × (out ≡ overwrite all buffer)
  put-counted n (a, b) = go (o (length buffer)) refl
    where
      go : (x : Output) → o (length buffer) ≡ x → (all : List ℕ) × (o (length buffer) ≡ output n all) × (out ≡ overwrite all buffer)
      go (refused_output r) q = let z : gives n ≡ refuses_one r = a ∙ ap count_of q in absurd (nope (cc))
      go (output k all) q =
          let z : gives n ≡ gives k = a ∙ ap count_of q in
          let k-n : k ≡ n = cc in
          (all, q ∙ ap (λ x. output x all) k-n, b ∙ ap (output_into buffer) q)

-- a refusal is answered exactly if the output is that refusal
pub refused-exactly : (o : Output) (r : Result ℕ refusals.Refusal) (f : refusals.Refusal) → count_as r ≡ count_of o → r ≡ Err f ↔ o ≡ refused_output (number_of f)
refused-exactly o r f e = (λ q. go o (sym (ap count_as q) ∙ e), λ z. back (refused-count-is r (number_of f) (e ∙ ap count_of z)))
  where
    go : (o : Output) → refuses_one (number_of f) ≡ count_of o → o ≡ refused_output (number_of f)
    go (refused_output j) e = ap refused_output (sym (same-refusal (number_of f) j e))
    go (output n all) e = absurd (nope (cc))

    back : RefusesWith r (number_of f) → r ≡ Err f
    back (g, q, n) = q ∙ ap Err (same-name g f n)
