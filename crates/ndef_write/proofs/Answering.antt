-- What writing answers, from the length of the message: 33 if there is none, 12 if it does not fit, else the message.
-- Assumes nothing.
use mathlib.Core.Path.{◌≡◌, refl, sym, ap, ◌∙◌}
use mathlib.Core.Bool.{Bool, true, false, cond}
use mathlib.Core.List.{List, map}
use Prim.Native.Nat.{ℕ, ◌/◌, ◌%◌, ◌≤◌, ◌<◌}
use native.Mathlib.Omega.{arith}
use lib.ListN.{length}
use lib.Seq.{sets}
use borrow.Author.Tests.{le-leb, lt-leb, eq-eqb, ne_eqb}
use Rattle.std.specs.Prelude.{Ok, Err}
use Rattle.std.specs.Simd.{first_chunks}
use Rattle.tag.specs.declared.refusals.Refusal.TheVariants.{UnwritableRecords, ShortBuffer}
use Rattle.tag.specs.TagType.{Output, refused_output, output, fitted, output_into}
use Rattle.tag.specs.Answers.{count_of}
use Rattle.tag.proofs.Logic.{nope}
use Rattle.tag.proofs.Storing.{sets-front}
use Rattle.ndef.specs.Places.{record_at}
use Rattle.ndef.specs.Shortest.{message_bytes}
use Rattle.ndef.specs.Writing.{is_writable_list, write_list, all_lie_in, is_list, records_in, write}
use Rattle.ndef.specs.PublicContracts.{WroteRecords}
use Rattle.ndef.proofs.Sound.{both}
use Rattle.ndef_write.specs.Views.Sizes.{places, named, is_list_of, Sized}
use Rattle.ndef_write.specs.Views.Laying.{Fits}
use Rattle.ndef_write.proofs.Measuring.{rows-are}

-- whatever the two tests are
neither : (a b : Bool) (o : Output) → cond a b false ≡ false → cond a (cond b o (refused_output 33)) (refused_output 33) ≡ refused_output 33
neither true true o e = absurd (nope (cc))
neither true false o e = refl
neither false b o e = refl

module _ (t bytes buffer : List ℕ) where
  abbrev rows : List (List ℕ)
  rows = first_chunks 7 (length t / 7) t

  -- a table that is no whole number of rows
  pub answers-ragged : (length t % 7 ≡ 0 → ⊥) → WroteRecords t bytes buffer (Err UnwritableRecords) buffer
  unfolding write is_list
  answers-ragged f =
      let e : write (length buffer) t bytes ≡ refused_output 33 = rw (ne_eqb (length t % 7) 0 f) in
      (ap count_of (sym e), ap (output_into buffer) (sym e))

  module _ (sevens : length t % 7 ≡ 0) where
    lie : is_list t bytes ≡ all_lie_in (length bytes) (places rows)
    unfolding is_list
    lie = rw (eq-eqb (length t % 7) 0 sevens, rows-are (length t / 7) t)

    records-are : records_in t bytes ≡ named bytes rows
    records-are = ap (map (record_at bytes)) (rows-are (length t / 7) t)

    abbrev all : List ℕ
    all = message_bytes 1 (named bytes rows)

    pub answers-unwritable : is_list_of bytes rows ≡ false → WroteRecords t bytes buffer (Err UnwritableRecords) buffer
    unfolding write write_list
    answers-unwritable z =
        let e : write (length buffer) t bytes ≡ refused_output 33 = rw (lie, records-are) (neither (all_lie_in (length bytes) (places rows)) (is_writable_list (named bytes rows)) (fitted (length buffer) (length all) all) z) in
        (ap count_of (sym e), ap (output_into buffer) (sym e))

    module _ (n : ℕ) (w : Sized bytes rows n) where
      tests : (all_lie_in (length bytes) (places rows) ≡ true) × (is_writable_list (named bytes rows) ≡ true)
      tests = both (all_lie_in (length bytes) (places rows)) (is_writable_list (named bytes rows)) w.given

      pub answers-short : length buffer < n → WroteRecords t bytes buffer (Err ShortBuffer) buffer
      unfolding write write_list
      answers-short l =
          let e : write (length buffer) t bytes ≡ refused_output 12 = rw (lie, records-are, tests.0, tests.1, lt-leb (length all) (length buffer) (omega (arith, w.size_is))) in
          (ap count_of (sym e), ap (output_into buffer) (sym e))

      module _ (room : n ≤ length buffer) where
        enough : length all ≤ length buffer
        enough = omega (arith, w.size_is)

        pub fits : Fits bytes rows (length buffer)
        fits = record { given = w.given; enough = enough }

        pub answers-message : (out : List ℕ) → out ≡ sets buffer 0 all → WroteRecords t bytes buffer (Ok n) out
        unfolding write write_list
        answers-message out q =
            let e : write (length buffer) t bytes ≡ output (length all) all = rw (lie, records-are, tests.0, tests.1, le-leb (length all) (length buffer) enough) in
            (rw w.size_is (ap count_of (sym e)), q ∙ sets-front all buffer enough ∙ ap (output_into buffer) (sym e))
