-- The tests of a record, as the code makes them: first that it is no chunk, then all others.
-- Assumes nothing.
use mathlib.Core.Path.{◌≡◌, refl, ◌∙◌}
use mathlib.Core.Bool.{Bool, true, false, ◌&&◌, ◌||◌, not, cond}
use mathlib.Core.List.{List, [], ◌∷◌}
use Prim.Native.Nat.{ℕ, ◌<◌, ◌≤◌}
use native.Mathlib.Omega.{arith}
use lib.ListN.{length}
use lib.Dec.{eqb, leb}
use borrow.Author.Tests.{lt-leb}
use Rattle.tag.specs.Bytes.{byte}
use Rattle.tag.specs.Checks.{check, fine, fault, first_of}
use Rattle.ndef.specs.Record.{tnf_allows}
use Rattle.ndef.specs.Header.{mb, me, cf, sr, il, tnf, header_length, id_length, payload_length, record_length}
use Rattle.ndef.specs.Message.{checks_by, record_checks}
use Rattle.ndef.proofs.Turns.{whole}
use Rattle.ndef.specs.Views.Headers.{header_of, length_for, chunked, may_stand}

pub header-some : (flags : ℕ) → 0 < header_length flags
unfolding header_length
header-some flags = go (eqb (sr flags) 1) (eqb (il flags) 1)
  where
    go : (a b : Bool) → 0 < cond a (cond b 4 3) (cond b 7 6)
    go true true = omega arith
    go true false = omega arith
    go false true = omega arith
    go false false = omega arith

-- whatever the six tests are
chain : (c t l a b e : Bool)
    → first_of (check c 31 ∷ check (not t) 31 ∷ check l 32 ∷ check a 32 ∷ check b 32 ∷ check e 32 ∷ [])
    ≡ cond (not c || t) (fault 31) (cond (l && a && b && e) fine (fault 32))
chain false t l a b e = refl
chain true true l a b e = refl
chain true false false a b e = refl
chain true false true false b e = refl
chain true false true true false e = refl
chain true false true true true false = refl
chain true false true true true true = refl

module _ (first : Bool) (s : List ℕ) where
  tested : first_of (record_checks (cond first 1 0) s) ≡ cond (chunked (byte s 0)) (fault 31) (cond (may_stand (header_of s) (length s) first) fine (fault 32))
  unfolding record_checks checks_by
  tested =
      let h = header_of s in
      chain (eqb (cf (byte s 0)) 0) (eqb (tnf (byte s 0)) 6) (leb (length_for h) (length s)) (tnf_allows (tnf (byte s 0)) h.rtype h.id h.payload)
      (eqb (mb (byte s 0)) (cond first 1 0)) (eqb (me (byte s 0)) (cond (eqb (length_for h) (length s)) 1 0))

  pub chunk : chunked (byte s 0) ≡ true → first_of (record_checks (cond first 1 0) s) ≡ fault 31
  chunk e = tested ∙ rw e

  module _ (whole-payload : chunked (byte s 0) ≡ false) where
    pub sound : may_stand (header_of s) (length s) first ≡ true → first_of (record_checks (cond first 1 0) s) ≡ fine
    sound e = tested ∙ rw (whole-payload, e)

    pub unsound : may_stand (header_of s) (length s) first ≡ false → first_of (record_checks (cond first 1 0) s) ≡ fault 32
    unsound e = tested ∙ rw (whole-payload, e)

    pub cut_short : length s < header_length (byte s 0) → first_of (record_checks (cond first 1 0) s) ≡ fault 32
    cut_short l = unsound (rw (lt-leb (length_for (header_of s)) (length s) (omega arith)))

-- a record has some bytes, and if it passes its tests they are all there
pub some_bytes : (s : List ℕ) → 0 < length_for (header_of s)
some_bytes s = omega (arith, header-some (byte s 0))

pub all_there : (first : ℕ) (s : List ℕ) → first_of (record_checks first s) ≡ fine → length_for (header_of s) ≤ length s
unfolding record_length
all_there first s e = whole first s e

pub nothing : (first : Bool) (s : List ℕ) → length s < 1 → first_of (record_checks (cond first 1 0) s) ≡ fault 32
unfolding record_checks checks_by header_length id_length payload_length
nothing first [] l = refl
nothing first (b ∷ s) l = absurd (omega arith)
