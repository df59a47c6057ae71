-- What holds of every kind: its type has the laws, a command takes at least one byte, and a gathering buffer of 1,024 bytes takes every
-- interrupted message.
-- Assumes nothing.
use mathlib.Core.Path.{◌≡◌}
use mathlib.Core.Bool.{true}
use mathlib.Core.List.{List}
use Prim.Native.Nat.{ℕ, ◌<◌, ◌≤◌}
use native.Mathlib.Omega.{arith}
use lib.ListN.{length}
use Rattle.tag.specs.Reading.{Report, reads}
use Rattle.tag.proofs.Laws.{Laws}
use Rattle.tag.proofs.Logic.{true-false}
use Rattle.type2.proofs.Laws.{type2-laws}
use Rattle.type2.proofs.Holding as two
use Rattle.type3.proofs.Laws.{type3-laws}
use Rattle.type3.proofs.Holding as three
use Rattle.type6.proofs.Laws.{type6-laws}
use Rattle.type6.proofs.Holding as six
use Rattle.kinds.specs.declared.Kind.{Kind}
use Rattle.kinds.specs.declared.Kind.TheVariants as kind
use Rattle.kinds.specs.Views.Types.{type_of}

pub laws : (k : Kind) (idm : List ℕ) → length idm ≡ 8 → Laws (type_of k idm)
laws (kind.Type2 e) idm l = type2-laws
laws (kind.Type3 nbw nmaxb) idm l = type3-laws idm l
laws (kind.Type6 size blocks) idm l = type6-laws

pub some-span : (k : Kind) (idm i bytes : List ℕ) → 0 < (type_of k idm).span i bytes
some-span (kind.Type2 e) idm i bytes = omega arith
some-span (kind.Type3 nbw nmaxb) idm i bytes = omega arith
some-span (kind.Type6 size blocks) idm i bytes = omega arith

pub fits : (k : Kind) (idm i : List ℕ) (p : Report) → (type_of k idm).reading i ≡ reads p → p.interrupted ≡ true → length p.bytes ≤ 1024
fits (kind.Type2 e) idm i p r q = two.fits-gathering i p r
fits (kind.Type3 nbw nmaxb) idm i p r q = absurd (true-false q (three.plain i p r))
fits (kind.Type6 size blocks) idm i p r q = absurd (true-false q (six.plain i p r))
