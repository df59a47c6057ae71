-- What a Type 2 tag holds is what reading it answers and shows, because the gathering buffer is long enough for every message.
-- Assumes nothing.
use mathlib.Core.Path.{◌≡◌}
use mathlib.Core.List.{List}
use Prim.Native.Nat.{ℕ, ◌≤◌}
use native.Mathlib.Omega.{arith}
use lib.ListN.{length}
use Rattle.tag.specs.Reading.{Report, reads, Answer, answer_of, gathered_into, shown}
use Rattle.tag.specs.TagType.{held}
use Rattle.tag.specs.Answers.{held_by}
use Rattle.tag.proofs.Showing.{roomy, held-shown}
use Rattle.tlv_tag.proofs.Writes as writes
use Rattle.tlv_tag.proofs.Shown.{message-short}
use Rattle.type2.specs.Memory.{memory}
use Rattle.type2.specs.Type2.{type2}
use Rattle.type2.proofs.Memory.{memory-laws, short-image}
use Rattle.type2.proofs.Laws.{type2-laws}

-- every message fits a gathering buffer as long as the longest image
pub fits-gathering : (i : List ℕ) (p : Report) → type2.reading i ≡ reads p → length p.bytes ≤ 1024
fits-gathering i p e =
    let s = (writes.placed memory i p e).0.sound in
    omega (arith, message-short memory memory-laws i p e, short-image i s)

pub held-read : (i before after : List ℕ) (a : Answer) (part : List ℕ) → length before ≡ 1024
    → a ≡ answer_of (length before) (type2.reading i) → after ≡ gathered_into before (type2.reading i) → part ≡ shown i after a
    → held_by a part ≡ held type2 i
held-read i before after a part l e g s =
    rw (s, g, e) (held-shown type2 type2-laws i before (λ p q. roomy before p (omega (arith, fits-gathering i p q))))
