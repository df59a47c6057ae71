-- Each answer binds its own names: its facts `c` are of a type of their own, and a lemma would take each of them as an argument.
use Rattle.std.proofs.Common.{◌≡◌, ap, sym, ◌∙◌, ◌-◌, ◌*◌, ◌/◌, ◌≤◌, true, length, length-drop, take, drop, arith}
use Rattle.std.proofs.lemmas.List.{take_all}
use Rattle.std.specs.Simd.{first_chunks}
use Rattle.tag.specs.Bytes.{same}
use Rattle.type3.specs.Codec.{opening}
use Rattle.type3_commands.proofs.Framing.{framed-short, not-code, not-ours, not-service, all-open, count-is, rest-is, not-opened, not-countable, not-sized, not-begun, is-framed, elements-are, blockdata-is}
use Rattle.type3_commands.proofs.commands.split.Goals as goal
use Rattle.type3_commands.proofs.commands.split.Goals.{then-not-countable-via-then-not-countable, then-not-countable-via-else-not-countable+then-rest-count}

pub returns-in_err-rest : goal.returns-in_err-rest
returns-in_err-rest c =
    let a = c.args in
    rw c.from_residual.ensures (not-opened a.idm.now a.nbw a.bytes.now (not-code a.idm.now a.bytes.now c.told-idm c.in_err-rest.ensures.cases))

pub returns-in_err-rest-2 : goal.returns-in_err-rest-2
returns-in_err-rest-2 c =
    let a = c.args in
    rw c.from_residual-in_err-rest-2.ensures
    (not-opened a.idm.now a.nbw a.bytes.now
    (not-ours a.idm.now a.bytes.now c.told-idm c.in_ok-rest.rest.now c.in_ok-rest.ensures.cases.1 c.in_err-rest-2.ensures.cases))

pub returns-in_err-rest-3 : goal.returns-in_err-rest-3
returns-in_err-rest-3 c =
    let a = c.args in
    rw c.from_residual-in_err-rest-3.ensures
    (not-opened a.idm.now a.nbw a.bytes.now
    (not-service a.idm.now a.bytes.now c.told-idm c.in_ok-rest.rest.now c.in_ok-rest.ensures.cases.1 c.in_ok-rest-2.rest.now c.in_ok-rest-2.ensures.cases.1
    c.in_err-rest-3.ensures.cases))

pub returns-in_default : goal.returns-in_default
returns-in_default c =
    let a = c.args in
    framed-short a.idm.now a.nbw a.bytes.now
    (omega (arith, c.in_default.len_below, c.in_ok-rest.ensures.cases.2, c.in_ok-rest-2.ensures.cases.2, c.in_ok-rest-3.ensures.cases.2, c.told-idm))

pub returns-then-not-countable : goal.returns-then-not-countable
returns-then-not-countable c =
    let a = c.args in
    let one = c.in_ok-rest.ensures.cases in
    let two = c.in_ok-rest-2.ensures.cases in
    let three = c.in_ok-rest-3.ensures.cases in
    let first = c.in_ok-rest.rest.now in
    let second = c.in_ok-rest-2.rest.now in
    let third = c.in_ok-rest-3.rest.now in
    let long : 13 ≤ length a.bytes.now = omega (arith, c.in-len1-up.len_at_least, one.2, two.2, three.2, c.told-idm) in
    let opens : same (take 12 a.bytes.now) (opening a.idm.now) ≡ true
    = all-open a.idm.now a.bytes.now c.told-idm first one.1 second two.1 one.0 two.0 three.0 (omega (arith, long)) in
    let count = c.from-count.ensures ∙ count-is a.idm.now a.bytes.now c.told-idm first one.1 second two.1 third three.1 in
    let left : take (length third - 1) (drop 1 third) ≡ drop 13 a.bytes.now
    = take_all (length third - 1) (drop 1 third) (omega (arith, length-drop 1 third)) ∙ rest-is a.idm.now a.bytes.now c.told-idm first one.1 second two.1 third three.1 in
    let rest = take (length third - 1) (drop 1 third) in
    elim c.then-not-countable.branch [
      | then-not-countable-via-then-not-countable w ↦
          not-countable a.idm.now a.nbw a.bytes.now opens long rest left c.from-count.result count (sym c.countable.ensures ∙ w.if-not-countable.true)
      | then-not-countable-via-else-not-countable+then-rest-count w ↦
          not-sized a.idm.now a.nbw a.bytes.now opens long rest left c.from-count.result count w.if-rest-count.true
    ]

pub returns-then-not-well_begun : goal.returns-then-not-well_begun
returns-then-not-well_begun c =
    let a = c.args in
    let one = c.in_ok-rest.ensures.cases in
    let two = c.in_ok-rest-2.ensures.cases in
    let three = c.in_ok-rest-3.ensures.cases in
    let first = c.in_ok-rest.rest.now in
    let second = c.in_ok-rest-2.rest.now in
    let third = c.in_ok-rest-3.rest.now in
    let long : 13 ≤ length a.bytes.now = omega (arith, c.in-len1-up.len_at_least, one.2, two.2, three.2, c.told-idm) in
    let opens : same (take 12 a.bytes.now) (opening a.idm.now) ≡ true
    = all-open a.idm.now a.bytes.now c.told-idm first one.1 second two.1 one.0 two.0 three.0 (omega (arith, long)) in
    let count = c.from-count.ensures ∙ count-is a.idm.now a.bytes.now c.told-idm first one.1 second two.1 third three.1 in
    let left : take (length third - 1) (drop 1 third) ≡ drop 13 a.bytes.now
    = take_all (length third - 1) (drop 1 third) (omega (arith, length-drop 1 third)) ∙ rest-is a.idm.now a.bytes.now c.told-idm first one.1 second two.1 third three.1 in
    let rest = take (length third - 1) (drop 1 third) in
    let size : length rest ≡ 18 * c.from-count.result = c.if-rest-count.false in
    let chunks : c.as_chunks.result.0.now ≡ first_chunks 2 (length (take (2 * c.from-count.result) rest) / 2) (take (2 * c.from-count.result) rest)
    = c.as_chunks.ensures.front ∙ ap (λ l. first_chunks 2 (length l / 2) l) c.split_at.ensures.front in
    not-begun a.idm.now a.nbw a.bytes.now opens long rest left c.from-count.result count c.as_chunks.result.0.now chunks size
    (sym c.well_begun.ensures ∙ c.if-not-well_begun.true)

pub returns : goal.returns
returns c =
    let a = c.args in
    let one = c.in_ok-rest.ensures.cases in
    let two = c.in_ok-rest-2.ensures.cases in
    let three = c.in_ok-rest-3.ensures.cases in
    let first = c.in_ok-rest.rest.now in
    let second = c.in_ok-rest-2.rest.now in
    let third = c.in_ok-rest-3.rest.now in
    let long : 13 ≤ length a.bytes.now = omega (arith, c.in-len1-up.len_at_least, one.2, two.2, three.2, c.told-idm) in
    let opens : same (take 12 a.bytes.now) (opening a.idm.now) ≡ true
    = all-open a.idm.now a.bytes.now c.told-idm first one.1 second two.1 one.0 two.0 three.0 (omega (arith, long)) in
    let count = c.from-count.ensures ∙ count-is a.idm.now a.bytes.now c.told-idm first one.1 second two.1 third three.1 in
    let left : take (length third - 1) (drop 1 third) ≡ drop 13 a.bytes.now
    = take_all (length third - 1) (drop 1 third) (omega (arith, length-drop 1 third)) ∙ rest-is a.idm.now a.bytes.now c.told-idm first one.1 second two.1 third three.1 in
    let rest = take (length third - 1) (drop 1 third) in
    let size : length rest ≡ 18 * c.from-count.result = c.if-rest-count.false in
    let chunks : c.as_chunks.result.0.now ≡ first_chunks 2 (length (take (2 * c.from-count.result) rest) / 2) (take (2 * c.from-count.result) rest)
    = c.as_chunks.ensures.front ∙ ap (λ l. first_chunks 2 (length l / 2) l) c.split_at.ensures.front in (
      is-framed a.idm.now a.nbw a.bytes.now opens long rest left c.from-count.result count c.as_chunks.result.0.now chunks size
          (sym c.countable.ensures ∙ c.if-not-countable.false) (sym c.well_begun.ensures ∙ c.if-not-well_begun.false),
      record {
        elements_are = elements-are a.idm.now a.nbw a.bytes.now opens long rest left c.from-count.result count c.as_chunks.result.0.now chunks size;
        blockdata_is = c.split_at.ensures.back ∙ blockdata-is a.idm.now a.nbw a.bytes.now opens long rest left c.from-count.result count;
      },
    )
