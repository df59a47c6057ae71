use Rattle.std.proofs.Common.{◌≡◌, ap, sym, ◌∙◌, ◌+◌, ◌-◌, ◌*◌, [], length, get_or, map, take, drop, length-take-le, length-drop, arith}
use Rattle.std.proofs.lemmas.List.Edits.{sets}
use borrow.Rule.Slice.PartMut.{put_mid}
use Rattle.tag.specs.Stores.{puts}
use Rattle.tag.proofs.Storing.{put_sets}
use Rattle.type3.specs.Codec.{stores_of}
use Rattle.type3_commands.specs.Views.InPlace.{number}
use Rattle.type3_model.proofs.Storing.{stored-next, stored-all}
use Rattle.type3_model.proofs.stores.store_blocks.Goals as goal

pub loop-k-preserved : goal.loop-k-preserved
loop-k-preserved c =
    let l = c.loop-k in
    let p = c.args.listed.now in
    let at = c.address-at.result.0 in
    let block = take 16 (drop (16 * l.k) p.blockdata.now) in
    let n : 16 * l.k + 16 - 16 * l.k ≡ 16 = omega arith in
    let size : length block ≡ 16 = length-take-le 16 (drop (16 * l.k) p.blockdata.now) (omega (arith, length-drop (16 * l.k) p.blockdata.now, p.whole, c.loop-k-test.true)) in
    let place : at ≡ 16 * number (get_or p.elements.now l.k []) = omega (arith, c.address-at.ensures, c.from.ensures) in
    let stored : put_mid at (at + 16 - at) l.image c.copy_from_slice-in-loop-k.new.self ≡ sets l.image (16 * number (get_or p.elements.now l.k [])) block
    = put_sets at (at + 16 - at) block c.copy_from_slice-in-loop-k.new.self l.image
    (c.copy_from_slice-in-loop-k.ensures.after ∙ c.copy_from_slice.ensures.after ∙ ap (λ m. take m (drop (16 * l.k) p.blockdata.now)) n) (omega (arith, size))
    (omega (arith, size, place, l.auto.image, c.requires l.k c.loop-k-test.true))
    ∙ ap (λ a. sets l.image a block) place in
    l.invariant
    ∙ stored-next l.image p.elements.now p.blockdata.now l.k c.loop-k-test.true
    ∙ ap (λ j. puts j (stores_of (map number (drop (l.k + 1) p.elements.now)) (drop (16 * (l.k + 1)) p.blockdata.now))) (sym stored)

pub returns : goal.returns
returns c =
    let l = c.loop-k in
    let p = c.args.listed.now in
    sym (l.invariant ∙ stored-all l.image p.elements.now (drop (16 * l.k) p.blockdata.now) l.k c.loop-k-test.false)
