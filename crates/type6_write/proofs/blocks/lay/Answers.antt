use Rattle.std.proofs.Common.{arith, rules, ◌∙◌, ap, length, ◌+◌, ◌-◌, ◌/◌, ◌%◌, [], ◌∷◌, ◌≡◌}
use Rattle.std.proofs.lemmas.List.Edits.{sets}
use borrow.Rule.Slice.PartMut.{put_mid}
use lib.Seq.{length-sets}
use Rattle.tag.proofs.Storing.{put_sets}
use Rattle.type6_write.proofs.Laying.{laid}
use Rattle.type6_write.proofs.blocks.lay.Goals as goal

pub returns : goal.returns
returns c =
    let i = c.args.image.now in
    let m = c.args.message.now in
    let f = c.args.file.0 in
    let nlen = length m % 256 ∷ length m / 256 ∷ [] in
    let bytes : c.to_le_bytes.result ≡ nlen = search (rules, c.to_le_bytes.ensures, c.requires) in
    let image : c.copy_from_slice.new.self ≡ i = c.copy_from_slice.ensures.after in
    let first : put_mid f (f + 2 - f) c.copy_from_slice.new.self c.copy_from_slice-2.new.self ≡ sets i f nlen
    = put_sets f (f + 2 - f) nlen c.copy_from_slice-2.new.self c.copy_from_slice.new.self (c.copy_from_slice-2.ensures.after ∙ bytes) (omega arith)
    (omega (arith, ap length image, c.requires.1)) ∙ ap (λ x. sets x f nlen) image in
    ap (λ x. put_mid (f + 2) (f + 2 + length m - (f + 2)) x c.copy_from_slice-3.new.self) first
    ∙ put_sets (f + 2) (f + 2 + length m - (f + 2)) m c.copy_from_slice-3.new.self (sets i f nlen) c.copy_from_slice-3.ensures.after (omega arith)
    (omega (arith, length-sets i f nlen, c.requires.1))
    ∙ laid i m f
