use Rattle.std.proofs.Common.{◌≡◌, ap, ◌∙◌, List, ℕ, [], ◌∷◌, ◌/◌, length, map, set, take, length-take, arith}
use lib.Seq.{take_all}
use borrow.Rule.Slice.PartMut.{put_mid}
use Rattle.std.specs.Prelude.{sum, get_or}
use Rattle.tag.specs.Bytes.{byte, run}
use Rattle.type3_list.proofs.AttributeInformation.{set-block, set-flag, sixteen}
use Rattle.type3_list.proofs.Comparing.{chunk-at}
use Rattle.type3_list.proofs.list.attribute_information_block.Goals as goal

pub returns : goal.returns
returns c =
    let a = c.args in
    let i = a.image.now in
    let b = get_or c.as_chunks.result.0.now 0 [] in
    let block : b ≡ map (byte i) (run 0 16)
    = ap (λ h. get_or h 0 []) c.as_chunks.ensures.front ∙ chunk-at 16 (length i / 16) i 0 (omega (arith, c.requires.0)) ∙ sixteen i c.requires.0 in
    let with-ln : put_mid 11 3 (set b 9 a.flag) c.copy_from_slice.new.self ≡ set-flag b a.flag a.ln
    = ap (put_mid 11 3 (set b 9 a.flag)) (c.copy_from_slice.ensures.after ∙ ap (λ (x : List ℕ). byte x 1 ∷ byte x 2 ∷ byte x 3 ∷ []) c.to_be_bytes.ensures) in
    let fourteen : take 16 (take 14 (set-flag b a.flag a.ln)) ≡ take 14 (set-flag b a.flag a.ln)
    = take_all 16 (take 14 (set-flag b a.flag a.ln)) (omega (arith, length-take 14 (set-flag b a.flag a.ln))) in
    ap (λ x. put_mid 14 2 x c.copy_from_slice-2.new.self) with-ln
    ∙ ap (put_mid 14 2 (set-flag b a.flag a.ln)) (c.copy_from_slice-2.ensures.after ∙ c.to_be_bytes-checksum.ensures)
    ∙ set-block i a.flag a.ln b c.sum.result c.requires.1 (omega arith) block (c.sum.ensures ∙ ap (λ x. sum (take 16 (take 14 x))) with-ln ∙ ap sum fourteen)
