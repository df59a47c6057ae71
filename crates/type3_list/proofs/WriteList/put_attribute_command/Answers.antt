use Rattle.std.proofs.Common.{ap, ◌∙◌, ◌-◌, [], ◌∷◌, refl, length, arith}
use borrow.Rule.Slice.PartMut.{put_mid}
use Rattle.type3_list.specs.Views.Listing.{attribute_information_block}
use Rattle.type3_list.proofs.Laying.{lay-data}
use Rattle.type3_list.proofs.WriteList.put_attribute_command.Goals as goal

pub returns : goal.returns
returns c =
    let a = c.args in
    let s = a.self.now in
    let o = c.put_opening.new.out in
    let z = c.put_block_list.new.out in
    ap (put_mid 15 16 (put_mid 13 (length o - 13) o z)) (c.copy_from_slice.ensures.after ∙ c.attribute_information_block.ensures)
    ∙ lay-data s.idm (0 ∷ []) a.out.now o z 1 s.eight refl (omega arith) c.put_opening.ensures c.put_block_list.ensures (attribute_information_block s.image.now a.flag a.ln)
