use Rattle.std.proofs.Common.{◌≡◌, sym, ap, ◌∙◌, ◌≤◌, ℕ, List, length, length-take-le, arith}
use Rattle.type3.specs.Update.{blocks_for}
use Rattle.type3_list.specs.Views.Blocks.{changed_blocks}
use Rattle.type3_list.proofs.Comparing.{few_changed}
use Rattle.type3_list.proofs.changed.blocks_to_write.Goals as goal

-- the numbers have room
room : (i m items : List ℕ) (n k : ℕ) → n ≡ length items → items ≡ changed_blocks i m → blocks_for (length m) ≤ k → n ≤ k
room i m items n k e q l = omega (arith, e, ap length q, few_changed i m, l)

pub slice_bounds-copy_from_slice-end-2 : goal.slice_bounds-copy_from_slice-end-2
slice_bounds-copy_from_slice-end-2 c =
    let a = c.args in
    sym (length-take-le c.len.result a.picks.now (room a.image.now a.message.now _ _ _ c.len.ensures.value c.collect.ensures c.requires.2))

pub copy_from_slice-requires : goal.copy_from_slice-requires
copy_from_slice-requires c =
    let a = c.args in
    length-take-le c.len.result a.picks.now (room a.image.now a.message.now _ _ _ c.len.ensures.value c.collect.ensures c.requires.2)
    ∙ c.len.ensures.value ∙ ap length (sym c.as_slice.ensures.value)
