use Rattle.std.proofs.Common.{◌≡◌, ◌*◌, length, map, take, sym, ap, ◌∙◌, arith}
use Rattle.std.proofs.lemmas.List.{length-map}
use Rattle.type3.specs.Codec.{decoded}
use Rattle.type3_commands.specs.Views.InPlace.{number}
use Rattle.type3_commands.specs.Views.Framing.{listed_as}
use Rattle.type3_commands.specs.CodecContracts.{blocks_of, block_numbers, command_as}
use Rattle.type3_commands.proofs.Decoding.{same-command, command-viewed}
use Rattle.type3_commands.proofs.commands.decode.Goals as goal

pub returns : goal.returns
returns c =
    let l = c.in_ok-listed.listed in
    let ns = map number l.elements.now in
    let n : length ns ≡ length l.elements.now = length-map l.elements.now number in
    let is = sym (ap listed_as c.in_ok-listed.ensures.ok_part) ∙ c.parts.ensures in
    let built = same-command (sym n) (c.blocks_of.ensures ∙ ap blocks_of c.numbers.ensures) c.padded.ensures in (
      ap (λ d. decoded (take d.count (block_numbers d.blocks)) (take (16 * d.count) d.bytes)) built
          ∙ command-viewed ns l.blockdata.now (omega (arith, n, l.whole))
          ∙ is,
      built ∙ ap command_as is,
    )
