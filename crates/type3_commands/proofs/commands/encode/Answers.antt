use Rattle.std.proofs.Common.{◌≡◌, ◌&&◌, ◌+◌, ◌*◌, true, sym, ap, ◌∙◌, length, take, leb, length-take-le, length-take, arith, rules}
use Rattle.tag.specs.Answers.{count_of}
use Rattle.tag.specs.TagType.{output_into}
use Rattle.type3_commands.specs.CodecContracts.{block_numbers}
use Rattle.type3.specs.Codec.{well_listed}
use Rattle.type3_commands.proofs.BlockLists.{listable-each}
use Rattle.type3_commands.proofs.Encoding.{used, encode-short}
use Rattle.type3_commands.proofs.commands.encode.Goals as goal

pub returns-then-bytes-size : goal.returns-then-bytes-size
returns-then-bytes-size c =
    let a = c.args in
    let k = a.command in
    let ns = block_numbers k.blocks in
    let is = c.block_numbers-blocks.ensures in
    let listed : leb k.count (length ns) && well_listed a.nbw a.nmaxb (take k.count ns) ≡ true
    = ap (λ l. leb k.count (length l) && well_listed a.nbw a.nmaxb (take k.count l)) (sym is) ∙ sym c.well_listed.ensures ∙ c.if-not-well_listed.false in
    let e = encode-short a.idm.now a.nbw a.nmaxb k.count ns k.bytes (length a.bytes.now) c.told-idm (search rules) (ap length (sym is) ∙ search rules) listed c.if-bytes-size.true in
    (sym (ap count_of e), sym (ap (output_into a.bytes.now) e))

pub put-requires : goal.put-requires
put-requires c =
    let a = c.args in
    let k = a.command in
    let ns = c.block_numbers-blocks.result in
    let u = used a.nbw a.nmaxb k.count ns (search rules) (sym c.well_listed.ensures ∙ c.if-not-well_listed.false) in
    record {
      few = omega (arith, u.few, u.inside);
      each_byte = λ i l. (listable-each a.nmaxb (take k.count ns) u.listed i l).1;
      blockdata = omega (arith, u.few, u.inside, length-take-le (16 * k.count) k.bytes (search rules));
      room = omega (arith, u.inside, length-take (13 + 18 * k.count) a.bytes.now, c.if-bytes-size.false);
    }
