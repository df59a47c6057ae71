use Rattle.std.proofs.Common.{ap, length, arith}
use Rattle.ndef_write.proofs.Behind.{part-lengths, header-is, header-room, parts-room, record-put, same_size}
use Rattle.ndef_write.proofs.laying.put_record.Goals as goal

pub put_header-at-requires-clause-room : goal.put_header-at-requires-clause-room
put_header-at-requires-clause-room c =
    let a = c.args in
    header-room a.bytes.now a.place c.requires.lays a.first a.last c.from.ensures c.from-2.ensures a.out.now a.at c.requires.room

pub put-at-requires : goal.put-at-requires
put-at-requires c =
    let a = c.args in
    let room = parts-room a.bytes.now a.place c.requires.lays a.first a.last c.from.ensures c.from-2.ensures a.out.now a.at c.requires.room c.put_header-at.ensures in
    omega (arith, room, part-lengths a.bytes.now a.place c.requires.lays, ap length c.of.ensures)

pub put-at-requires-2 : goal.put-at-requires-2
put-at-requires-2 c =
    let a = c.args in
    let room = parts-room a.bytes.now a.place c.requires.lays a.first a.last c.from.ensures c.from-2.ensures a.out.now a.at c.requires.room c.put_header-at.ensures in
    let x = c.put-at.ensures in
    omega (arith, room, part-lengths a.bytes.now a.place c.requires.lays, ap length c.of.ensures, x.behind, same_size x, ap length c.of-2.ensures)

pub put-requires : goal.put-requires
put-requires c =
    let a = c.args in
    let room = parts-room a.bytes.now a.place c.requires.lays a.first a.last c.from.ensures c.from-2.ensures a.out.now a.at c.requires.room c.put_header-at.ensures in
    let x = c.put-at.ensures in
    let y = c.put-at-2.ensures in
    omega (arith, room, part-lengths a.bytes.now a.place c.requires.lays, ap length c.of.ensures, x.behind, same_size x, ap length c.of-2.ensures, y.behind, same_size y, ap length c.of-3.ensures)

pub returns : goal.returns
returns c =
    let a = c.args in
    record-put a.bytes.now a.place c.requires.lays _ _
    (rw (header-is a.bytes.now a.place c.requires.lays a.first a.last c.from.ensures c.from-2.ensures) at c.put_header-at.ensures)
    (rw c.of.ensures at c.put-at.ensures) (rw c.of-2.ensures at c.put-at-2.ensures) (rw c.of-3.ensures at c.put.ensures)
