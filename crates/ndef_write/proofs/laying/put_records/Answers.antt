use Rattle.ndef_write.proofs.Behind.{none-laid, all_laid, place-lays, room, one-laid}
use Rattle.ndef_write.proofs.laying.put_records.Goals as goal

pub loop-k-init : goal.loop-k-init
loop-k-init c = none-laid c.args.bytes.now c.args.rows.now c.args.out.now c.requires

pub put_record-at-requires-clause-lays : goal.put_record-at-requires-clause-lays
put_record-at-requires-clause-lays c =
    let a = c.args in
    rw c.from.ensures (place-lays a.bytes.now a.rows.now a.out.now c.requires c.loop-k.invariant c.loop-k-test.true)

pub put_record-at-requires-clause-room : goal.put_record-at-requires-clause-room
put_record-at-requires-clause-room c =
    let a = c.args in
    rw c.from.ensures (room a.bytes.now a.rows.now a.out.now c.requires c.loop-k.invariant c.loop-k-test.true)

pub loop-k-preserved : goal.loop-k-preserved
loop-k-preserved c =
    let a = c.args in
    one-laid a.bytes.now a.rows.now a.out.now c.requires c.loop-k.invariant c.loop-k-test.true (rw c.from.ensures at c.put_record-at.ensures)

pub returns : goal.returns
returns c = all_laid c.args.bytes.now c.args.rows.now c.args.out.now c.requires c.loop-k.invariant c.loop-k-test.false
