use Rattle.ndef_write.proofs.HeaderPut.{short, short-id, long, long-id}
use Rattle.ndef_write.proofs.laying.put_header.Goals as goal

pub put-requires : goal.put-requires
put-requires c = rw (short c.args.flags c.args.rtype c.args.id c.args.payload c.in-true-true.is-0 c.in-true-true.is-1) at c.requires.room

pub returns-in-true-true : goal.returns-in-true-true
returns-in-true-true c = rw (short c.args.flags c.args.rtype c.args.id c.args.payload c.in-true-true.is-0 c.in-true-true.is-1) (rw c.to_be_bytes.ensures at c.put.ensures)

pub put-requires-in-true-false : goal.put-requires-in-true-false
put-requires-in-true-false c = rw (short-id c.args.flags c.args.rtype c.args.id c.args.payload c.in-true-false.is-0 c.in-true-false.is-1) at c.requires.room

pub returns-in-true-false : goal.returns-in-true-false
returns-in-true-false c = rw (short-id c.args.flags c.args.rtype c.args.id c.args.payload c.in-true-false.is-0 c.in-true-false.is-1) (rw c.to_be_bytes.ensures at c.put-in-true-false.ensures)

pub put-requires-in-false-true : goal.put-requires-in-false-true
put-requires-in-false-true c = rw (long c.args.flags c.args.rtype c.args.id c.args.payload c.in-false-true.is-0 c.in-false-true.is-1) at c.requires.room

pub returns-in-false-true : goal.returns-in-false-true
returns-in-false-true c = rw (long c.args.flags c.args.rtype c.args.id c.args.payload c.in-false-true.is-0 c.in-false-true.is-1) (rw c.to_be_bytes.ensures at c.put-in-false-true.ensures)

pub put-requires-in-false-false : goal.put-requires-in-false-false
put-requires-in-false-false c = rw (long-id c.args.flags c.args.rtype c.args.id c.args.payload c.in-false-false.is-0 c.in-false-false.is-1) at c.requires.room

pub returns-in-false-false : goal.returns-in-false-false
returns-in-false-false c = rw (long-id c.args.flags c.args.rtype c.args.id c.args.payload c.in-false-false.is-0 c.in-false-false.is-1) (rw c.to_be_bytes.ensures at c.put-in-false-false.ensures)
