use Rattle.tlv.specs.Views.Walks.{ahead}
use Rattle.tlv_tag.proofs.Reading.{whole, fit, unfit}
use Rattle.tlv_tag.proofs.read.Located.report.Goals as goal

pub returns-then-not-interrupted : goal.returns-then-not-interrupted
returns-then-not-interrupted c =
    let a = c.args in
    let m = c.in-Message in
    let (same, some, enough, e) = rw (m.is) at c.requires.held in
    rw (m.is) (whole a.writable a.capacity a.image.now (ahead a.table.now a.self.value) m.length m.address.0 m.interrupted some enough e a.gathered.now c.if-not-interrupted.true)

pub returns-then-gathered-length : goal.returns-then-gathered-length
returns-then-gathered-length c =
    let a = c.args in
    let m = c.in-Message in
    let (same, some, enough, e) = rw (m.is) at c.requires.held in
    rw (m.is) (unfit a.writable a.capacity a.image.now (ahead a.table.now a.self.value) m.length m.address.0 m.interrupted some enough e a.gathered.now c.if-not-interrupted.false c.if-gathered-length.true)

pub returns-else-gathered-length : goal.returns-else-gathered-length
returns-else-gathered-length c =
    let a = c.args in
    let m = c.in-Message in
    let (same, some, enough, e) = rw (m.is) at c.requires.held in
    rw (m.is) (fit a.writable a.capacity a.image.now (ahead a.table.now a.self.value) m.length m.address.0 m.interrupted some enough e a.gathered.now _ c.if-not-interrupted.false c.if-gathered-length.false c.gather.ensures)
