use Rattle.std.proofs.Common.{◌≡◌, refl, sym, ◌∙◌, arith, eqb, true, false, eq-eqb, ne_eqb}
use Rattle.ndef.specs.Header.{cf}
use Rattle.ndef.proofs.Bits.{no-flag}
use Rattle.ndef.proofs.flags.Flags.is_chunk.Goals as goal

pub returns-then-self-ne0 : goal.returns-then-self-ne0
returns-then-self-ne0 c =
    let mask = no-flag c.args.self.0 5 32 refl (omega arith) in
    let set : eqb (cf c.args.self.0) 0 ≡ false = sym mask ∙ ne_eqb _ 0 c.if-self-ne0.true in
    rw (mask, set)

pub returns-else-self-ne0 : goal.returns-else-self-ne0
returns-else-self-ne0 c =
    let clear : eqb (cf c.args.self.0) 0 ≡ true = sym (no-flag c.args.self.0 5 32 refl (omega arith)) ∙ eq-eqb _ 0 c.if-self-ne0.false in
    rw (clear, c.tnf.ensures)
