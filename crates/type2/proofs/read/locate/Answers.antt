use Rattle.std.proofs.Common.{arith}
use Rattle.tlv_tag.proofs.Fitting.{blank_area}
use Rattle.type2.proofs.read.locate.Goals as goal

pub locate-requires : goal.locate-requires
locate-requires c = let p = c.in_ok-area.ensures in blank_area 1024 c.requires (omega arith) (omega (arith, p.ends)) (omega (arith, p.inside, p.short)) (omega (arith, p.inside))
