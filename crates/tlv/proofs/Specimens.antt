-- The specimens are computed.
-- Assumes nothing.
use mathlib.Core.Path.{refl}
use Rattle.tlv.specs.Views.Search.{tests}
use Rattle.tlv.specs.Views.Specimens.{entered_from, SpecimensTested}

pub specimens-tested : SpecimensTested
unfolding tests entered_from
specimens-tested = refl
