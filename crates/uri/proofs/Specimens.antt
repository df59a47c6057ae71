-- The specimens are computed.
-- Assumes nothing.
use mathlib.Core.Path.{refl}
use Rattle.uri.specs.Prefixes.{prefixes}
use Rattle.uri.specs.Payload.{uri_of, begins, longest_of}
use Rattle.uri.specs.Specimens.{SpecimensExpanded, SpecimensShortened}

pub specimens-expanded : SpecimensExpanded
unfolding uri_of prefixes
specimens-expanded = refl

pub specimens-shortened : SpecimensShortened
unfolding longest_of begins prefixes
specimens-shortened = refl
