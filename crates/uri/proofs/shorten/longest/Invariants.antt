-- The loop keeps: the choice is that among the prefixes before this one.
use Rattle.uri.proofs.Choosing.{Best}
use Rattle.uri.proofs.shorten.longest.Given as goal

abbrev pub invariant-loop-code : goal.invariant-loop-code
invariant-loop-code l = Best l.code l.uri l.best l.len
