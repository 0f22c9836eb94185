use Rattle.std.proofs.Common.{◌≡◌}
use Rattle.jh_query.specs.queries.Size.{capped, places}
use Rattle.jh_query.proofs.queries.measuring.places.Given as goal

abbrev pub invariant-loop-element : goal.invariant-loop-element
invariant-loop-element l = l.product ≡ capped (places l.sets l.element)
