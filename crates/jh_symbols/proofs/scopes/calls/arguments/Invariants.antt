use Rattle.jh_symbols.specs.scopes.Lookings.{declared_by, scope_by}
use Rattle.jh_symbols.proofs.scopes.Arguments.{Gathers}
use Rattle.jh_symbols.proofs.scopes.calls.arguments.Given as goal

-- what is found and the rest give what all give
abbrev pub invariant-loop-index : goal.invariant-loop-index
invariant-loop-index l = Gathers (declared_by l.lookups) (scope_by l.at) l.exprs l.params l.index l.found
