use Rattle.std.proofs.Common.{◌≡◌, drop}
use Rattle.jh_rules.specs.Found.{least, lesser}
use Rattle.jh_symbols.specs.scopes.Lookings.{declared_by, scope_by}
use Rattle.jh_symbols.specs.scopes.Asking.{all_faults}
use Rattle.jh_symbols.proofs.scopes.calls.least_in.Given as goal

-- what is found and the rest give what all give
abbrev pub invariant-loop-expr : goal.invariant-loop-expr
invariant-loop-expr l = lesser l.found (least (all_faults (declared_by l.lookups) (scope_by l.at) (drop l.expr-index l.exprs))) ≡ least (all_faults (declared_by l.lookups) (scope_by l.at) l.exprs)
