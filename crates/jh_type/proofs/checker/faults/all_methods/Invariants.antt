use Rattle.std.proofs.Common.{◌≡◌, drop}
use Rattle.std.specs.List.{flat_map}
use Rattle.jh_ast.specs.Bare.{method_part}
use Rattle.jh_rules.specs.Found.{least, lesser}
use Rattle.jh_rules.specs.Statements as statements
use Rattle.jh_symbols.specs.scopes.Lookings.{declared_by}
use Rattle.jh_type.proofs.checker.faults.all_methods.Given as goal

-- what is found and the rest give what all give
abbrev pub invariant-loop-method : goal.invariant-loop-method
invariant-loop-method l = lesser l.found (least (flat_map (λ x. (statements.method_faults (declared_by l.lookups) l.number) (method_part x)) (drop l.method-index l.methods))) ≡ least (flat_map (λ x. (statements.method_faults (declared_by l.lookups) l.number) (method_part x)) l.methods)
