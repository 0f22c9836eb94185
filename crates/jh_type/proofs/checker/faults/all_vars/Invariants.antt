use Rattle.std.proofs.Common.{◌≡◌, drop}
use Rattle.std.specs.List.{flat_map}
use Rattle.jh_ast.specs.Bare.{var_part}
use Rattle.jh_rules.specs.Found.{least, lesser}
use Rattle.jh_rules.specs.Statements as statements
use Rattle.jh_symbols.specs.scopes.Lookings.{declared_by}
use Rattle.jh_type.proofs.checker.faults.all_vars.Given as goal

-- what is found and the rest give what all give
abbrev pub invariant-loop-var : goal.invariant-loop-var
invariant-loop-var l = lesser l.found (least (flat_map (λ x. (statements.var_faults (declared_by l.lookups) l.number) (var_part x)) (drop l.var-index l.vars))) ≡ least (flat_map (λ x. (statements.var_faults (declared_by l.lookups) l.number) (var_part x)) l.vars)
