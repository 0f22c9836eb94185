use Rattle.std.proofs.Common.{◌≡◌, drop}
use Rattle.std.specs.List.{flat_map}
use Rattle.jh_ast.specs.Bare.{labelled_part}
use Rattle.jh_rules.specs.Found.{least, lesser}
use Rattle.jh_symbols.specs.scopes.Lookings.{declared_by, scope_by}
use Rattle.jh_type.specs.checker.Parts as parts
use Rattle.jh_type.proofs.checker.faults.all_invariants.Given as goal

-- what is found and the rest give what all give
abbrev pub invariant-loop-invariant : goal.invariant-loop-invariant
invariant-loop-invariant l = lesser l.found (least (flat_map (λ x. (parts.invariant_in (declared_by l.lookups) (scope_by l.at)) (labelled_part x)) (drop l.invariant-index l.invariants))) ≡ least (flat_map (λ x. (parts.invariant_in (declared_by l.lookups) (scope_by l.at)) (labelled_part x)) l.invariants)
