use Rattle.std.proofs.Common.{◌≡◌, drop}
use Rattle.std.specs.List.{flat_map}
use Rattle.jh_ast.specs.Bare.{field_part}
use Rattle.jh_rules.specs.Found.{least, lesser}
use Rattle.jh_rules.specs.Statements as statements
use Rattle.jh_symbols.specs.scopes.Lookings.{declared_by}
use Rattle.jh_type.proofs.checker.faults.all_fields.Given as goal

-- what is found and the rest give what all give
abbrev pub invariant-loop-field : goal.invariant-loop-field
invariant-loop-field l = lesser l.found (least (flat_map (λ x. (statements.field_faults (declared_by l.lookups)) (field_part x)) (drop l.field-index l.fields))) ≡ least (flat_map (λ x. (statements.field_faults (declared_by l.lookups)) (field_part x)) l.fields)
