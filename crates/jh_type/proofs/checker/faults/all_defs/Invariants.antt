use Rattle.std.proofs.Common.{◌≡◌, drop}
use Rattle.std.specs.List.{flat_map}
use Rattle.jh_ast.specs.Bare.{def_part}
use Rattle.jh_rules.specs.Found.{least, lesser}
use Rattle.jh_symbols.specs.scopes.Firsts.{is_behind}
use Rattle.jh_symbols.specs.scopes.Lookings.{declared_by}
use Rattle.jh_type.specs.checker.Parts as parts
use Rattle.jh_type.proofs.checker.faults.all_defs.Given as goal

-- what is found and the rest give what all give
abbrev pub invariant-loop-definition : goal.invariant-loop-definition
invariant-loop-definition l = lesser l.found (least (flat_map (λ x. (parts.def_faults (declared_by l.lookups) l.number (is_behind l.words)) (def_part x)) (drop l.definition-index l.defs))) ≡ least (flat_map (λ x. (parts.def_faults (declared_by l.lookups) l.number (is_behind l.words)) (def_part x)) l.defs)
