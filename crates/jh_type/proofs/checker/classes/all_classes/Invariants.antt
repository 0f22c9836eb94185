use Rattle.std.proofs.Common.{◌≡◌, map, drop}
use Rattle.jh_ast.specs.Bare.{class_part}
use Rattle.jh_rules.specs.Found.{least, lesser}
use Rattle.jh_symbols.specs.scopes.Firsts.{is_behind}
use Rattle.jh_symbols.specs.scopes.Lookings.{declared_by}
use Rattle.jh_type.specs.checker.Wholes as wholes
use Rattle.jh_type.proofs.checker.classes.all_classes.Given as goal

-- what is found and the rest give what all give
abbrev pub invariant-loop-index : goal.invariant-loop-index
invariant-loop-index l = lesser l.found (least (wholes.all_classes (declared_by l.lookups) l.index (is_behind l.names) (map class_part (drop l.index l.classes)))) ≡ least (wholes.all_classes (declared_by l.lookups) 0 (is_behind l.names) (map class_part l.classes))
