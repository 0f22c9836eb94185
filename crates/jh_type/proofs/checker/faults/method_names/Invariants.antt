use Rattle.std.proofs.Common.{◌≡◌, drop}
use Rattle.std.specs.List.{flat_map}
use Rattle.jh_ast.specs.declared.program.Method.{Method}
use Rattle.jh_rules.specs.Found.{least, lesser}
use Rattle.jh_symbols.specs.scopes.Firsts.{is_behind}
use Rattle.jh_type.specs.checker.Parts as parts
use Rattle.jh_type.proofs.checker.faults.method_names.Given as goal

-- what is found and the rest give what all give
abbrev pub invariant-loop-method : goal.invariant-loop-method
invariant-loop-method l = lesser l.found (least (flat_map (λ (x : Method). parts.member_faults (is_behind l.words) x.name) (drop l.method-index l.methods))) ≡ least (flat_map (λ (x : Method). parts.member_faults (is_behind l.words) x.name) l.methods)
