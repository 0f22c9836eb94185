use Rattle.std.proofs.Common.{◌≡◌, drop}
use Rattle.std.specs.List.{flat_map}
use Rattle.jh_ast.specs.declared.program.SpecVar.{SpecVar}
use Rattle.jh_rules.specs.Found.{least, lesser}
use Rattle.jh_symbols.specs.scopes.Firsts.{is_behind}
use Rattle.jh_type.specs.checker.Parts as parts
use Rattle.jh_type.proofs.checker.faults.var_names.Given as goal

-- what is found and the rest give what all give
abbrev pub invariant-loop-var : goal.invariant-loop-var
invariant-loop-var l = lesser l.found (least (flat_map (λ (x : SpecVar). parts.member_faults (is_behind l.words) x.name) (drop l.var-index l.vars))) ≡ least (flat_map (λ (x : SpecVar). parts.member_faults (is_behind l.words) x.name) l.vars)
