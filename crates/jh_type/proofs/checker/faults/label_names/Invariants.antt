use Rattle.std.proofs.Common.{◌≡◌, drop}
use Rattle.std.specs.List.{flat_map}
use Rattle.jh_rules.specs.Found.{least, lesser}
use Rattle.jh_symbols.specs.scopes.Firsts.{is_behind}
use Rattle.jh_type.specs.checker.Parts as parts
use Rattle.jh_type.proofs.checker.faults.label_names.Given as goal

-- what is found and the rest give what all give
abbrev pub invariant-loop-invariant : goal.invariant-loop-invariant
invariant-loop-invariant l = lesser l.found (least (flat_map (λ x. flat_map (parts.label_faults (is_behind l.words)) (parts.words_of x)) (drop l.invariant-index l.invariants))) ≡ least (flat_map (λ x. flat_map (parts.label_faults (is_behind l.words)) (parts.words_of x)) l.invariants)
