use Rattle.std.proofs.Common.{◌≡◌, drop}
use Rattle.std.specs.List.{flat_map}
use Rattle.jh_rules.specs.Found.{least, lesser}
use Rattle.jh_rules.specs.Rules.{rule_27_from}
use Rattle.jh_symbols.specs.scopes.Lookings.{declared_by, scope_by}
use Rattle.jh_type.proofs.method_bodies.specifying.from_faults.Given as goal

-- what is found and the rest give what all give
abbrev pub invariant-loop-word : goal.invariant-loop-word
invariant-loop-word l = lesser l.found (least (flat_map (rule_27_from (declared_by l.lookups) (scope_by l.at)) (drop l.word-index l.words))) ≡ least (flat_map (rule_27_from (declared_by l.lookups) (scope_by l.at)) l.words)
