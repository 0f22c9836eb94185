use Rattle.std.proofs.Common.{map, take}
use Rattle.jh_derivation_rules.specs.Steps.{step_tree}
use Rattle.jh_instance_proofs.specs.derivations.Nesting.{OperandsNestWithin}
use Rattle.jh_instance_proofs.proofs.derivations.nesting.are_shallow.Given as goal

-- no operand of the first steps nests deeper
abbrev pub invariant-loop-place : goal.invariant-loop-place
invariant-loop-place l = OperandsNestWithin 4096 (map step_tree (take l.place l.steps))
