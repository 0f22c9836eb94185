use Rattle.std.proofs.Common.{◌≡◌, true, take}
use Rattle.jh_closure.specs.congruence_closure.Nodes.{Has}
use Rattle.jh_propagation.specs.declared.trail.decided.Decided.{Decided}
use Rattle.jh_explanations.specs.declared.step.Step.{Step}
use Rattle.jh_search.proofs.closing.needs_of.Given as goal

abbrev pub invariant-loop-place : goal.invariant-loop-place
invariant-loop-place l = record {
  only : (d : Decided) → Has l.needs.items d → (s : Step) × (Has l.steps s × ((s.literal ≡ d) × (s.is_decision ≡ true)));
  all : (s : Step) → Has (take l.place l.steps) s → s.is_decision ≡ true → Has l.needs.items s.literal;
}
