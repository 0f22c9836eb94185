use Rattle.std.proofs.Common.{drop}
use Rattle.jh_closure.specs.congruence_closure.Nodes.{Has}
use Rattle.jh_explanations.proofs.step.has.Given as goal

-- where it stands in the list, it stands in what is left
abbrev pub invariant-loop-item : goal.invariant-loop-item
invariant-loop-item l = Has l.list l.literal → Has (drop l.item-index l.list) l.literal
