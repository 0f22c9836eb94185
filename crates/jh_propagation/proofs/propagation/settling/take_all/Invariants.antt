use Rattle.std.proofs.Common.{[], ◌∷◌, take}
use Rattle.jh_closure.specs.congruence_closure.Nodes.{Has}
use Rattle.jh_propagation.specs.declared.trail.decided.Decided.{Decided}
use Rattle.jh_propagation.specs.propagation.Branches.{HasMore, IsBranch, IsSaid, WaitsAgain}
use Rattle.jh_propagation.proofs.propagation.settling.take_all.Given as goal

abbrev pub invariant-loop-index : goal.invariant-loop-index
invariant-loop-index l = record {
  branch : IsBranch l.problem (l.place ∷ []) l.branch;
  more : HasMore l.problem l.fn.branch l.branch;
  said : (d : Decided) → Has (take l.index l.list) d → IsSaid l.branch.trail d.atom;
  waits : WaitsAgain l.fn.branch l.branch l.place;
}
