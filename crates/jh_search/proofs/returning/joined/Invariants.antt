use Rattle.std.proofs.Common.{◌≡◌, ◌⊎◌, take}
use Rattle.jh_closure.specs.congruence_closure.Nodes.{Has}
use Rattle.jh_propagation.specs.declared.trail.decided.Decided.{Decided}
use Rattle.jh_search.proofs.returning.joined.Given as goal

abbrev pub invariant-loop-place : goal.invariant-loop-place
invariant-loop-place l = record {
  only : (k : Decided) → Has l.made.items k → (Has l.needs k × (l.literal ≡ k → ⊥)) ⊎ Has l.more k;
  first : (k : Decided) → Has (take l.place l.needs) k → (l.literal ≡ k) ⊎ Has l.made.items k;
  second : (k : Decided) → Has l.more k → Has l.made.items k;
}
