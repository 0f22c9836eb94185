use Rattle.std.proofs.Common.{◌<◌, ℕ}
use Rattle.jh_closure.specs.congruence_closure.Nodes.{Has}
use Rattle.jh_closure.proofs.congruence_closure.beginning.numbers.Given as goal

abbrev pub invariant-loop-number : goal.invariant-loop-number
invariant-loop-number l = record {
  all : (k : ℕ) → k < l.number → Has l.made.items k;
  inside : (k : ℕ) → Has l.made.items k → k < l.number;
}
