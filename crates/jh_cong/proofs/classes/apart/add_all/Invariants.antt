use Rattle.std.proofs.Common.{◌≡◌, ◌<◌, ◌⊎◌, ℕ, Some, slice_get}
use Rattle.jh_closure.specs.congruence_closure.Nodes.{Has}
use Rattle.jh_closure.specs.declared.congruence_closure.equation.Equation.{Equation}
use Rattle.jh_arena.specs.table.Nodes.{nodes}
use Rattle.jh_cong.specs.flattening.TreeValues.{AreApart}
use Rattle.jh_cong.specs.classes.Constants.{ArePair}
use Rattle.jh_cong.specs.classes.Saying.{pair_of, tree_at}
use Rattle.jh_cong.proofs.classes.apart.add_all.Given as goal

abbrev pub invariant-loop-place : goal.invariant-loop-place
invariant-loop-place l = record {
  covers : (i m k : ℕ) → i < l.place → slice_get l.listed i ≡ Some m → Has l.listed k → AreApart (tree_at (nodes l.table) m) (tree_at (nodes l.table) k) → Has l.pairs.items (pair_of m k);
  only : (e : Equation) → Has l.pairs.items e → Has l.fn.pairs.items e ⊎ ArePair (nodes l.table) e;
}
