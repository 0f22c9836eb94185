use Rattle.std.proofs.Common.{◌≡◌, ◌<◌, ℕ, true, length}
use Rattle.jh_closure.specs.congruence_closure.Nodes.{Has}
use Rattle.jh_arena.specs.table.Nodes.{nodes}
use Rattle.jh_cong.specs.classes.Constants.{is_constant}
use Rattle.jh_cong.specs.classes.Saying.{tree_at}
use Rattle.jh_cong.proofs.classes.apart.constants.Given as goal

abbrev pub invariant-loop-node : goal.invariant-loop-node
invariant-loop-node l = record {
  covers : (k : ℕ) → k < l.node → is_constant (tree_at (nodes l.table) k) ≡ true → Has l.made.items k;
  inside : (k : ℕ) → Has l.made.items k → k < length (nodes l.table);
  right : (k : ℕ) → Has l.made.items k → is_constant (tree_at (nodes l.table) k) ≡ true;
}
