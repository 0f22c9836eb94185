-- Plain nodes that stand for trees: what structures say of the trees, structures of plain nodes say of their numbers.
use Rattle.std.specs.Prelude.{◌≤◌, ℕ, List, length}
use Rattle.jh_closure.specs.congruence_closure.Closing.{PartsInside}
use Rattle.jh_closure.specs.congruence_closure.Nodes.{Structure, Gives}
use Rattle.jh_closure.specs.declared.congruence_closure.node.Node.{Node}
use Rattle.jh_form.specs.Tree.{ValueTree}
use Rattle.jh_cong.specs.flattening.TreeValues.{NumberStructure, KeepsApart, AreValues}

-- There is a plain node for each tree, of the same number; behind them further ones may stand. The values that a structure
-- gives to the trees are given to the plain nodes by a structure for these. And the values that a structure for plain nodes
-- gives them are given to the trees by a structure, where different constants have different ones.
pub record Flattens (ts : List ValueTree) (ns : List Node) : Type 0 where
  pub count : length ts ≤ length ns
  pub parts : PartsInside (length ns) ns
  pub lowers : (s : NumberStructure) → (c : Structure ℕ) × (at : ℕ → ℕ) × Gives c ns at × AreValues s ts at
  pub lifts : (c : Structure ℕ) (at : ℕ → ℕ) → Gives c ns at → KeepsApart ts at → (s : NumberStructure) × AreValues s ts at
