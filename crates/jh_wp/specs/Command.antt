-- Commands without memory: guarded commands, as a method is made one. `havoc x y` gives x the value of y, a fresh name that nothing
-- assigns, so that each interpretation chooses it; `leave` is where the method returns, and `stop` ends a run without an end.
use Rattle.std.specs.Prelude.{Bool, true, ◌&&◌}
use Rattle.jh_form.specs.jh_name.declared.naming.Name.{Name}
use Rattle.jh_form.specs.Tree.{ValueTree, FormulaTree}
use Rattle.jh_form.specs.Closed.{is_closed_value}

mutual
  pub data CommandTree : Type 0 where
    assume : FormulaTree → CommandTree
    assert : FormulaTree → CommandTree
    assign : Name → ValueTree → CommandTree
    havoc : Name → Name → CommandTree
    leave : CommandTree
    stop : CommandTree
    seq : CommandTrees → CommandTree
    choice : CommandTree → CommandTree → CommandTree

  pub data CommandTrees : Type 0 where
    none : CommandTrees
    more : CommandTree → CommandTrees → CommandTrees

-- the values that a command assigns have no loose bound variables
unfoldable mutual
  pub is_closed_command : CommandTree → Bool
  is_closed_command (assume f) = true
  is_closed_command (assert f) = true
  is_closed_command (assign x v) = is_closed_value v 0
  is_closed_command (havoc x y) = true
  is_closed_command leave = true
  is_closed_command stop = true
  is_closed_command (seq cs) = are_closed_commands cs
  is_closed_command (choice c d) = is_closed_command c && is_closed_command d

  pub are_closed_commands : CommandTrees → Bool
  are_closed_commands none = true
  are_closed_commands (more c cs) = is_closed_command c && are_closed_commands cs
