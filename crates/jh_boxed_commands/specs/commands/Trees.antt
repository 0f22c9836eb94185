-- The command without memory that a boxed command is.
use Rattle.std.specs.Prelude.{List, [], ◌∷◌}
use Rattle.jh_form.specs.Bare.{formula_tree, value_tree}
use Rattle.jh_wp.specs.Command.{CommandTree, CommandTrees, assume, assert, assign, havoc, leave, stop, seq, choice, none, more}
use Rattle.jh_boxed_commands.specs.declared.commands.command.Command.{Command, Row_of-Command, end_of-Command, more_of-Command}
use Rattle.jh_boxed_commands.specs.declared.commands.command.Command.TheVariants as c

unfoldable mutual
  pub command_tree : Command → CommandTree
  command_tree (c.Assume f) = assume (formula_tree f)
  command_tree (c.Assert f) = assert (formula_tree f)
  command_tree (c.Assign x v) = assign x (value_tree v)
  command_tree (c.Havoc x y) = havoc x y
  command_tree c.Leave = leave
  command_tree c.Stop = stop
  command_tree (c.Seq' shape cs) = seq (row_trees cs)
  command_tree (c.Choice' i a j b) = choice (command_tree a) (command_tree b)

  pub row_trees : {n : _} → Row_of-Command n → CommandTrees
  row_trees end_of-Command = none
  row_trees (more_of-Command a cs) = more (command_tree a) (row_trees cs)

-- one command after another, from a list
abbrev pub trees_of : List CommandTree → CommandTrees
trees_of [] = none
trees_of (a ∷ more_trees) = more a (trees_of more_trees)
