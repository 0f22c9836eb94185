-- Boxed commands: an equation for each variant.
use Rattle.std.proofs.Common.{◌≡◌, refl, ap, ◌∙◌, List, [], ◌∷◌, map}
use Rattle.jh_name.specs.declared.naming.Name.{Name}
use Rattle.jh_form.specs.declared.form.Formula.{Formula}
use Rattle.jh_form.specs.declared.form.Value.{Value}
use Rattle.jh_form.specs.Bare.{formula_tree, value_tree}
use Rattle.jh_wp.specs.Command as w
use Rattle.jh_boxed_commands.specs.declared.commands.command.Command.{Command, Row_of-Command, end_of-Command, more_of-Command, items-the_row-Command, items_hidden-the_row-Command-0}
use Rattle.jh_boxed_commands.specs.declared.commands.command.Command.TheBlock.{hidden-the_row-Command-0}
use Rattle.jh_boxed_commands.specs.declared.commands.command.Command.TheVariants as c
use Rattle.jh_boxed_commands.specs.commands.Trees.{command_tree, row_trees, trees_of}

-- a row is the list of its items
row_trees-items : {n : _} (cs : Row_of-Command n) → row_trees cs ≡ trees_of (map command_tree (items-the_row-Command n cs))
unfolding row_trees
row_trees-items end_of-Command = refl
row_trees-items (more_of-Command a cs) = ap (w.more (command_tree a)) (row_trees-items cs)

pub tree-Assume : (f : Formula) → command_tree (c.Assume f) ≡ w.assume (formula_tree f)
unfolding command_tree
tree-Assume f = refl

pub tree-Assert : (f : Formula) → command_tree (c.Assert f) ≡ w.assert (formula_tree f)
unfolding command_tree
tree-Assert f = refl

pub tree-Assign : (x : Name) (v : Value) → command_tree (c.Assign x v) ≡ w.assign x (value_tree v)
unfolding command_tree
tree-Assign x v = refl

pub tree-Havoc : (x y : Name) → command_tree (c.Havoc x y) ≡ w.havoc x y
unfolding command_tree
tree-Havoc x y = refl

pub tree-Leave : command_tree c.Leave ≡ w.leave
unfolding command_tree
tree-Leave = refl

pub tree-Stop : command_tree c.Stop ≡ w.stop
unfolding command_tree
tree-Stop = refl

pub tree-Seq : (cs : List Command) → command_tree (c.Seq cs) ≡ w.seq (trees_of (map command_tree cs))
unfolding command_tree
tree-Seq cs = ap w.seq (row_trees-items (hidden-the_row-Command-0 cs) ∙ ap (λ (xs : List Command). trees_of (map command_tree xs)) (items_hidden-the_row-Command-0 cs))

pub tree-Choice : (i j : _) (a b : Command) → command_tree (c.Choice' i a j b) ≡ w.choice (command_tree a) (command_tree b)
unfolding command_tree
tree-Choice i j a b = refl

pub ruleset tree_steps = (tree-Assume, tree-Assert, tree-Assign, tree-Havoc, tree-Leave, tree-Stop, tree-Seq, tree-Choice)
