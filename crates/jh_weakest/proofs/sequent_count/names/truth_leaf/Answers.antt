use Rattle.std.proofs.Common.{◌≡◌, ◌∙◌, ap, slice_get, Some, is_some}
use Rattle.std.proofs.lemmas.Result.{IfOk-weaker}
use Rattle.jh_form.specs.Tree.{of_truth}
use Rattle.jh_form.specs.Tree as tree
use Rattle.jh_arena.specs.table.Entries.{the_name}
use Rattle.jh_arena.specs.table.Nodes.{nodes, fits, shape_tree, tree_in}
use Rattle.jh_arena.specs.declared.table.shapes.Shape.TheVariants as s
use Rattle.jh_weakest.proofs.sequent_count.names.truth_leaf.Goals as goal

pub make-requires : goal.make-requires
unfolding fits
make-requires c = ap is_some c.in_ok-number.ensures.number

pub returns-clause-node : goal.returns-clause-node
unfolding shape_tree the_name
returns-clause-node c =
    IfOk-weaker
    c.make.result
    (λ made. slice_get (nodes c.make.new.self) made ≡ Some (tree_in c.name.new.self (s.FreeTruth c.in_ok-number.number)))
    (λ made. slice_get (nodes c.make.new.self) made ≡ Some (of_truth (tree.free_truth c.args.name.now)))
    (λ made e. e ∙ ap (λ o. Some (of_truth (tree.free_truth (the_name o)))) c.in_ok-number.ensures.number)
    c.make.ensures.node
