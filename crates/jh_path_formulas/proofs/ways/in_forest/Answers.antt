-- Written by tools/reach.py.
use Rattle.std.proofs.Common.{ap, ◌∙◌, Some, slice_get}
use Rattle.jh_form.specs.Tree.{of_truth}
use Rattle.jh_form.specs.Tree as t
use Rattle.jh_arena.specs.table.Entries.{the_truth}
use Rattle.jh_arena.specs.table.Nodes.{nodes, tree_in}
use Rattle.jh_arena.specs.declared.table.shapes.Shape.TheVariants as s
use Rattle.jh_arena.proofs.table.NodeSteps.{fits-And, tree-And}
use Rattle.jh_arena.proofs.table.Listed.{extends-trans}
use Rattle.jh_import.proofs.entering.Fields.{fits-listed-Tree, tree-listed-Tree, made-as}
use Rattle.jh_path_formulas.proofs.NodeSteps.{list-of, unlisted}
use Rattle.jh_path_formulas.specs.Ways.{listed, list_at}
use Rattle.jh_path_formulas.proofs.ways.in_forest.Goals as goal

pub make-requires : goal.make-requires
make-requires c = fits-listed-Tree c.args.table.now c.args.list (listed (unlisted (list_at c.args.table.now c.args.list))) (list-of c.args.table.now c.args.list c.requires.list)

pub returns-in_err-trees-clause-grows : goal.returns-in_err-trees-clause-grows
returns-in_err-trees-clause-grows c = c.make.ensures.grows

pub make-requires-2 : goal.make-requires-2
make-requires-2 c = fits-And c.make.new.self.pools (nodes c.make.new.self) c.in_ok-trees.trees c.args.beside (t.tree (listed (unlisted (list_at c.args.table.now c.args.list)))) (the_truth (slice_get (nodes c.args.table.now) c.args.beside)) (c.in_ok-trees.ensures.node ∙ ap (λ z. Some z) (tree-listed-Tree c.args.table.now c.args.list (listed (unlisted (list_at c.args.table.now c.args.list))) (list-of c.args.table.now c.args.list c.requires.list))) (c.make.ensures.grows.nodes.keeps c.args.beside (of_truth (the_truth (slice_get (nodes c.args.table.now) c.args.beside))) c.requires.beside)

pub returns-clause-node : goal.returns-clause-node
returns-clause-node c = λ fs b h_list h_beside. made-as (nodes c.make-2.new.self) c.make-2.result (tree_in c.make.new.self (s.And c.in_ok-trees.trees c.args.beside)) (of_truth (t.and (t.tree (listed fs)) b)) (tree-And c.make.new.self.pools (nodes c.make.new.self) c.in_ok-trees.trees c.args.beside (t.tree (listed fs)) b (c.in_ok-trees.ensures.node ∙ ap (λ z. Some z) (tree-listed-Tree c.args.table.now c.args.list (listed fs) h_list)) (c.make.ensures.grows.nodes.keeps c.args.beside (of_truth b) h_beside)) c.make-2.ensures.node

pub returns-clause-grows : goal.returns-clause-grows
returns-clause-grows c = (extends-trans c.args.table.now c.make.new.self c.make-2.new.self c.make.ensures.grows c.make-2.ensures.grows)
