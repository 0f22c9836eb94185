-- Written by tools/reach.py.
use Rattle.std.proofs.Common.{ap, ◌∙◌, Some, slice_get}
use Rattle.jh_form.specs.Tree.{of_object, of_field, of_truth}
use Rattle.jh_form.specs.Tree as t
use Rattle.jh_arena.specs.table.Entries.{the_field}
use Rattle.jh_arena.specs.table.Nodes.{nodes, tree_in}
use Rattle.jh_arena.specs.declared.table.shapes.Shape.TheVariants as s
use Rattle.jh_arena.proofs.table.NodeSteps.{fits-Bound, tree-Bound, fits-ReadObject, tree-ReadObject}
use Rattle.jh_arena.proofs.table.Listed.{extends-trans}
use Rattle.jh_import.proofs.entering.Fields.{fits-listed-Reach, tree-listed-Reach, made-as}
use Rattle.jh_path_formulas.proofs.NodeSteps.{list-of, list-grows, unlisted}
use Rattle.jh_path_formulas.specs.Ways.{listed, child, list_at}
use Rattle.jh_reach.proofs.fields.reaches_child.Goals as goal

pub make-requires : goal.make-requires
make-requires c = fits-Bound c.args.table.now.pools (nodes c.args.table.now) 0

pub returns-in_err-object-clause-grows : goal.returns-in_err-object-clause-grows
returns-in_err-object-clause-grows c = c.make.ensures.grows

pub make-requires-2 : goal.make-requires-2
make-requires-2 c = fits-ReadObject c.make.new.self.pools (nodes c.make.new.self) c.args.field c.in_ok-object.object (the_field (slice_get (nodes c.args.table.now) c.args.field)) (t.bound 0) (c.make.ensures.grows.nodes.keeps c.args.field (of_field (the_field (slice_get (nodes c.args.table.now) c.args.field))) c.requires.field) (c.in_ok-object.ensures.node ∙ ap (λ z. Some z) (tree-Bound c.args.table.now.pools (nodes c.args.table.now) 0))

pub returns-in_err-child-clause-grows : goal.returns-in_err-child-clause-grows
returns-in_err-child-clause-grows c = (extends-trans c.args.table.now c.make.new.self c.make-2.new.self c.make.ensures.grows c.make-2.ensures.grows)

pub make-requires-3 : goal.make-requires-3
make-requires-3 c = fits-listed-Reach c.make-2.new.self c.args.list c.in_ok-object.object c.in_ok-child.child (listed (unlisted (list_at c.args.table.now c.args.list))) (t.bound 0) (t.read_object (the_field (slice_get (nodes c.args.table.now) c.args.field)) (t.bound 0)) (list-grows c.make.new.self c.make-2.new.self c.args.list (listed (unlisted (list_at c.args.table.now c.args.list))) c.make-2.ensures.grows (list-grows c.args.table.now c.make.new.self c.args.list (listed (unlisted (list_at c.args.table.now c.args.list))) c.make.ensures.grows (list-of c.args.table.now c.args.list c.requires.list))) (c.make-2.ensures.grows.nodes.keeps c.in_ok-object.object (of_object (t.bound 0)) (c.in_ok-object.ensures.node ∙ ap (λ z. Some z) (tree-Bound c.args.table.now.pools (nodes c.args.table.now) 0))) (c.in_ok-child.ensures.node ∙ ap (λ z. Some z) (tree-ReadObject c.make.new.self.pools (nodes c.make.new.self) c.args.field c.in_ok-object.object (the_field (slice_get (nodes c.args.table.now) c.args.field)) (t.bound 0) (c.make.ensures.grows.nodes.keeps c.args.field (of_field (the_field (slice_get (nodes c.args.table.now) c.args.field))) c.requires.field) (c.in_ok-object.ensures.node ∙ ap (λ z. Some z) (tree-Bound c.args.table.now.pools (nodes c.args.table.now) 0))))

pub returns-clause-node : goal.returns-clause-node
returns-clause-node c = λ fs f h_list h_field. made-as (nodes c.make-3.new.self) c.make-3.result (tree_in c.make-2.new.self (s.Reach c.args.list c.in_ok-object.object c.in_ok-child.child)) (of_truth (t.reach (listed fs) (t.bound 0) (t.read_object f (t.bound 0)))) (tree-listed-Reach c.make-2.new.self c.args.list c.in_ok-object.object c.in_ok-child.child (listed fs) (t.bound 0) (t.read_object f (t.bound 0)) (list-grows c.make.new.self c.make-2.new.self c.args.list (listed fs) c.make-2.ensures.grows (list-grows c.args.table.now c.make.new.self c.args.list (listed fs) c.make.ensures.grows h_list)) (c.make-2.ensures.grows.nodes.keeps c.in_ok-object.object (of_object (t.bound 0)) (c.in_ok-object.ensures.node ∙ ap (λ z. Some z) (tree-Bound c.args.table.now.pools (nodes c.args.table.now) 0))) (c.in_ok-child.ensures.node ∙ ap (λ z. Some z) (tree-ReadObject c.make.new.self.pools (nodes c.make.new.self) c.args.field c.in_ok-object.object f (t.bound 0) (c.make.ensures.grows.nodes.keeps c.args.field (of_field f) h_field) (c.in_ok-object.ensures.node ∙ ap (λ z. Some z) (tree-Bound c.args.table.now.pools (nodes c.args.table.now) 0))))) c.make-3.ensures.node

pub returns-clause-grows : goal.returns-clause-grows
returns-clause-grows c = (extends-trans c.args.table.now c.make-2.new.self c.make-3.new.self (extends-trans c.args.table.now c.make.new.self c.make-2.new.self c.make.ensures.grows c.make-2.ensures.grows) c.make-3.ensures.grows)
