use Rattle.std.proofs.Common.{ap, ◌∙◌, Some, slice_get}
use Rattle.jh_form.specs.Tree.{of_object, of_field, of_truth}
use Rattle.jh_form.specs.Tree as t
use Rattle.jh_arena.specs.table.Entries.{the_field}
use Rattle.jh_arena.specs.table.Nodes.{nodes, tree_in}
use Rattle.jh_arena.specs.declared.table.shapes.Shape.TheVariants as s
use Rattle.jh_arena.proofs.table.NodeSteps.{fits-Bound, tree-Bound, fits-Negation, tree-Negation}
use Rattle.jh_arena.proofs.table.Listed.{extends-trans}
use Rattle.jh_import.proofs.entering.Fields.{fits-listed-Reach, tree-listed-Reach, made-as}
use Rattle.jh_splitting.specs.Edges.{list_at}
use Rattle.jh_splitting.proofs.Edging.{list-grows, holds-field}
use Rattle.jh_splitting.proofs.edges.leads_not_back.Goals as goal

pub child_of-requires : goal.child_of-requires
child_of-requires c = record { field = holds-field (slice_get (nodes c.args.table.now) c.args.field) (the_field (slice_get (nodes c.args.table.now) c.args.field)) c.requires.field }

pub returns-in_err-child-clause-grows : goal.returns-in_err-child-clause-grows
returns-in_err-child-clause-grows c = c.child_of.ensures.grows

pub make-requires : goal.make-requires
make-requires c = fits-Bound c.child_of.new.table.pools (nodes c.child_of.new.table) 0

pub returns-in_err-object-clause-grows : goal.returns-in_err-object-clause-grows
returns-in_err-object-clause-grows c = (extends-trans c.args.table.now c.child_of.new.table c.make.new.self c.child_of.ensures.grows c.make.ensures.grows)

pub make-requires-2 : goal.make-requires-2
make-requires-2 c = fits-listed-Reach c.make.new.self c.args.list c.in_ok-child.child c.in_ok-object.object (list_at c.args.table.now c.args.list) (t.read_object (the_field (slice_get (nodes c.args.table.now) c.args.field)) (t.bound 0)) (t.bound 0) (list-grows c.child_of.new.table c.make.new.self c.args.list (list_at c.args.table.now c.args.list) c.make.ensures.grows (list-grows c.args.table.now c.child_of.new.table c.args.list (list_at c.args.table.now c.args.list) c.child_of.ensures.grows c.requires.list)) (c.make.ensures.grows.nodes.keeps c.in_ok-child.child (of_object (t.read_object (the_field (slice_get (nodes c.args.table.now) c.args.field)) (t.bound 0))) (c.in_ok-child.ensures.node (the_field (slice_get (nodes c.args.table.now) c.args.field)) c.requires.field)) (c.in_ok-object.ensures.node ∙ ap (λ z. Some z) (tree-Bound c.child_of.new.table.pools (nodes c.child_of.new.table) 0))

pub returns-in_err-back-clause-grows : goal.returns-in_err-back-clause-grows
returns-in_err-back-clause-grows c = (extends-trans c.args.table.now c.make.new.self c.make-2.new.self (extends-trans c.args.table.now c.child_of.new.table c.make.new.self c.child_of.ensures.grows c.make.ensures.grows) c.make-2.ensures.grows)

pub make-requires-3 : goal.make-requires-3
make-requires-3 c = fits-Negation c.make-2.new.self.pools (nodes c.make-2.new.self) c.in_ok-back.back (t.reach (list_at c.args.table.now c.args.list) (t.read_object (the_field (slice_get (nodes c.args.table.now) c.args.field)) (t.bound 0)) (t.bound 0)) (c.in_ok-back.ensures.node ∙ ap (λ z. Some z) (tree-listed-Reach c.make.new.self c.args.list c.in_ok-child.child c.in_ok-object.object (list_at c.args.table.now c.args.list) (t.read_object (the_field (slice_get (nodes c.args.table.now) c.args.field)) (t.bound 0)) (t.bound 0) (list-grows c.child_of.new.table c.make.new.self c.args.list (list_at c.args.table.now c.args.list) c.make.ensures.grows (list-grows c.args.table.now c.child_of.new.table c.args.list (list_at c.args.table.now c.args.list) c.child_of.ensures.grows c.requires.list)) (c.make.ensures.grows.nodes.keeps c.in_ok-child.child (of_object (t.read_object (the_field (slice_get (nodes c.args.table.now) c.args.field)) (t.bound 0))) (c.in_ok-child.ensures.node (the_field (slice_get (nodes c.args.table.now) c.args.field)) c.requires.field)) (c.in_ok-object.ensures.node ∙ ap (λ z. Some z) (tree-Bound c.child_of.new.table.pools (nodes c.child_of.new.table) 0))))

pub returns-clause-node : goal.returns-clause-node
returns-clause-node c = λ fs f h_list h_field. made-as (nodes c.make-3.new.self) c.make-3.result (tree_in c.make-2.new.self (s.Negation c.in_ok-back.back)) (of_truth (t.negation (t.reach fs (t.read_object f (t.bound 0)) (t.bound 0)))) (tree-Negation c.make-2.new.self.pools (nodes c.make-2.new.self) c.in_ok-back.back (t.reach fs (t.read_object f (t.bound 0)) (t.bound 0)) (c.in_ok-back.ensures.node ∙ ap (λ z. Some z) (tree-listed-Reach c.make.new.self c.args.list c.in_ok-child.child c.in_ok-object.object fs (t.read_object f (t.bound 0)) (t.bound 0) (list-grows c.child_of.new.table c.make.new.self c.args.list fs c.make.ensures.grows (list-grows c.args.table.now c.child_of.new.table c.args.list fs c.child_of.ensures.grows h_list)) (c.make.ensures.grows.nodes.keeps c.in_ok-child.child (of_object (t.read_object f (t.bound 0))) (c.in_ok-child.ensures.node f h_field)) (c.in_ok-object.ensures.node ∙ ap (λ z. Some z) (tree-Bound c.child_of.new.table.pools (nodes c.child_of.new.table) 0))))) c.make-3.ensures.node

pub returns-clause-grows : goal.returns-clause-grows
returns-clause-grows c = (extends-trans c.args.table.now c.make-2.new.self c.make-3.new.self (extends-trans c.args.table.now c.make.new.self c.make-2.new.self (extends-trans c.args.table.now c.child_of.new.table c.make.new.self c.child_of.ensures.grows c.make.ensures.grows) c.make-2.ensures.grows) c.make-3.ensures.grows)
