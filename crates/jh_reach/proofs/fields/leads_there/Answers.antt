-- Written by tools/reach.py.
use Rattle.std.proofs.Common.{ap, ◌∙◌, Some, slice_get}
use Rattle.jh_form.specs.Tree.{of_object, of_truth}
use Rattle.jh_form.specs.Tree as t
use Rattle.jh_arena.specs.table.Entries.{the_field}
use Rattle.jh_arena.specs.table.Nodes.{nodes, tree_in}
use Rattle.jh_arena.specs.declared.table.shapes.Shape.TheVariants as s
use Rattle.jh_arena.proofs.table.NodeSteps.{fits-Bound, tree-Bound, fits-EqObject, tree-EqObject}
use Rattle.jh_arena.proofs.table.Listed.{extends-trans}
use Rattle.jh_import.proofs.entering.Fields.{made-as}
use Rattle.jh_path_formulas.proofs.NodeSteps.{holds-field}
use Rattle.jh_path_formulas.specs.Ways.{child}
use Rattle.jh_reach.proofs.fields.leads_there.Goals as goal

pub child_of-requires : goal.child_of-requires
child_of-requires c = record { field = holds-field (slice_get (nodes c.args.table.now) c.args.field) (the_field (slice_get (nodes c.args.table.now) c.args.field)) c.requires.field }

pub returns-in_err-child-clause-grows : goal.returns-in_err-child-clause-grows
returns-in_err-child-clause-grows c = c.child_of.ensures.grows

pub make-requires : goal.make-requires
make-requires c = fits-Bound c.child_of.new.table.pools (nodes c.child_of.new.table) 1

pub returns-in_err-object-clause-grows : goal.returns-in_err-object-clause-grows
returns-in_err-object-clause-grows c = (extends-trans c.args.table.now c.child_of.new.table c.make.new.self c.child_of.ensures.grows c.make.ensures.grows)

pub make-requires-2 : goal.make-requires-2
make-requires-2 c = fits-EqObject c.make.new.self.pools (nodes c.make.new.self) c.in_ok-child.child c.in_ok-object.object (child (the_field (slice_get (nodes c.args.table.now) c.args.field)) (t.bound 0)) (t.bound 1) (c.make.ensures.grows.nodes.keeps c.in_ok-child.child (of_object (child (the_field (slice_get (nodes c.args.table.now) c.args.field)) (t.bound 0))) (c.in_ok-child.ensures.node (the_field (slice_get (nodes c.args.table.now) c.args.field)) c.requires.field)) (c.in_ok-object.ensures.node ∙ ap (λ z. Some z) (tree-Bound c.child_of.new.table.pools (nodes c.child_of.new.table) 1))

pub returns-clause-node : goal.returns-clause-node
returns-clause-node c = λ f h_field. made-as (nodes c.make-2.new.self) c.make-2.result (tree_in c.make.new.self (s.EqObject c.in_ok-child.child c.in_ok-object.object)) (of_truth (t.eq_object (child f (t.bound 0)) (t.bound 1))) (tree-EqObject c.make.new.self.pools (nodes c.make.new.self) c.in_ok-child.child c.in_ok-object.object (child f (t.bound 0)) (t.bound 1) (c.make.ensures.grows.nodes.keeps c.in_ok-child.child (of_object (child f (t.bound 0))) (c.in_ok-child.ensures.node f h_field)) (c.in_ok-object.ensures.node ∙ ap (λ z. Some z) (tree-Bound c.child_of.new.table.pools (nodes c.child_of.new.table) 1))) c.make-2.ensures.node

pub returns-clause-grows : goal.returns-clause-grows
returns-clause-grows c = (extends-trans c.args.table.now c.make.new.self c.make-2.new.self (extends-trans c.args.table.now c.child_of.new.table c.make.new.self c.child_of.ensures.grows c.make.ensures.grows) c.make-2.ensures.grows)
