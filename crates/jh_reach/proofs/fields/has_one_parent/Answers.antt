-- Written by tools/reach.py.
use Rattle.std.proofs.Common.{slice_get}
use Rattle.jh_form.specs.Tree.{of_truth}
use Rattle.jh_form.specs.Tree as t
use Rattle.jh_arena.specs.table.Entries.{the_field}
use Rattle.jh_arena.specs.table.Nodes.{nodes, tree_in}
use Rattle.jh_arena.specs.declared.table.shapes.Shape.TheVariants as s
use Rattle.jh_arena.proofs.table.NodeSteps.{fits-Implies, tree-Implies}
use Rattle.jh_arena.proofs.table.Listed.{extends-trans}
use Rattle.jh_import.proofs.entering.Fields.{made-as}
use Rattle.jh_path_formulas.proofs.NodeSteps.{holds-field}
use Rattle.jh_path_formulas.specs.Ways.{child, differ}
use Rattle.jh_reach.proofs.fields.has_one_parent.Goals as goal

pub one_child-requires : goal.one_child-requires
one_child-requires c = record { field = holds-field (slice_get (nodes c.args.table.now) c.args.field) (the_field (slice_get (nodes c.args.table.now) c.args.field)) c.requires.field }

pub returns-in_err-child-clause-grows : goal.returns-in_err-child-clause-grows
returns-in_err-child-clause-grows c = c.one_child.ensures.grows

pub returns-in_err-parent-clause-grows : goal.returns-in_err-parent-clause-grows
returns-in_err-parent-clause-grows c = (extends-trans c.args.table.now c.one_child.new.table c.one_object.new.table c.one_child.ensures.grows c.one_object.ensures.grows)

pub make-requires : goal.make-requires
make-requires c = fits-Implies c.one_object.new.table.pools (nodes c.one_object.new.table) c.in_ok-child.child c.in_ok-parent.parent (t.and (t.eq_object (child (the_field (slice_get (nodes c.args.table.now) c.args.field)) (t.bound 1)) (child (the_field (slice_get (nodes c.args.table.now) c.args.field)) (t.bound 0))) (differ (child (the_field (slice_get (nodes c.args.table.now) c.args.field)) (t.bound 1)) t.null)) (t.eq_object (t.bound 1) (t.bound 0)) (c.one_object.ensures.grows.nodes.keeps c.in_ok-child.child (of_truth (t.and (t.eq_object (child (the_field (slice_get (nodes c.args.table.now) c.args.field)) (t.bound 1)) (child (the_field (slice_get (nodes c.args.table.now) c.args.field)) (t.bound 0))) (differ (child (the_field (slice_get (nodes c.args.table.now) c.args.field)) (t.bound 1)) t.null))) (c.in_ok-child.ensures.node (the_field (slice_get (nodes c.args.table.now) c.args.field)) c.requires.field)) c.in_ok-parent.ensures.node

pub returns-clause-node : goal.returns-clause-node
returns-clause-node c = λ f h_field. made-as (nodes c.make.new.self) c.make.result (tree_in c.one_object.new.table (s.Implies c.in_ok-child.child c.in_ok-parent.parent)) (of_truth (t.implies (t.and (t.eq_object (child f (t.bound 1)) (child f (t.bound 0))) (differ (child f (t.bound 1)) t.null)) (t.eq_object (t.bound 1) (t.bound 0)))) (tree-Implies c.one_object.new.table.pools (nodes c.one_object.new.table) c.in_ok-child.child c.in_ok-parent.parent (t.and (t.eq_object (child f (t.bound 1)) (child f (t.bound 0))) (differ (child f (t.bound 1)) t.null)) (t.eq_object (t.bound 1) (t.bound 0)) (c.one_object.ensures.grows.nodes.keeps c.in_ok-child.child (of_truth (t.and (t.eq_object (child f (t.bound 1)) (child f (t.bound 0))) (differ (child f (t.bound 1)) t.null))) (c.in_ok-child.ensures.node f h_field)) c.in_ok-parent.ensures.node) c.make.ensures.node

pub returns-clause-grows : goal.returns-clause-grows
returns-clause-grows c = (extends-trans c.args.table.now c.one_object.new.table c.make.new.self (extends-trans c.args.table.now c.one_child.new.table c.one_object.new.table c.one_child.ensures.grows c.one_object.ensures.grows) c.make.ensures.grows)
