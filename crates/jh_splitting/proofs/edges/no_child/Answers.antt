use Rattle.std.proofs.Common.{ap, ◌∙◌, Some, slice_get}
use Rattle.jh_form.specs.Tree.{of_object, of_field, of_truth}
use Rattle.jh_form.specs.Tree as t
use Rattle.jh_arena.specs.table.Entries.{the_field}
use Rattle.jh_arena.specs.table.Nodes.{nodes, tree_in}
use Rattle.jh_arena.specs.declared.table.shapes.Shape.TheVariants as s
use Rattle.jh_arena.proofs.table.NodeSteps.{fits-Null, tree-Null, fits-EqObject, tree-EqObject}
use Rattle.jh_arena.proofs.table.Listed.{extends-trans}
use Rattle.jh_import.proofs.entering.Fields.{made-as}
use Rattle.jh_splitting.proofs.Edging.{holds-field}
use Rattle.jh_splitting.proofs.edges.no_child.Goals as goal

pub child_of-requires : goal.child_of-requires
child_of-requires c = record { field = holds-field (slice_get (nodes c.args.table.now) c.args.field) (the_field (slice_get (nodes c.args.table.now) c.args.field)) c.requires.field }

pub returns-in_err-child-clause-grows : goal.returns-in_err-child-clause-grows
returns-in_err-child-clause-grows c = c.child_of.ensures.grows

pub make-requires : goal.make-requires
make-requires c = fits-Null c.child_of.new.table.pools (nodes c.child_of.new.table)

pub returns-in_err-null-clause-grows : goal.returns-in_err-null-clause-grows
returns-in_err-null-clause-grows c = (extends-trans c.args.table.now c.child_of.new.table c.make.new.self c.child_of.ensures.grows c.make.ensures.grows)

pub make-requires-2 : goal.make-requires-2
make-requires-2 c = fits-EqObject c.make.new.self.pools (nodes c.make.new.self) c.in_ok-child.child c.in_ok-null.null (t.read_object (the_field (slice_get (nodes c.args.table.now) c.args.field)) (t.bound 1)) t.null (c.make.ensures.grows.nodes.keeps c.in_ok-child.child (of_object (t.read_object (the_field (slice_get (nodes c.args.table.now) c.args.field)) (t.bound 1))) (c.in_ok-child.ensures.node (the_field (slice_get (nodes c.args.table.now) c.args.field)) c.requires.field)) (c.in_ok-null.ensures.node ∙ ap (λ z. Some z) (tree-Null c.child_of.new.table.pools (nodes c.child_of.new.table)))

pub returns-clause-node : goal.returns-clause-node
returns-clause-node c = λ f h_field. made-as (nodes c.make-2.new.self) c.make-2.result (tree_in c.make.new.self (s.EqObject c.in_ok-child.child c.in_ok-null.null)) (of_truth (t.eq_object (t.read_object f (t.bound 1)) t.null)) (tree-EqObject c.make.new.self.pools (nodes c.make.new.self) c.in_ok-child.child c.in_ok-null.null (t.read_object f (t.bound 1)) t.null (c.make.ensures.grows.nodes.keeps c.in_ok-child.child (of_object (t.read_object f (t.bound 1))) (c.in_ok-child.ensures.node f h_field)) (c.in_ok-null.ensures.node ∙ ap (λ z. Some z) (tree-Null c.child_of.new.table.pools (nodes c.child_of.new.table)))) c.make-2.ensures.node

pub returns-clause-grows : goal.returns-clause-grows
returns-clause-grows c = (extends-trans c.args.table.now c.make.new.self c.make-2.new.self (extends-trans c.args.table.now c.child_of.new.table c.make.new.self c.child_of.ensures.grows c.make.ensures.grows) c.make-2.ensures.grows)
