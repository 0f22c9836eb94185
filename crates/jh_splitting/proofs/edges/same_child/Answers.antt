use Rattle.std.proofs.Common.{slice_get}
use Rattle.jh_form.specs.Tree.{of_object, of_field, of_truth}
use Rattle.jh_form.specs.Tree as t
use Rattle.jh_arena.specs.table.Entries.{the_field}
use Rattle.jh_arena.specs.table.Nodes.{nodes, tree_in}
use Rattle.jh_arena.specs.declared.table.shapes.Shape.TheVariants as s
use Rattle.jh_arena.proofs.table.NodeSteps.{fits-EqObject, tree-EqObject}
use Rattle.jh_arena.proofs.table.Listed.{extends-trans}
use Rattle.jh_import.proofs.entering.Fields.{made-as}
use Rattle.jh_splitting.proofs.Edging.{holds-field}
use Rattle.jh_splitting.proofs.edges.same_child.Goals as goal

pub child_of-requires : goal.child_of-requires
child_of-requires c = record { field = holds-field (slice_get (nodes c.args.table.now) c.args.field) (the_field (slice_get (nodes c.args.table.now) c.args.field)) c.requires.field }

pub returns-in_err-first-clause-grows : goal.returns-in_err-first-clause-grows
returns-in_err-first-clause-grows c = c.child_of.ensures.grows

pub child_of-requires-2 : goal.child_of-requires-2
child_of-requires-2 c = record { field = holds-field (slice_get (nodes c.child_of.new.table) c.args.other) (the_field (slice_get (nodes c.args.table.now) c.args.other)) (c.child_of.ensures.grows.nodes.keeps c.args.other (of_field (the_field (slice_get (nodes c.args.table.now) c.args.other))) c.requires.other) }

pub returns-in_err-second-clause-grows : goal.returns-in_err-second-clause-grows
returns-in_err-second-clause-grows c = (extends-trans c.args.table.now c.child_of.new.table c.child_of-2.new.table c.child_of.ensures.grows c.child_of-2.ensures.grows)

pub make-requires : goal.make-requires
make-requires c = fits-EqObject c.child_of-2.new.table.pools (nodes c.child_of-2.new.table) c.in_ok-first.first c.in_ok-second.second (t.read_object (the_field (slice_get (nodes c.args.table.now) c.args.field)) (t.bound 1)) (t.read_object (the_field (slice_get (nodes c.args.table.now) c.args.other)) (t.bound 0)) (c.child_of-2.ensures.grows.nodes.keeps c.in_ok-first.first (of_object (t.read_object (the_field (slice_get (nodes c.args.table.now) c.args.field)) (t.bound 1))) (c.in_ok-first.ensures.node (the_field (slice_get (nodes c.args.table.now) c.args.field)) c.requires.field)) (c.in_ok-second.ensures.node (the_field (slice_get (nodes c.args.table.now) c.args.other)) (c.child_of.ensures.grows.nodes.keeps c.args.other (of_field (the_field (slice_get (nodes c.args.table.now) c.args.other))) c.requires.other))

pub returns-clause-node : goal.returns-clause-node
returns-clause-node c = λ f g h_field h_other. made-as (nodes c.make.new.self) c.make.result (tree_in c.child_of-2.new.table (s.EqObject c.in_ok-first.first c.in_ok-second.second)) (of_truth (t.eq_object (t.read_object f (t.bound 1)) (t.read_object g (t.bound 0)))) (tree-EqObject c.child_of-2.new.table.pools (nodes c.child_of-2.new.table) c.in_ok-first.first c.in_ok-second.second (t.read_object f (t.bound 1)) (t.read_object g (t.bound 0)) (c.child_of-2.ensures.grows.nodes.keeps c.in_ok-first.first (of_object (t.read_object f (t.bound 1))) (c.in_ok-first.ensures.node f h_field)) (c.in_ok-second.ensures.node g (c.child_of.ensures.grows.nodes.keeps c.args.other (of_field g) h_other))) c.make.ensures.node

pub returns-clause-grows : goal.returns-clause-grows
returns-clause-grows c = (extends-trans c.args.table.now c.child_of-2.new.table c.make.new.self (extends-trans c.args.table.now c.child_of.new.table c.child_of-2.new.table c.child_of.ensures.grows c.child_of-2.ensures.grows) c.make.ensures.grows)
