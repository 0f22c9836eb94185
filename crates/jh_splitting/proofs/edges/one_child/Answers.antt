use Rattle.std.proofs.Common.{ap, ◌∙◌, Some, slice_get}
use Rattle.jh_form.specs.Tree.{of_object, of_field, of_truth}
use Rattle.jh_form.specs.Tree as t
use Rattle.jh_arena.specs.table.Entries.{the_field}
use Rattle.jh_arena.specs.table.Nodes.{nodes, tree_in}
use Rattle.jh_arena.specs.declared.table.shapes.Shape.TheVariants as s
use Rattle.jh_arena.proofs.table.NodeSteps.{fits-EqObject, tree-EqObject, fits-And, tree-And}
use Rattle.jh_arena.proofs.table.Listed.{extends-trans}
use Rattle.jh_import.proofs.entering.Fields.{made-as}
use Rattle.jh_splitting.proofs.Edging.{holds-field, holds-object}
use Rattle.jh_splitting.proofs.edges.one_child.Goals as goal

pub child_of-requires : goal.child_of-requires
child_of-requires c = record { field = holds-field (slice_get (nodes c.args.table.now) c.args.field) (the_field (slice_get (nodes c.args.table.now) c.args.field)) c.requires.field }

pub returns-in_err-first-clause-grows : goal.returns-in_err-first-clause-grows
returns-in_err-first-clause-grows c = c.child_of.ensures.grows

pub child_of-requires-2 : goal.child_of-requires-2
child_of-requires-2 c = record { field = holds-field (slice_get (nodes c.child_of.new.table) c.args.field) (the_field (slice_get (nodes c.args.table.now) c.args.field)) (c.child_of.ensures.grows.nodes.keeps c.args.field (of_field (the_field (slice_get (nodes c.args.table.now) c.args.field))) c.requires.field) }

pub returns-in_err-second-clause-grows : goal.returns-in_err-second-clause-grows
returns-in_err-second-clause-grows c = (extends-trans c.args.table.now c.child_of.new.table c.child_of-2.new.table c.child_of.ensures.grows c.child_of-2.ensures.grows)

pub make-requires : goal.make-requires
make-requires c = fits-EqObject c.child_of-2.new.table.pools (nodes c.child_of-2.new.table) c.in_ok-first.first c.in_ok-second.second (t.read_object (the_field (slice_get (nodes c.args.table.now) c.args.field)) (t.bound 1)) (t.read_object (the_field (slice_get (nodes c.args.table.now) c.args.field)) (t.bound 0)) (c.child_of-2.ensures.grows.nodes.keeps c.in_ok-first.first (of_object (t.read_object (the_field (slice_get (nodes c.args.table.now) c.args.field)) (t.bound 1))) (c.in_ok-first.ensures.node (the_field (slice_get (nodes c.args.table.now) c.args.field)) c.requires.field)) (c.in_ok-second.ensures.node (the_field (slice_get (nodes c.args.table.now) c.args.field)) (c.child_of.ensures.grows.nodes.keeps c.args.field (of_field (the_field (slice_get (nodes c.args.table.now) c.args.field))) c.requires.field))

pub returns-in_err-same-clause-grows : goal.returns-in_err-same-clause-grows
returns-in_err-same-clause-grows c = (extends-trans c.args.table.now c.child_of-2.new.table c.make.new.self (extends-trans c.args.table.now c.child_of.new.table c.child_of-2.new.table c.child_of.ensures.grows c.child_of-2.ensures.grows) c.make.ensures.grows)

pub not_null-requires : goal.not_null-requires
not_null-requires c = record { object = holds-object (slice_get (nodes c.make.new.self) c.in_ok-first.first) (t.read_object (the_field (slice_get (nodes c.args.table.now) c.args.field)) (t.bound 1)) (c.make.ensures.grows.nodes.keeps c.in_ok-first.first (of_object (t.read_object (the_field (slice_get (nodes c.args.table.now) c.args.field)) (t.bound 1))) (c.child_of-2.ensures.grows.nodes.keeps c.in_ok-first.first (of_object (t.read_object (the_field (slice_get (nodes c.args.table.now) c.args.field)) (t.bound 1))) (c.in_ok-first.ensures.node (the_field (slice_get (nodes c.args.table.now) c.args.field)) c.requires.field))) }

pub returns-in_err-differs-clause-grows : goal.returns-in_err-differs-clause-grows
returns-in_err-differs-clause-grows c = (extends-trans c.args.table.now c.make.new.self c.not_null.new.table (extends-trans c.args.table.now c.child_of-2.new.table c.make.new.self (extends-trans c.args.table.now c.child_of.new.table c.child_of-2.new.table c.child_of.ensures.grows c.child_of-2.ensures.grows) c.make.ensures.grows) c.not_null.ensures.grows)

pub make-requires-2 : goal.make-requires-2
make-requires-2 c = fits-And c.not_null.new.table.pools (nodes c.not_null.new.table) c.in_ok-same.same c.in_ok-differs.differs (t.eq_object (t.read_object (the_field (slice_get (nodes c.args.table.now) c.args.field)) (t.bound 1)) (t.read_object (the_field (slice_get (nodes c.args.table.now) c.args.field)) (t.bound 0))) (t.negation (t.eq_object (t.read_object (the_field (slice_get (nodes c.args.table.now) c.args.field)) (t.bound 1)) t.null)) (c.not_null.ensures.grows.nodes.keeps c.in_ok-same.same (of_truth (t.eq_object (t.read_object (the_field (slice_get (nodes c.args.table.now) c.args.field)) (t.bound 1)) (t.read_object (the_field (slice_get (nodes c.args.table.now) c.args.field)) (t.bound 0)))) (c.in_ok-same.ensures.node ∙ ap (λ z. Some z) (tree-EqObject c.child_of-2.new.table.pools (nodes c.child_of-2.new.table) c.in_ok-first.first c.in_ok-second.second (t.read_object (the_field (slice_get (nodes c.args.table.now) c.args.field)) (t.bound 1)) (t.read_object (the_field (slice_get (nodes c.args.table.now) c.args.field)) (t.bound 0)) (c.child_of-2.ensures.grows.nodes.keeps c.in_ok-first.first (of_object (t.read_object (the_field (slice_get (nodes c.args.table.now) c.args.field)) (t.bound 1))) (c.in_ok-first.ensures.node (the_field (slice_get (nodes c.args.table.now) c.args.field)) c.requires.field)) (c.in_ok-second.ensures.node (the_field (slice_get (nodes c.args.table.now) c.args.field)) (c.child_of.ensures.grows.nodes.keeps c.args.field (of_field (the_field (slice_get (nodes c.args.table.now) c.args.field))) c.requires.field))))) (c.in_ok-differs.ensures.node (t.read_object (the_field (slice_get (nodes c.args.table.now) c.args.field)) (t.bound 1)) (c.make.ensures.grows.nodes.keeps c.in_ok-first.first (of_object (t.read_object (the_field (slice_get (nodes c.args.table.now) c.args.field)) (t.bound 1))) (c.child_of-2.ensures.grows.nodes.keeps c.in_ok-first.first (of_object (t.read_object (the_field (slice_get (nodes c.args.table.now) c.args.field)) (t.bound 1))) (c.in_ok-first.ensures.node (the_field (slice_get (nodes c.args.table.now) c.args.field)) c.requires.field))))

pub returns-clause-node : goal.returns-clause-node
returns-clause-node c = λ f h_field. made-as (nodes c.make-2.new.self) c.make-2.result (tree_in c.not_null.new.table (s.And c.in_ok-same.same c.in_ok-differs.differs)) (of_truth (t.and (t.eq_object (t.read_object f (t.bound 1)) (t.read_object f (t.bound 0))) (t.negation (t.eq_object (t.read_object f (t.bound 1)) t.null)))) (tree-And c.not_null.new.table.pools (nodes c.not_null.new.table) c.in_ok-same.same c.in_ok-differs.differs (t.eq_object (t.read_object f (t.bound 1)) (t.read_object f (t.bound 0))) (t.negation (t.eq_object (t.read_object f (t.bound 1)) t.null)) (c.not_null.ensures.grows.nodes.keeps c.in_ok-same.same (of_truth (t.eq_object (t.read_object f (t.bound 1)) (t.read_object f (t.bound 0)))) (c.in_ok-same.ensures.node ∙ ap (λ z. Some z) (tree-EqObject c.child_of-2.new.table.pools (nodes c.child_of-2.new.table) c.in_ok-first.first c.in_ok-second.second (t.read_object f (t.bound 1)) (t.read_object f (t.bound 0)) (c.child_of-2.ensures.grows.nodes.keeps c.in_ok-first.first (of_object (t.read_object f (t.bound 1))) (c.in_ok-first.ensures.node f h_field)) (c.in_ok-second.ensures.node f (c.child_of.ensures.grows.nodes.keeps c.args.field (of_field f) h_field))))) (c.in_ok-differs.ensures.node (t.read_object f (t.bound 1)) (c.make.ensures.grows.nodes.keeps c.in_ok-first.first (of_object (t.read_object f (t.bound 1))) (c.child_of-2.ensures.grows.nodes.keeps c.in_ok-first.first (of_object (t.read_object f (t.bound 1))) (c.in_ok-first.ensures.node f h_field))))) c.make-2.ensures.node

pub returns-clause-grows : goal.returns-clause-grows
returns-clause-grows c = (extends-trans c.args.table.now c.not_null.new.table c.make-2.new.self (extends-trans c.args.table.now c.make.new.self c.not_null.new.table (extends-trans c.args.table.now c.child_of-2.new.table c.make.new.self (extends-trans c.args.table.now c.child_of.new.table c.child_of-2.new.table c.child_of.ensures.grows c.child_of-2.ensures.grows) c.make.ensures.grows) c.not_null.ensures.grows) c.make-2.ensures.grows)
