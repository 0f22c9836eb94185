-- Written by tools/reach.py.
use Rattle.std.proofs.Common.{ap, ◌∙◌, Some, slice_get}
use Rattle.jh_form.specs.Tree.{of_object, of_field, of_truth}
use Rattle.jh_form.specs.Tree as t
use Rattle.jh_arena.specs.table.Entries.{the_field}
use Rattle.jh_arena.specs.table.Nodes.{nodes, tree_in}
use Rattle.jh_arena.specs.declared.table.shapes.Shape.TheVariants as s
use Rattle.jh_arena.proofs.table.NodeSteps.{fits-Null, tree-Null, fits-EqObject, tree-EqObject, fits-Implies, tree-Implies}
use Rattle.jh_arena.proofs.table.Listed.{extends-trans}
use Rattle.jh_import.proofs.entering.Fields.{made-as}
use Rattle.jh_path_formulas.proofs.NodeSteps.{holds-field}
use Rattle.jh_path_formulas.specs.Ways.{child}
use Rattle.jh_reach.proofs.fields.share_no_child.Goals as goal

pub child_of-requires : goal.child_of-requires
child_of-requires c = record { field = holds-field (slice_get (nodes c.args.table.now) c.args.field) (the_field (slice_get (nodes c.args.table.now) c.args.field)) c.requires.field }

pub returns-in_err-first-clause-grows : goal.returns-in_err-first-clause-grows
returns-in_err-first-clause-grows c = c.child_of.ensures.grows

pub child_of-requires-2 : goal.child_of-requires-2
child_of-requires-2 c = record { field = holds-field (slice_get (nodes c.child_of.new.table) c.args.other) (the_field (slice_get (nodes c.args.table.now) c.args.other)) (c.child_of.ensures.grows.nodes.keeps c.args.other (of_field (the_field (slice_get (nodes c.args.table.now) c.args.other))) c.requires.other) }

pub returns-in_err-second-clause-grows : goal.returns-in_err-second-clause-grows
returns-in_err-second-clause-grows c = (extends-trans c.args.table.now c.child_of.new.table c.child_of-2.new.table c.child_of.ensures.grows c.child_of-2.ensures.grows)

pub make-requires : goal.make-requires
make-requires c = fits-EqObject c.child_of-2.new.table.pools (nodes c.child_of-2.new.table) c.in_ok-first.first c.in_ok-second.second (child (the_field (slice_get (nodes c.args.table.now) c.args.field)) (t.bound 1)) (child (the_field (slice_get (nodes c.args.table.now) c.args.other)) (t.bound 0)) (c.child_of-2.ensures.grows.nodes.keeps c.in_ok-first.first (of_object (child (the_field (slice_get (nodes c.args.table.now) c.args.field)) (t.bound 1))) (c.in_ok-first.ensures.node (the_field (slice_get (nodes c.args.table.now) c.args.field)) c.requires.field)) (c.in_ok-second.ensures.node (the_field (slice_get (nodes c.args.table.now) c.args.other)) (c.child_of.ensures.grows.nodes.keeps c.args.other (of_field (the_field (slice_get (nodes c.args.table.now) c.args.other))) c.requires.other))

pub returns-in_err-same-clause-grows : goal.returns-in_err-same-clause-grows
returns-in_err-same-clause-grows c = (extends-trans c.args.table.now c.child_of-2.new.table c.make.new.self (extends-trans c.args.table.now c.child_of.new.table c.child_of-2.new.table c.child_of.ensures.grows c.child_of-2.ensures.grows) c.make.ensures.grows)

pub make-requires-2 : goal.make-requires-2
make-requires-2 c = fits-Null c.make.new.self.pools (nodes c.make.new.self)

pub returns-in_err-null-clause-grows : goal.returns-in_err-null-clause-grows
returns-in_err-null-clause-grows c = (extends-trans c.args.table.now c.make.new.self c.make-2.new.self (extends-trans c.args.table.now c.child_of-2.new.table c.make.new.self (extends-trans c.args.table.now c.child_of.new.table c.child_of-2.new.table c.child_of.ensures.grows c.child_of-2.ensures.grows) c.make.ensures.grows) c.make-2.ensures.grows)

pub make-requires-3 : goal.make-requires-3
make-requires-3 c = fits-EqObject c.make-2.new.self.pools (nodes c.make-2.new.self) c.in_ok-first.first c.in_ok-null.null (child (the_field (slice_get (nodes c.args.table.now) c.args.field)) (t.bound 1)) t.null (c.make-2.ensures.grows.nodes.keeps c.in_ok-first.first (of_object (child (the_field (slice_get (nodes c.args.table.now) c.args.field)) (t.bound 1))) (c.make.ensures.grows.nodes.keeps c.in_ok-first.first (of_object (child (the_field (slice_get (nodes c.args.table.now) c.args.field)) (t.bound 1))) (c.child_of-2.ensures.grows.nodes.keeps c.in_ok-first.first (of_object (child (the_field (slice_get (nodes c.args.table.now) c.args.field)) (t.bound 1))) (c.in_ok-first.ensures.node (the_field (slice_get (nodes c.args.table.now) c.args.field)) c.requires.field)))) (c.in_ok-null.ensures.node ∙ ap (λ z. Some z) (tree-Null c.make.new.self.pools (nodes c.make.new.self)))

pub returns-in_err-none-clause-grows : goal.returns-in_err-none-clause-grows
returns-in_err-none-clause-grows c = (extends-trans c.args.table.now c.make-2.new.self c.make-3.new.self (extends-trans c.args.table.now c.make.new.self c.make-2.new.self (extends-trans c.args.table.now c.child_of-2.new.table c.make.new.self (extends-trans c.args.table.now c.child_of.new.table c.child_of-2.new.table c.child_of.ensures.grows c.child_of-2.ensures.grows) c.make.ensures.grows) c.make-2.ensures.grows) c.make-3.ensures.grows)

pub make-requires-4 : goal.make-requires-4
make-requires-4 c = fits-Implies c.make-3.new.self.pools (nodes c.make-3.new.self) c.in_ok-same.same c.in_ok-none.none (t.eq_object (child (the_field (slice_get (nodes c.args.table.now) c.args.field)) (t.bound 1)) (child (the_field (slice_get (nodes c.args.table.now) c.args.other)) (t.bound 0))) (t.eq_object (child (the_field (slice_get (nodes c.args.table.now) c.args.field)) (t.bound 1)) t.null) (c.make-3.ensures.grows.nodes.keeps c.in_ok-same.same (of_truth (t.eq_object (child (the_field (slice_get (nodes c.args.table.now) c.args.field)) (t.bound 1)) (child (the_field (slice_get (nodes c.args.table.now) c.args.other)) (t.bound 0)))) (c.make-2.ensures.grows.nodes.keeps c.in_ok-same.same (of_truth (t.eq_object (child (the_field (slice_get (nodes c.args.table.now) c.args.field)) (t.bound 1)) (child (the_field (slice_get (nodes c.args.table.now) c.args.other)) (t.bound 0)))) (c.in_ok-same.ensures.node ∙ ap (λ z. Some z) (tree-EqObject c.child_of-2.new.table.pools (nodes c.child_of-2.new.table) c.in_ok-first.first c.in_ok-second.second (child (the_field (slice_get (nodes c.args.table.now) c.args.field)) (t.bound 1)) (child (the_field (slice_get (nodes c.args.table.now) c.args.other)) (t.bound 0)) (c.child_of-2.ensures.grows.nodes.keeps c.in_ok-first.first (of_object (child (the_field (slice_get (nodes c.args.table.now) c.args.field)) (t.bound 1))) (c.in_ok-first.ensures.node (the_field (slice_get (nodes c.args.table.now) c.args.field)) c.requires.field)) (c.in_ok-second.ensures.node (the_field (slice_get (nodes c.args.table.now) c.args.other)) (c.child_of.ensures.grows.nodes.keeps c.args.other (of_field (the_field (slice_get (nodes c.args.table.now) c.args.other))) c.requires.other)))))) (c.in_ok-none.ensures.node ∙ ap (λ z. Some z) (tree-EqObject c.make-2.new.self.pools (nodes c.make-2.new.self) c.in_ok-first.first c.in_ok-null.null (child (the_field (slice_get (nodes c.args.table.now) c.args.field)) (t.bound 1)) t.null (c.make-2.ensures.grows.nodes.keeps c.in_ok-first.first (of_object (child (the_field (slice_get (nodes c.args.table.now) c.args.field)) (t.bound 1))) (c.make.ensures.grows.nodes.keeps c.in_ok-first.first (of_object (child (the_field (slice_get (nodes c.args.table.now) c.args.field)) (t.bound 1))) (c.child_of-2.ensures.grows.nodes.keeps c.in_ok-first.first (of_object (child (the_field (slice_get (nodes c.args.table.now) c.args.field)) (t.bound 1))) (c.in_ok-first.ensures.node (the_field (slice_get (nodes c.args.table.now) c.args.field)) c.requires.field)))) (c.in_ok-null.ensures.node ∙ ap (λ z. Some z) (tree-Null c.make.new.self.pools (nodes c.make.new.self)))))

pub returns-clause-node : goal.returns-clause-node
returns-clause-node c = λ f g h_field h_other. made-as (nodes c.make-4.new.self) c.make-4.result (tree_in c.make-3.new.self (s.Implies c.in_ok-same.same c.in_ok-none.none)) (of_truth (t.implies (t.eq_object (child f (t.bound 1)) (child g (t.bound 0))) (t.eq_object (child f (t.bound 1)) t.null))) (tree-Implies c.make-3.new.self.pools (nodes c.make-3.new.self) c.in_ok-same.same c.in_ok-none.none (t.eq_object (child f (t.bound 1)) (child g (t.bound 0))) (t.eq_object (child f (t.bound 1)) t.null) (c.make-3.ensures.grows.nodes.keeps c.in_ok-same.same (of_truth (t.eq_object (child f (t.bound 1)) (child g (t.bound 0)))) (c.make-2.ensures.grows.nodes.keeps c.in_ok-same.same (of_truth (t.eq_object (child f (t.bound 1)) (child g (t.bound 0)))) (c.in_ok-same.ensures.node ∙ ap (λ z. Some z) (tree-EqObject c.child_of-2.new.table.pools (nodes c.child_of-2.new.table) c.in_ok-first.first c.in_ok-second.second (child f (t.bound 1)) (child g (t.bound 0)) (c.child_of-2.ensures.grows.nodes.keeps c.in_ok-first.first (of_object (child f (t.bound 1))) (c.in_ok-first.ensures.node f h_field)) (c.in_ok-second.ensures.node g (c.child_of.ensures.grows.nodes.keeps c.args.other (of_field g) h_other)))))) (c.in_ok-none.ensures.node ∙ ap (λ z. Some z) (tree-EqObject c.make-2.new.self.pools (nodes c.make-2.new.self) c.in_ok-first.first c.in_ok-null.null (child f (t.bound 1)) t.null (c.make-2.ensures.grows.nodes.keeps c.in_ok-first.first (of_object (child f (t.bound 1))) (c.make.ensures.grows.nodes.keeps c.in_ok-first.first (of_object (child f (t.bound 1))) (c.child_of-2.ensures.grows.nodes.keeps c.in_ok-first.first (of_object (child f (t.bound 1))) (c.in_ok-first.ensures.node f h_field)))) (c.in_ok-null.ensures.node ∙ ap (λ z. Some z) (tree-Null c.make.new.self.pools (nodes c.make.new.self)))))) c.make-4.ensures.node

pub returns-clause-grows : goal.returns-clause-grows
returns-clause-grows c = (extends-trans c.args.table.now c.make-3.new.self c.make-4.new.self (extends-trans c.args.table.now c.make-2.new.self c.make-3.new.self (extends-trans c.args.table.now c.make.new.self c.make-2.new.self (extends-trans c.args.table.now c.child_of-2.new.table c.make.new.self (extends-trans c.args.table.now c.child_of.new.table c.child_of-2.new.table c.child_of.ensures.grows c.child_of-2.ensures.grows) c.make.ensures.grows) c.make-2.ensures.grows) c.make-3.ensures.grows) c.make-4.ensures.grows)
