use Rattle.std.proofs.Common.{ap, ◌∙◌, Some, slice_get}
use Rattle.jh_form.specs.Tree.{of_object, of_field, of_truth}
use Rattle.jh_form.specs.Tree as t
use Rattle.jh_arena.specs.table.Entries.{the_object}
use Rattle.jh_arena.specs.table.Nodes.{nodes, tree_in}
use Rattle.jh_arena.specs.declared.table.shapes.Shape.TheVariants as s
use Rattle.jh_arena.proofs.table.NodeSteps.{fits-Null, tree-Null, fits-EqObject, tree-EqObject, fits-Negation, tree-Negation}
use Rattle.jh_arena.proofs.table.Listed.{extends-trans}
use Rattle.jh_import.proofs.entering.Fields.{made-as}
use Rattle.jh_splitting.proofs.edges.not_null.Goals as goal

pub make-requires : goal.make-requires
make-requires c = fits-Null c.args.table.now.pools (nodes c.args.table.now)

pub returns-in_err-null-clause-grows : goal.returns-in_err-null-clause-grows
returns-in_err-null-clause-grows c = c.make.ensures.grows

pub make-requires-2 : goal.make-requires-2
make-requires-2 c = fits-EqObject c.make.new.self.pools (nodes c.make.new.self) c.args.object c.in_ok-null.null (the_object (slice_get (nodes c.args.table.now) c.args.object)) t.null (c.make.ensures.grows.nodes.keeps c.args.object (of_object (the_object (slice_get (nodes c.args.table.now) c.args.object))) c.requires.object) (c.in_ok-null.ensures.node ∙ ap (λ z. Some z) (tree-Null c.args.table.now.pools (nodes c.args.table.now)))

pub returns-in_err-same-clause-grows : goal.returns-in_err-same-clause-grows
returns-in_err-same-clause-grows c = (extends-trans c.args.table.now c.make.new.self c.make-2.new.self c.make.ensures.grows c.make-2.ensures.grows)

pub make-requires-3 : goal.make-requires-3
make-requires-3 c = fits-Negation c.make-2.new.self.pools (nodes c.make-2.new.self) c.in_ok-same.same (t.eq_object (the_object (slice_get (nodes c.args.table.now) c.args.object)) t.null) (c.in_ok-same.ensures.node ∙ ap (λ z. Some z) (tree-EqObject c.make.new.self.pools (nodes c.make.new.self) c.args.object c.in_ok-null.null (the_object (slice_get (nodes c.args.table.now) c.args.object)) t.null (c.make.ensures.grows.nodes.keeps c.args.object (of_object (the_object (slice_get (nodes c.args.table.now) c.args.object))) c.requires.object) (c.in_ok-null.ensures.node ∙ ap (λ z. Some z) (tree-Null c.args.table.now.pools (nodes c.args.table.now)))))

pub returns-clause-node : goal.returns-clause-node
returns-clause-node c = λ a h_object. made-as (nodes c.make-3.new.self) c.make-3.result (tree_in c.make-2.new.self (s.Negation c.in_ok-same.same)) (of_truth (t.negation (t.eq_object a t.null))) (tree-Negation c.make-2.new.self.pools (nodes c.make-2.new.self) c.in_ok-same.same (t.eq_object a t.null) (c.in_ok-same.ensures.node ∙ ap (λ z. Some z) (tree-EqObject c.make.new.self.pools (nodes c.make.new.self) c.args.object c.in_ok-null.null a t.null (c.make.ensures.grows.nodes.keeps c.args.object (of_object a) h_object) (c.in_ok-null.ensures.node ∙ ap (λ z. Some z) (tree-Null c.args.table.now.pools (nodes c.args.table.now)))))) c.make-3.ensures.node

pub returns-clause-grows : goal.returns-clause-grows
returns-clause-grows c = (extends-trans c.args.table.now c.make-2.new.self c.make-3.new.self (extends-trans c.args.table.now c.make.new.self c.make-2.new.self c.make.ensures.grows c.make-2.ensures.grows) c.make-3.ensures.grows)
