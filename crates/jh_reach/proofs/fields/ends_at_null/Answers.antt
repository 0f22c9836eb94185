-- Written by tools/reach.py.
use Rattle.std.proofs.Common.{ap, ◌∙◌, Some, slice_get}
use Rattle.jh_form.specs.Tree.{of_object, of_field, of_truth}
use Rattle.jh_form.specs.Tree as t
use Rattle.jh_arena.specs.table.Entries.{the_field}
use Rattle.jh_arena.specs.table.Nodes.{nodes, tree_in}
use Rattle.jh_arena.specs.declared.table.shapes.Shape.TheVariants as s
use Rattle.jh_arena.proofs.table.NodeSteps.{fits-Null, tree-Null, fits-ReadObject, tree-ReadObject, fits-EqObject, tree-EqObject}
use Rattle.jh_arena.proofs.table.Listed.{extends-trans}
use Rattle.jh_import.proofs.entering.Fields.{made-as}
use Rattle.jh_path_formulas.specs.Ways.{child}
use Rattle.jh_reach.proofs.fields.ends_at_null.Goals as goal

pub make-requires : goal.make-requires
make-requires c = fits-Null c.args.table.now.pools (nodes c.args.table.now)

pub returns-in_err-null-clause-grows : goal.returns-in_err-null-clause-grows
returns-in_err-null-clause-grows c = c.make.ensures.grows

pub make-requires-2 : goal.make-requires-2
make-requires-2 c = fits-ReadObject c.make.new.self.pools (nodes c.make.new.self) c.args.field c.in_ok-null.null (the_field (slice_get (nodes c.args.table.now) c.args.field)) t.null (c.make.ensures.grows.nodes.keeps c.args.field (of_field (the_field (slice_get (nodes c.args.table.now) c.args.field))) c.requires.field) (c.in_ok-null.ensures.node ∙ ap (λ z. Some z) (tree-Null c.args.table.now.pools (nodes c.args.table.now)))

pub returns-in_err-child-clause-grows : goal.returns-in_err-child-clause-grows
returns-in_err-child-clause-grows c = (extends-trans c.args.table.now c.make.new.self c.make-2.new.self c.make.ensures.grows c.make-2.ensures.grows)

pub make-requires-3 : goal.make-requires-3
make-requires-3 c = fits-EqObject c.make-2.new.self.pools (nodes c.make-2.new.self) c.in_ok-child.child c.in_ok-null.null (t.read_object (the_field (slice_get (nodes c.args.table.now) c.args.field)) t.null) t.null (c.in_ok-child.ensures.node ∙ ap (λ z. Some z) (tree-ReadObject c.make.new.self.pools (nodes c.make.new.self) c.args.field c.in_ok-null.null (the_field (slice_get (nodes c.args.table.now) c.args.field)) t.null (c.make.ensures.grows.nodes.keeps c.args.field (of_field (the_field (slice_get (nodes c.args.table.now) c.args.field))) c.requires.field) (c.in_ok-null.ensures.node ∙ ap (λ z. Some z) (tree-Null c.args.table.now.pools (nodes c.args.table.now))))) (c.make-2.ensures.grows.nodes.keeps c.in_ok-null.null (of_object t.null) (c.in_ok-null.ensures.node ∙ ap (λ z. Some z) (tree-Null c.args.table.now.pools (nodes c.args.table.now))))

pub returns-clause-node : goal.returns-clause-node
returns-clause-node c = λ f h_field. made-as (nodes c.make-3.new.self) c.make-3.result (tree_in c.make-2.new.self (s.EqObject c.in_ok-child.child c.in_ok-null.null)) (of_truth (t.eq_object (t.read_object f t.null) t.null)) (tree-EqObject c.make-2.new.self.pools (nodes c.make-2.new.self) c.in_ok-child.child c.in_ok-null.null (t.read_object f t.null) t.null (c.in_ok-child.ensures.node ∙ ap (λ z. Some z) (tree-ReadObject c.make.new.self.pools (nodes c.make.new.self) c.args.field c.in_ok-null.null f t.null (c.make.ensures.grows.nodes.keeps c.args.field (of_field f) h_field) (c.in_ok-null.ensures.node ∙ ap (λ z. Some z) (tree-Null c.args.table.now.pools (nodes c.args.table.now))))) (c.make-2.ensures.grows.nodes.keeps c.in_ok-null.null (of_object t.null) (c.in_ok-null.ensures.node ∙ ap (λ z. Some z) (tree-Null c.args.table.now.pools (nodes c.args.table.now))))) c.make-3.ensures.node

pub returns-clause-grows : goal.returns-clause-grows
returns-clause-grows c = (extends-trans c.args.table.now c.make-2.new.self c.make-3.new.self (extends-trans c.args.table.now c.make.new.self c.make-2.new.self c.make.ensures.grows c.make-2.ensures.grows) c.make-3.ensures.grows)
