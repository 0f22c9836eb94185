use Rattle.std.proofs.Common.{ap, ◌∙◌, Some, slice_get}
use Rattle.jh_form.specs.Tree.{of_object, of_field, of_truth}
use Rattle.jh_form.specs.Tree as t
use Rattle.jh_arena.specs.table.Entries.{the_field}
use Rattle.jh_arena.specs.table.Nodes.{nodes, tree_in}
use Rattle.jh_arena.specs.declared.table.shapes.Shape.TheVariants as s
use Rattle.jh_arena.proofs.table.NodeSteps.{fits-Bound, tree-Bound, fits-ReadObject, tree-ReadObject}
use Rattle.jh_arena.proofs.table.Listed.{extends-trans}
use Rattle.jh_import.proofs.entering.Fields.{made-as}
use Rattle.jh_splitting.proofs.edges.child_of.Goals as goal

pub make-requires : goal.make-requires
make-requires c = fits-Bound c.args.table.now.pools (nodes c.args.table.now) c.args.variable

pub returns-in_err-object-clause-grows : goal.returns-in_err-object-clause-grows
returns-in_err-object-clause-grows c = c.make.ensures.grows

pub make-requires-2 : goal.make-requires-2
make-requires-2 c = fits-ReadObject c.make.new.self.pools (nodes c.make.new.self) c.args.field c.in_ok-object.object (the_field (slice_get (nodes c.args.table.now) c.args.field)) (t.bound c.args.variable) (c.make.ensures.grows.nodes.keeps c.args.field (of_field (the_field (slice_get (nodes c.args.table.now) c.args.field))) c.requires.field) (c.in_ok-object.ensures.node ∙ ap (λ z. Some z) (tree-Bound c.args.table.now.pools (nodes c.args.table.now) c.args.variable))

pub returns-clause-node : goal.returns-clause-node
returns-clause-node c = λ f h_field. made-as (nodes c.make-2.new.self) c.make-2.result (tree_in c.make.new.self (s.ReadObject c.args.field c.in_ok-object.object)) (of_object (t.read_object f (t.bound c.args.variable))) (tree-ReadObject c.make.new.self.pools (nodes c.make.new.self) c.args.field c.in_ok-object.object f (t.bound c.args.variable) (c.make.ensures.grows.nodes.keeps c.args.field (of_field f) h_field) (c.in_ok-object.ensures.node ∙ ap (λ z. Some z) (tree-Bound c.args.table.now.pools (nodes c.args.table.now) c.args.variable))) c.make-2.ensures.node

pub returns-clause-grows : goal.returns-clause-grows
returns-clause-grows c = (extends-trans c.args.table.now c.make.new.self c.make-2.new.self c.make.ensures.grows c.make-2.ensures.grows)
