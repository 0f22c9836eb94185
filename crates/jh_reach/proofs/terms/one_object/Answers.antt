-- Written by tools/reach.py.
use Rattle.std.proofs.Common.{ap, ◌∙◌, Some}
use Rattle.jh_form.specs.Tree.{of_object, of_truth}
use Rattle.jh_form.specs.Tree as t
use Rattle.jh_arena.specs.table.Nodes.{nodes, tree_in}
use Rattle.jh_arena.specs.declared.table.shapes.Shape.TheVariants as s
use Rattle.jh_arena.proofs.table.NodeSteps.{fits-Bound, tree-Bound, fits-EqObject, tree-EqObject}
use Rattle.jh_arena.proofs.table.Listed.{extends-trans}
use Rattle.jh_import.proofs.entering.Fields.{made-as}
use Rattle.jh_reach.proofs.terms.one_object.Goals as goal

pub make-requires : goal.make-requires
make-requires c = fits-Bound c.args.table.now.pools (nodes c.args.table.now) c.args.left

pub returns-in_err-first-clause-grows : goal.returns-in_err-first-clause-grows
returns-in_err-first-clause-grows c = c.make.ensures.grows

pub make-requires-2 : goal.make-requires-2
make-requires-2 c = fits-Bound c.make.new.self.pools (nodes c.make.new.self) c.args.right

pub returns-in_err-second-clause-grows : goal.returns-in_err-second-clause-grows
returns-in_err-second-clause-grows c = (extends-trans c.args.table.now c.make.new.self c.make-2.new.self c.make.ensures.grows c.make-2.ensures.grows)

pub make-requires-3 : goal.make-requires-3
make-requires-3 c = fits-EqObject c.make-2.new.self.pools (nodes c.make-2.new.self) c.in_ok-first.first c.in_ok-second.second (t.bound c.args.left) (t.bound c.args.right) (c.make-2.ensures.grows.nodes.keeps c.in_ok-first.first (of_object (t.bound c.args.left)) (c.in_ok-first.ensures.node ∙ ap (λ z. Some z) (tree-Bound c.args.table.now.pools (nodes c.args.table.now) c.args.left))) (c.in_ok-second.ensures.node ∙ ap (λ z. Some z) (tree-Bound c.make.new.self.pools (nodes c.make.new.self) c.args.right))

pub returns-clause-node : goal.returns-clause-node
returns-clause-node c = made-as (nodes c.make-3.new.self) c.make-3.result (tree_in c.make-2.new.self (s.EqObject c.in_ok-first.first c.in_ok-second.second)) (of_truth (t.eq_object (t.bound c.args.left) (t.bound c.args.right))) (tree-EqObject c.make-2.new.self.pools (nodes c.make-2.new.self) c.in_ok-first.first c.in_ok-second.second (t.bound c.args.left) (t.bound c.args.right) (c.make-2.ensures.grows.nodes.keeps c.in_ok-first.first (of_object (t.bound c.args.left)) (c.in_ok-first.ensures.node ∙ ap (λ z. Some z) (tree-Bound c.args.table.now.pools (nodes c.args.table.now) c.args.left))) (c.in_ok-second.ensures.node ∙ ap (λ z. Some z) (tree-Bound c.make.new.self.pools (nodes c.make.new.self) c.args.right))) c.make-3.ensures.node

pub returns-clause-grows : goal.returns-clause-grows
returns-clause-grows c = (extends-trans c.args.table.now c.make-2.new.self c.make-3.new.self (extends-trans c.args.table.now c.make.new.self c.make-2.new.self c.make.ensures.grows c.make-2.ensures.grows) c.make-3.ensures.grows)
