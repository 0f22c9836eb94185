-- Written by tools/reach.py.
use Rattle.std.proofs.Common.{ap, ◌∙◌, Some, slice_get}
use Rattle.jh_form.specs.Tree.{of_truth}
use Rattle.jh_form.specs.Tree as t
use Rattle.jh_arena.specs.table.Entries.{the_truth}
use Rattle.jh_arena.specs.table.Nodes.{nodes, tree_in}
use Rattle.jh_arena.specs.declared.table.shapes.Shape.TheVariants as s
use Rattle.jh_arena.proofs.table.NodeSteps.{fits-All, tree-All}
use Rattle.jh_arena.proofs.table.Listed.{extends-trans}
use Rattle.jh_import.proofs.entering.Fields.{made-as}
use Rattle.jh_reach.proofs.terms.for_two.Goals as goal

pub make-requires : goal.make-requires
make-requires c = fits-All c.args.table.now.pools (nodes c.args.table.now) c.args.body (the_truth (slice_get (nodes c.args.table.now) c.args.body)) c.requires.body

pub returns-in_err-inner-clause-grows : goal.returns-in_err-inner-clause-grows
returns-in_err-inner-clause-grows c = c.make.ensures.grows

pub make-requires-2 : goal.make-requires-2
make-requires-2 c = fits-All c.make.new.self.pools (nodes c.make.new.self) c.in_ok-inner.inner (t.all (the_truth (slice_get (nodes c.args.table.now) c.args.body))) (c.in_ok-inner.ensures.node ∙ ap (λ z. Some z) (tree-All c.args.table.now.pools (nodes c.args.table.now) c.args.body (the_truth (slice_get (nodes c.args.table.now) c.args.body)) c.requires.body))

pub returns-clause-node : goal.returns-clause-node
returns-clause-node c = λ a h_body. made-as (nodes c.make-2.new.self) c.make-2.result (tree_in c.make.new.self (s.All c.in_ok-inner.inner)) (of_truth (t.all (t.all a))) (tree-All c.make.new.self.pools (nodes c.make.new.self) c.in_ok-inner.inner (t.all a) (c.in_ok-inner.ensures.node ∙ ap (λ z. Some z) (tree-All c.args.table.now.pools (nodes c.args.table.now) c.args.body a h_body))) c.make-2.ensures.node

pub returns-clause-grows : goal.returns-clause-grows
returns-clause-grows c = (extends-trans c.args.table.now c.make.new.self c.make-2.new.self c.make.ensures.grows c.make-2.ensures.grows)
