use Rattle.std.proofs.Common.{ap, ◌∙◌, Some, slice_get}
use Rattle.jh_form.specs.Tree.{of_object, of_field, of_truth}
use Rattle.jh_form.specs.Tree as t
use Rattle.jh_arena.specs.table.Entries.{the_truth}
use Rattle.jh_arena.specs.table.Nodes.{nodes, tree_in}
use Rattle.jh_arena.specs.declared.table.shapes.Shape.TheVariants as s
use Rattle.jh_arena.proofs.table.NodeSteps.{fits-Implies, tree-Implies, fits-All, tree-All}
use Rattle.jh_arena.proofs.table.Listed.{extends-trans}
use Rattle.jh_import.proofs.entering.Fields.{made-as}
use Rattle.jh_splitting.proofs.edges.follows_for_two.Goals as goal

pub make-requires : goal.make-requires
make-requires c = fits-Implies c.args.table.now.pools (nodes c.args.table.now) c.args.premise c.args.end (the_truth (slice_get (nodes c.args.table.now) c.args.premise)) (the_truth (slice_get (nodes c.args.table.now) c.args.end)) c.requires.premise c.requires.end

pub returns-in_err-body-clause-grows : goal.returns-in_err-body-clause-grows
returns-in_err-body-clause-grows c = c.make.ensures.grows

pub make-requires-2 : goal.make-requires-2
make-requires-2 c = fits-All c.make.new.self.pools (nodes c.make.new.self) c.in_ok-body.body (t.implies (the_truth (slice_get (nodes c.args.table.now) c.args.premise)) (the_truth (slice_get (nodes c.args.table.now) c.args.end))) (c.in_ok-body.ensures.node ∙ ap (λ z. Some z) (tree-Implies c.args.table.now.pools (nodes c.args.table.now) c.args.premise c.args.end (the_truth (slice_get (nodes c.args.table.now) c.args.premise)) (the_truth (slice_get (nodes c.args.table.now) c.args.end)) c.requires.premise c.requires.end))

pub returns-in_err-inner-clause-grows : goal.returns-in_err-inner-clause-grows
returns-in_err-inner-clause-grows c = (extends-trans c.args.table.now c.make.new.self c.make-2.new.self c.make.ensures.grows c.make-2.ensures.grows)

pub make-requires-3 : goal.make-requires-3
make-requires-3 c = fits-All c.make-2.new.self.pools (nodes c.make-2.new.self) c.in_ok-inner.inner (t.all (t.implies (the_truth (slice_get (nodes c.args.table.now) c.args.premise)) (the_truth (slice_get (nodes c.args.table.now) c.args.end)))) (c.in_ok-inner.ensures.node ∙ ap (λ z. Some z) (tree-All c.make.new.self.pools (nodes c.make.new.self) c.in_ok-body.body (t.implies (the_truth (slice_get (nodes c.args.table.now) c.args.premise)) (the_truth (slice_get (nodes c.args.table.now) c.args.end))) (c.in_ok-body.ensures.node ∙ ap (λ z. Some z) (tree-Implies c.args.table.now.pools (nodes c.args.table.now) c.args.premise c.args.end (the_truth (slice_get (nodes c.args.table.now) c.args.premise)) (the_truth (slice_get (nodes c.args.table.now) c.args.end)) c.requires.premise c.requires.end))))

pub returns-clause-node : goal.returns-clause-node
returns-clause-node c = λ a b h_premise h_end. made-as (nodes c.make-3.new.self) c.make-3.result (tree_in c.make-2.new.self (s.All c.in_ok-inner.inner)) (of_truth (t.all (t.all (t.implies a b)))) (tree-All c.make-2.new.self.pools (nodes c.make-2.new.self) c.in_ok-inner.inner (t.all (t.implies a b)) (c.in_ok-inner.ensures.node ∙ ap (λ z. Some z) (tree-All c.make.new.self.pools (nodes c.make.new.self) c.in_ok-body.body (t.implies a b) (c.in_ok-body.ensures.node ∙ ap (λ z. Some z) (tree-Implies c.args.table.now.pools (nodes c.args.table.now) c.args.premise c.args.end a b h_premise h_end))))) c.make-3.ensures.node

pub returns-clause-grows : goal.returns-clause-grows
returns-clause-grows c = (extends-trans c.args.table.now c.make-2.new.self c.make-3.new.self (extends-trans c.args.table.now c.make.new.self c.make-2.new.self c.make.ensures.grows c.make-2.ensures.grows) c.make-3.ensures.grows)
