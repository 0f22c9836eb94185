-- Written by tools/reach.py.
use Rattle.std.proofs.Common.{ap, ◌∙◌, Some, slice_get}
use Rattle.jh_form.specs.Tree as t
use Rattle.jh_arena.specs.table.Entries.{the_truth}
use Rattle.jh_arena.specs.table.Nodes.{nodes}
use Rattle.jh_arena.proofs.table.NodeSteps.{fits-Implies, tree-Implies}
use Rattle.jh_arena.proofs.table.Listed.{extends-trans}
use Rattle.jh_path_formulas.proofs.NodeSteps.{holds-formula}
use Rattle.jh_reach.proofs.terms.follows_for_two.Goals as goal

pub make-requires : goal.make-requires
make-requires c = fits-Implies c.args.table.now.pools (nodes c.args.table.now) c.args.premise c.args.end (the_truth (slice_get (nodes c.args.table.now) c.args.premise)) (the_truth (slice_get (nodes c.args.table.now) c.args.end)) c.requires.premise c.requires.end

pub returns-in_err-body-clause-grows : goal.returns-in_err-body-clause-grows
returns-in_err-body-clause-grows c = c.make.ensures.grows

pub for_two-requires : goal.for_two-requires
for_two-requires c = record { body = holds-formula (slice_get (nodes c.make.new.self) c.in_ok-body.body) (t.implies (the_truth (slice_get (nodes c.args.table.now) c.args.premise)) (the_truth (slice_get (nodes c.args.table.now) c.args.end))) (c.in_ok-body.ensures.node ∙ ap (λ z. Some z) (tree-Implies c.args.table.now.pools (nodes c.args.table.now) c.args.premise c.args.end (the_truth (slice_get (nodes c.args.table.now) c.args.premise)) (the_truth (slice_get (nodes c.args.table.now) c.args.end)) c.requires.premise c.requires.end)) }

pub returns-clause-node : goal.returns-clause-node
returns-clause-node c = λ a b h_premise h_end. c.for_two.ensures.node (t.implies a b) (c.in_ok-body.ensures.node ∙ ap (λ z. Some z) (tree-Implies c.args.table.now.pools (nodes c.args.table.now) c.args.premise c.args.end a b h_premise h_end))

pub returns-clause-grows : goal.returns-clause-grows
returns-clause-grows c = (extends-trans c.args.table.now c.make.new.self c.for_two.new.table c.make.ensures.grows c.for_two.ensures.grows)
