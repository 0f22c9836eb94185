-- Written by tools/reach.py.
use Rattle.std.proofs.Common.{slice_get}
use Rattle.jh_form.specs.Tree.{of_truth}
use Rattle.jh_form.specs.Tree as t
use Rattle.jh_arena.specs.table.Entries.{the_truth}
use Rattle.jh_arena.specs.table.Nodes.{nodes, tree_in}
use Rattle.jh_arena.specs.declared.table.shapes.Shape.TheVariants as s
use Rattle.jh_arena.proofs.table.NodeSteps.{fits-All, tree-All}
use Rattle.jh_arena.proofs.table.Listed.{extends-trans}
use Rattle.jh_import.proofs.entering.Fields.{made-as}
use Rattle.jh_path_formulas.proofs.NodeSteps.{holds-formula}
use Rattle.jh_reach.proofs.terms.follows_for_three.Goals as goal

pub follows_for_two-requires : goal.follows_for_two-requires
follows_for_two-requires c = record { premise = holds-formula (slice_get (nodes c.args.table.now) c.args.premise) (the_truth (slice_get (nodes c.args.table.now) c.args.premise)) c.requires.premise; end = holds-formula (slice_get (nodes c.args.table.now) c.args.end) (the_truth (slice_get (nodes c.args.table.now) c.args.end)) c.requires.end }

pub returns-in_err-two-clause-grows : goal.returns-in_err-two-clause-grows
returns-in_err-two-clause-grows c = c.follows_for_two.ensures.grows

pub make-requires : goal.make-requires
make-requires c = fits-All c.follows_for_two.new.table.pools (nodes c.follows_for_two.new.table) c.in_ok-two.two (t.all (t.all (t.implies (the_truth (slice_get (nodes c.args.table.now) c.args.premise)) (the_truth (slice_get (nodes c.args.table.now) c.args.end))))) (c.in_ok-two.ensures.node (the_truth (slice_get (nodes c.args.table.now) c.args.premise)) (the_truth (slice_get (nodes c.args.table.now) c.args.end)) c.requires.premise c.requires.end)

pub returns-clause-node : goal.returns-clause-node
returns-clause-node c = λ a b h_premise h_end. made-as (nodes c.make.new.self) c.make.result (tree_in c.follows_for_two.new.table (s.All c.in_ok-two.two)) (of_truth (t.all (t.all (t.all (t.implies a b))))) (tree-All c.follows_for_two.new.table.pools (nodes c.follows_for_two.new.table) c.in_ok-two.two (t.all (t.all (t.implies a b))) (c.in_ok-two.ensures.node a b h_premise h_end)) c.make.ensures.node

pub returns-clause-grows : goal.returns-clause-grows
returns-clause-grows c = (extends-trans c.args.table.now c.follows_for_two.new.table c.make.new.self c.follows_for_two.ensures.grows c.make.ensures.grows)
