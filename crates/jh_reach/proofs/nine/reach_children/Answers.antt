-- Written by tools/reach.py.
use Rattle.std.proofs.Common.{map}
use Rattle.jh_form.specs.Tree.{of_truth}
use Rattle.jh_form.specs.Tree as t
use Rattle.jh_arena.specs.table.Nodes.{nodes, tree_in}
use Rattle.jh_arena.specs.declared.table.shapes.Shape.TheVariants as s
use Rattle.jh_arena.proofs.table.NodeSteps.{fits-All, tree-All}
use Rattle.jh_arena.proofs.table.Listed.{extends-trans}
use Rattle.jh_import.proofs.entering.Fields.{made-as}
use Rattle.jh_reach.specs.declared.parts.Part.TheVariants as p
use Rattle.jh_arena.specs.makers.Joined.{joined}
use Rattle.jh_reach.specs.Parts.{part_tree}
use Rattle.jh_reach.specs.Standing.{fields_in}
use Rattle.jh_reach.proofs.Standings.{along-fields}
use Rattle.jh_reach.proofs.nine.reach_children.Goals as goal

pub each-requires : goal.each-requires
unfolding part_tree
each-requires c = record { along = c.requires.along }

pub returns-in_err-body-clause-grows : goal.returns-in_err-body-clause-grows
unfolding part_tree
returns-in_err-body-clause-grows c = c.each.ensures.grows

pub make-requires : goal.make-requires
unfolding part_tree
make-requires c = fits-All c.each.new.table.pools (nodes c.each.new.table) c.in_ok-body.body (joined (map (part_tree p.ReachesChild (fields_in (nodes c.args.table.now) c.args.fields.now)) (fields_in (nodes c.args.table.now) c.args.fields.now))) (c.in_ok-body.ensures.node (fields_in (nodes c.args.table.now) c.args.fields.now) (along-fields c.args.table.now c.args.list c.args.fields.now c.requires.along))

pub returns-clause-node : goal.returns-clause-node
unfolding part_tree
returns-clause-node c = λ fs h_list. made-as (nodes c.make.new.self) c.make.result (tree_in c.each.new.table (s.All c.in_ok-body.body)) (of_truth (t.all (joined (map (part_tree p.ReachesChild fs) fs)))) (tree-All c.each.new.table.pools (nodes c.each.new.table) c.in_ok-body.body (joined (map (part_tree p.ReachesChild fs) fs)) (c.in_ok-body.ensures.node fs h_list)) c.make.ensures.node

pub returns-clause-grows : goal.returns-clause-grows
unfolding part_tree
returns-clause-grows c = (extends-trans c.args.table.now c.each.new.table c.make.new.self c.each.ensures.grows c.make.ensures.grows)
