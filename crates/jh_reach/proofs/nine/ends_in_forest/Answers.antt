-- Written by tools/reach.py.
use Rattle.std.proofs.Common.{slice_get, map}
use Rattle.jh_arena.specs.table.Nodes.{nodes}
use Rattle.jh_arena.proofs.table.Listed.{extends-trans}
use Rattle.jh_path_formulas.proofs.NodeSteps.{list-there, list-grows, holds-formula}
use Rattle.jh_reach.specs.declared.parts.Part.TheVariants as p
use Rattle.jh_arena.specs.makers.Joined.{joined}
use Rattle.jh_path_formulas.specs.Ways.{listed}
use Rattle.jh_reach.specs.Parts.{part_tree}
use Rattle.jh_reach.specs.Standing.{fields_in}
use Rattle.jh_reach.proofs.Standings.{along-list, along-fields}
use Rattle.jh_reach.proofs.nine.ends_in_forest.Goals as goal

pub each-requires : goal.each-requires
unfolding part_tree
each-requires c = record { along = c.requires.along }

pub returns-in_err-null-clause-grows : goal.returns-in_err-null-clause-grows
unfolding part_tree
returns-in_err-null-clause-grows c = c.each.ensures.grows

pub in_forest-requires : goal.in_forest-requires
unfolding part_tree
in_forest-requires c = record { list = list-there c.each.new.table c.args.list (listed (fields_in (nodes c.args.table.now) c.args.fields.now)) (list-grows c.args.table.now c.each.new.table c.args.list (listed (fields_in (nodes c.args.table.now) c.args.fields.now)) c.each.ensures.grows (along-list c.args.table.now c.args.list c.args.fields.now (fields_in (nodes c.args.table.now) c.args.fields.now) c.requires.along (along-fields c.args.table.now c.args.list c.args.fields.now c.requires.along))); beside = holds-formula (slice_get (nodes c.each.new.table) c.in_ok-null.null) (joined (map (part_tree p.EndsAtNull (fields_in (nodes c.args.table.now) c.args.fields.now)) (fields_in (nodes c.args.table.now) c.args.fields.now))) (c.in_ok-null.ensures.node (fields_in (nodes c.args.table.now) c.args.fields.now) (along-fields c.args.table.now c.args.list c.args.fields.now c.requires.along)) }

pub returns-clause-node : goal.returns-clause-node
unfolding part_tree
returns-clause-node c = λ fs h_list. c.in_forest.ensures.node fs (joined (map (part_tree p.EndsAtNull fs) fs)) (list-grows c.args.table.now c.each.new.table c.args.list (listed fs) c.each.ensures.grows (along-list c.args.table.now c.args.list c.args.fields.now fs c.requires.along h_list)) (c.in_ok-null.ensures.node fs h_list)

pub returns-clause-grows : goal.returns-clause-grows
unfolding part_tree
returns-clause-grows c = (extends-trans c.args.table.now c.each.new.table c.in_forest.new.table c.each.ensures.grows c.in_forest.ensures.grows)
