-- Written by tools/reach.py.
use Rattle.std.proofs.Common.{map}
use Rattle.jh_form.specs.Tree.{of_truth}
use Rattle.jh_form.specs.Tree as t
use Rattle.jh_arena.specs.table.Nodes.{nodes, tree_in}
use Rattle.jh_arena.specs.declared.table.shapes.Shape.TheVariants as s
use Rattle.jh_arena.proofs.table.NodeSteps.{fits-Implies, tree-Implies}
use Rattle.jh_arena.proofs.table.Listed.{extends-trans}
use Rattle.jh_import.proofs.entering.Fields.{made-as}
use Rattle.jh_path_formulas.proofs.NodeSteps.{list-there, list-grows}
use Rattle.jh_reach.specs.declared.parts.Part.TheVariants as p
use Rattle.jh_arena.specs.makers.Joined.{joined}
use Rattle.jh_path_formulas.specs.Ways.{listed, way}
use Rattle.jh_reach.specs.Parts.{part_tree}
use Rattle.jh_reach.specs.Standing.{fields_in}
use Rattle.jh_reach.proofs.Standings.{along-list, along-fields}
use Rattle.jh_reach.proofs.nine.null_reaches_null.Goals as goal

pub each-requires : goal.each-requires
unfolding part_tree
each-requires c = record { along = c.requires.along }

pub returns-in_err-premise-clause-grows : goal.returns-in_err-premise-clause-grows
unfolding part_tree
returns-in_err-premise-clause-grows c = c.each.ensures.grows

pub only_null-requires : goal.only_null-requires
unfolding part_tree
only_null-requires c = record { list = list-there c.each.new.table c.args.list (listed (fields_in (nodes c.args.table.now) c.args.fields.now)) (list-grows c.args.table.now c.each.new.table c.args.list (listed (fields_in (nodes c.args.table.now) c.args.fields.now)) c.each.ensures.grows (along-list c.args.table.now c.args.list c.args.fields.now (fields_in (nodes c.args.table.now) c.args.fields.now) c.requires.along (along-fields c.args.table.now c.args.list c.args.fields.now c.requires.along))) }

pub returns-in_err-end-clause-grows : goal.returns-in_err-end-clause-grows
unfolding part_tree
returns-in_err-end-clause-grows c = (extends-trans c.args.table.now c.each.new.table c.only_null.new.table c.each.ensures.grows c.only_null.ensures.grows)

pub make-requires : goal.make-requires
unfolding part_tree
make-requires c = fits-Implies c.only_null.new.table.pools (nodes c.only_null.new.table) c.in_ok-premise.premise c.in_ok-end.end (joined (map (part_tree p.EndsAtNull (fields_in (nodes c.args.table.now) c.args.fields.now)) (fields_in (nodes c.args.table.now) c.args.fields.now))) (t.all (t.implies (way (fields_in (nodes c.args.table.now) c.args.fields.now) t.null (t.bound 0)) (t.eq_object (t.bound 0) t.null))) (c.only_null.ensures.grows.nodes.keeps c.in_ok-premise.premise (of_truth (joined (map (part_tree p.EndsAtNull (fields_in (nodes c.args.table.now) c.args.fields.now)) (fields_in (nodes c.args.table.now) c.args.fields.now)))) (c.in_ok-premise.ensures.node (fields_in (nodes c.args.table.now) c.args.fields.now) (along-fields c.args.table.now c.args.list c.args.fields.now c.requires.along))) (c.in_ok-end.ensures.node (fields_in (nodes c.args.table.now) c.args.fields.now) (list-grows c.args.table.now c.each.new.table c.args.list (listed (fields_in (nodes c.args.table.now) c.args.fields.now)) c.each.ensures.grows (along-list c.args.table.now c.args.list c.args.fields.now (fields_in (nodes c.args.table.now) c.args.fields.now) c.requires.along (along-fields c.args.table.now c.args.list c.args.fields.now c.requires.along))))

pub returns-clause-node : goal.returns-clause-node
unfolding part_tree
returns-clause-node c = λ fs h_list. made-as (nodes c.make.new.self) c.make.result (tree_in c.only_null.new.table (s.Implies c.in_ok-premise.premise c.in_ok-end.end)) (of_truth (t.implies (joined (map (part_tree p.EndsAtNull fs) fs)) (t.all (t.implies (way fs t.null (t.bound 0)) (t.eq_object (t.bound 0) t.null))))) (tree-Implies c.only_null.new.table.pools (nodes c.only_null.new.table) c.in_ok-premise.premise c.in_ok-end.end (joined (map (part_tree p.EndsAtNull fs) fs)) (t.all (t.implies (way fs t.null (t.bound 0)) (t.eq_object (t.bound 0) t.null))) (c.only_null.ensures.grows.nodes.keeps c.in_ok-premise.premise (of_truth (joined (map (part_tree p.EndsAtNull fs) fs))) (c.in_ok-premise.ensures.node fs h_list)) (c.in_ok-end.ensures.node fs (list-grows c.args.table.now c.each.new.table c.args.list (listed fs) c.each.ensures.grows (along-list c.args.table.now c.args.list c.args.fields.now fs c.requires.along h_list)))) c.make.ensures.node

pub returns-clause-grows : goal.returns-clause-grows
unfolding part_tree
returns-clause-grows c = (extends-trans c.args.table.now c.only_null.new.table c.make.new.self (extends-trans c.args.table.now c.each.new.table c.only_null.new.table c.each.ensures.grows c.only_null.ensures.grows) c.make.ensures.grows)
