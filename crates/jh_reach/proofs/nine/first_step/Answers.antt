-- Written by tools/reach.py.
use Rattle.std.proofs.Common.{slice_get, map}
use Rattle.jh_form.specs.Tree.{of_truth}
use Rattle.jh_form.specs.Tree as t
use Rattle.jh_arena.specs.table.Nodes.{nodes}
use Rattle.jh_arena.proofs.table.Listed.{extends-trans}
use Rattle.jh_path_formulas.proofs.NodeSteps.{list-there, holds-formula}
use Rattle.jh_path_formulas.specs.Ways.{listed, way}
use Rattle.jh_reach.specs.Axioms.{disjoined, child_reaches}
use Rattle.jh_reach.specs.Standing.{fields_in}
use Rattle.jh_reach.proofs.Standings.{fields-grow, along-list, along-fields, along-grows}
use Rattle.jh_reach.proofs.nine.first_step.Goals as goal

pub way-requires : goal.way-requires
way-requires c = record { list = list-there c.args.table.now c.args.list (listed (fields_in (nodes c.args.table.now) c.args.fields.now)) (along-list c.args.table.now c.args.list c.args.fields.now (fields_in (nodes c.args.table.now) c.args.fields.now) c.requires.along (along-fields c.args.table.now c.args.list c.args.fields.now c.requires.along)) }

pub returns-in_err-premise-clause-grows : goal.returns-in_err-premise-clause-grows
returns-in_err-premise-clause-grows c = c.way.ensures.grows

pub begins-requires : goal.begins-requires
begins-requires c = record { along = (along-grows c.args.table.now c.way.new.table c.args.list c.args.fields.now c.way.ensures.grows c.requires.along) }

pub returns-in_err-end-clause-grows : goal.returns-in_err-end-clause-grows
returns-in_err-end-clause-grows c = (extends-trans c.args.table.now c.way.new.table c.begins.new.table c.way.ensures.grows c.begins.ensures.grows)

pub follows_for_two-requires : goal.follows_for_two-requires
follows_for_two-requires c = record { premise = holds-formula (slice_get (nodes c.begins.new.table) c.in_ok-premise.premise) (way (fields_in (nodes c.args.table.now) c.args.fields.now) (t.bound 1) (t.bound 0)) (c.begins.ensures.grows.nodes.keeps c.in_ok-premise.premise (of_truth (way (fields_in (nodes c.args.table.now) c.args.fields.now) (t.bound 1) (t.bound 0))) (c.in_ok-premise.ensures.node (fields_in (nodes c.args.table.now) c.args.fields.now) (along-list c.args.table.now c.args.list c.args.fields.now (fields_in (nodes c.args.table.now) c.args.fields.now) c.requires.along (along-fields c.args.table.now c.args.list c.args.fields.now c.requires.along)))); end = holds-formula (slice_get (nodes c.begins.new.table) c.in_ok-end.end) (t.or (t.eq_object (t.bound 1) (t.bound 0)) (disjoined (map (child_reaches (fields_in (nodes c.args.table.now) c.args.fields.now)) (fields_in (nodes c.args.table.now) c.args.fields.now)))) (c.in_ok-end.ensures.node (fields_in (nodes c.args.table.now) c.args.fields.now) (fields-grow c.args.table.now c.way.new.table c.args.fields.now (fields_in (nodes c.args.table.now) c.args.fields.now) c.way.ensures.grows (along-fields c.args.table.now c.args.list c.args.fields.now c.requires.along))) }

pub returns-clause-node : goal.returns-clause-node
returns-clause-node c = λ fs h_list. c.follows_for_two.ensures.node (way fs (t.bound 1) (t.bound 0)) (t.or (t.eq_object (t.bound 1) (t.bound 0)) (disjoined (map (child_reaches fs) fs))) (c.begins.ensures.grows.nodes.keeps c.in_ok-premise.premise (of_truth (way fs (t.bound 1) (t.bound 0))) (c.in_ok-premise.ensures.node fs (along-list c.args.table.now c.args.list c.args.fields.now fs c.requires.along h_list))) (c.in_ok-end.ensures.node fs (fields-grow c.args.table.now c.way.new.table c.args.fields.now fs c.way.ensures.grows h_list))

pub returns-clause-grows : goal.returns-clause-grows
returns-clause-grows c = (extends-trans c.args.table.now c.begins.new.table c.follows_for_two.new.table (extends-trans c.args.table.now c.way.new.table c.begins.new.table c.way.ensures.grows c.begins.ensures.grows) c.follows_for_two.ensures.grows)
