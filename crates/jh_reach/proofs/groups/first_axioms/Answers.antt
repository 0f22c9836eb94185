-- Written by tools/reach.py.
use Rattle.jh_form.specs.Tree.{of_truth}
use Rattle.jh_arena.specs.table.Nodes.{nodes}
use Rattle.jh_arena.proofs.table.Listed.{extends-trans}
use Rattle.jh_path_formulas.proofs.NodeSteps.{list-there, list-grows}
use Rattle.jh_path_formulas.specs.Ways.{listed}
use Rattle.jh_reach.specs.Axioms.{reach_itself, reach_children, first_step, last_step, ways_join}
use Rattle.jh_reach.specs.Standing.{AreFormulas, fields_in}
use Rattle.jh_reach.proofs.Standings.{fields-grow, along-list, along-fields, along-grows}
use Rattle.jh_reach.proofs.groups.first_axioms.Goals as goal

pub reach_itself-requires : goal.reach_itself-requires
reach_itself-requires c = record { list = list-there c.args.table.now c.args.list (listed (fields_in (nodes c.args.table.now) c.args.fields.now)) (along-list c.args.table.now c.args.list c.args.fields.now (fields_in (nodes c.args.table.now) c.args.fields.now) c.requires.along (along-fields c.args.table.now c.args.list c.args.fields.now c.requires.along)) }

pub returns-in_err-itself-clause-grows : goal.returns-in_err-itself-clause-grows
returns-in_err-itself-clause-grows c = c.reach_itself.ensures.grows

pub reach_children-requires : goal.reach_children-requires
reach_children-requires c = record { along = (along-grows c.args.table.now c.reach_itself.new.table c.args.list c.args.fields.now c.reach_itself.ensures.grows c.requires.along) }

pub returns-in_err-children-clause-grows : goal.returns-in_err-children-clause-grows
returns-in_err-children-clause-grows c = (extends-trans c.args.table.now c.reach_itself.new.table c.reach_children.new.table c.reach_itself.ensures.grows c.reach_children.ensures.grows)

pub first_step-requires : goal.first_step-requires
first_step-requires c = record { along = (along-grows c.reach_itself.new.table c.reach_children.new.table c.args.list c.args.fields.now c.reach_children.ensures.grows (along-grows c.args.table.now c.reach_itself.new.table c.args.list c.args.fields.now c.reach_itself.ensures.grows c.requires.along)) }

pub returns-in_err-first-clause-grows : goal.returns-in_err-first-clause-grows
returns-in_err-first-clause-grows c = (extends-trans c.args.table.now c.reach_children.new.table c.first_step.new.table (extends-trans c.args.table.now c.reach_itself.new.table c.reach_children.new.table c.reach_itself.ensures.grows c.reach_children.ensures.grows) c.first_step.ensures.grows)

pub last_step-requires : goal.last_step-requires
last_step-requires c = record { along = (along-grows c.reach_children.new.table c.first_step.new.table c.args.list c.args.fields.now c.first_step.ensures.grows (along-grows c.reach_itself.new.table c.reach_children.new.table c.args.list c.args.fields.now c.reach_children.ensures.grows (along-grows c.args.table.now c.reach_itself.new.table c.args.list c.args.fields.now c.reach_itself.ensures.grows c.requires.along))) }

pub returns-in_err-last-clause-grows : goal.returns-in_err-last-clause-grows
returns-in_err-last-clause-grows c = (extends-trans c.args.table.now c.first_step.new.table c.last_step.new.table (extends-trans c.args.table.now c.reach_children.new.table c.first_step.new.table (extends-trans c.args.table.now c.reach_itself.new.table c.reach_children.new.table c.reach_itself.ensures.grows c.reach_children.ensures.grows) c.first_step.ensures.grows) c.last_step.ensures.grows)

pub ways_join-requires : goal.ways_join-requires
ways_join-requires c = record { list = list-there c.last_step.new.table c.args.list (listed (fields_in (nodes c.args.table.now) c.args.fields.now)) (list-grows c.first_step.new.table c.last_step.new.table c.args.list (listed (fields_in (nodes c.args.table.now) c.args.fields.now)) c.last_step.ensures.grows (list-grows c.reach_children.new.table c.first_step.new.table c.args.list (listed (fields_in (nodes c.args.table.now) c.args.fields.now)) c.first_step.ensures.grows (list-grows c.reach_itself.new.table c.reach_children.new.table c.args.list (listed (fields_in (nodes c.args.table.now) c.args.fields.now)) c.reach_children.ensures.grows (list-grows c.args.table.now c.reach_itself.new.table c.args.list (listed (fields_in (nodes c.args.table.now) c.args.fields.now)) c.reach_itself.ensures.grows (along-list c.args.table.now c.args.list c.args.fields.now (fields_in (nodes c.args.table.now) c.args.fields.now) c.requires.along (along-fields c.args.table.now c.args.list c.args.fields.now c.requires.along)))))) }

pub returns-in_err-join-clause-grows : goal.returns-in_err-join-clause-grows
returns-in_err-join-clause-grows c = (extends-trans c.args.table.now c.last_step.new.table c.ways_join.new.table (extends-trans c.args.table.now c.first_step.new.table c.last_step.new.table (extends-trans c.args.table.now c.reach_children.new.table c.first_step.new.table (extends-trans c.args.table.now c.reach_itself.new.table c.reach_children.new.table c.reach_itself.ensures.grows c.reach_children.ensures.grows) c.first_step.ensures.grows) c.last_step.ensures.grows) c.ways_join.ensures.grows)

pub returns-clause-nodes : goal.returns-clause-nodes
unfolding AreFormulas
returns-clause-nodes c = λ fs h_list. ((c.ways_join.ensures.grows.nodes.keeps c.in_ok-itself.itself (of_truth (reach_itself fs)) (c.last_step.ensures.grows.nodes.keeps c.in_ok-itself.itself (of_truth (reach_itself fs)) (c.first_step.ensures.grows.nodes.keeps c.in_ok-itself.itself (of_truth (reach_itself fs)) (c.reach_children.ensures.grows.nodes.keeps c.in_ok-itself.itself (of_truth (reach_itself fs)) (c.in_ok-itself.ensures.node fs (along-list c.args.table.now c.args.list c.args.fields.now fs c.requires.along h_list)))))), ((c.ways_join.ensures.grows.nodes.keeps c.in_ok-children.children (of_truth (reach_children fs)) (c.last_step.ensures.grows.nodes.keeps c.in_ok-children.children (of_truth (reach_children fs)) (c.first_step.ensures.grows.nodes.keeps c.in_ok-children.children (of_truth (reach_children fs)) (c.in_ok-children.ensures.node fs (fields-grow c.args.table.now c.reach_itself.new.table c.args.fields.now fs c.reach_itself.ensures.grows h_list))))), ((c.ways_join.ensures.grows.nodes.keeps c.in_ok-first.first (of_truth (first_step fs)) (c.last_step.ensures.grows.nodes.keeps c.in_ok-first.first (of_truth (first_step fs)) (c.in_ok-first.ensures.node fs (fields-grow c.reach_itself.new.table c.reach_children.new.table c.args.fields.now fs c.reach_children.ensures.grows (fields-grow c.args.table.now c.reach_itself.new.table c.args.fields.now fs c.reach_itself.ensures.grows h_list))))), ((c.ways_join.ensures.grows.nodes.keeps c.in_ok-last.last (of_truth (last_step fs)) (c.in_ok-last.ensures.node fs (fields-grow c.reach_children.new.table c.first_step.new.table c.args.fields.now fs c.first_step.ensures.grows (fields-grow c.reach_itself.new.table c.reach_children.new.table c.args.fields.now fs c.reach_children.ensures.grows (fields-grow c.args.table.now c.reach_itself.new.table c.args.fields.now fs c.reach_itself.ensures.grows h_list))))), ((c.in_ok-join.ensures.node fs (list-grows c.first_step.new.table c.last_step.new.table c.args.list (listed fs) c.last_step.ensures.grows (list-grows c.reach_children.new.table c.first_step.new.table c.args.list (listed fs) c.first_step.ensures.grows (list-grows c.reach_itself.new.table c.reach_children.new.table c.args.list (listed fs) c.reach_children.ensures.grows (list-grows c.args.table.now c.reach_itself.new.table c.args.list (listed fs) c.reach_itself.ensures.grows (along-list c.args.table.now c.args.list c.args.fields.now fs c.requires.along h_list)))))), tt)))))

pub returns-clause-grows : goal.returns-clause-grows
returns-clause-grows c = (extends-trans c.args.table.now c.last_step.new.table c.ways_join.new.table (extends-trans c.args.table.now c.first_step.new.table c.last_step.new.table (extends-trans c.args.table.now c.reach_children.new.table c.first_step.new.table (extends-trans c.args.table.now c.reach_itself.new.table c.reach_children.new.table c.reach_itself.ensures.grows c.reach_children.ensures.grows) c.first_step.ensures.grows) c.last_step.ensures.grows) c.ways_join.ensures.grows)
