-- Written by tools/reach.py.
use Rattle.jh_form.specs.Tree.{of_truth}
use Rattle.jh_form.specs.Tree as t
use Rattle.jh_arena.specs.table.Nodes.{nodes, tree_in}
use Rattle.jh_arena.specs.declared.table.shapes.Shape.TheVariants as s
use Rattle.jh_arena.proofs.table.NodeSteps.{fits-Implies, tree-Implies}
use Rattle.jh_arena.proofs.table.Listed.{extends-trans}
use Rattle.jh_import.proofs.entering.Fields.{made-as}
use Rattle.jh_path_formulas.proofs.NodeSteps.{list-there, list-grows}
use Rattle.jh_path_formulas.specs.Ways.{listed, differ, way, forest}
use Rattle.jh_reach.specs.Axioms.{end_at_null}
use Rattle.jh_reach.specs.Standing.{fields_in}
use Rattle.jh_reach.proofs.Standings.{along-list, along-fields}
use Rattle.jh_reach.proofs.nine.ways_up.Goals as goal

pub ends_in_forest-requires : goal.ends_in_forest-requires
ends_in_forest-requires c = record { along = c.requires.along }

pub returns-in_err-premise-clause-grows : goal.returns-in_err-premise-clause-grows
returns-in_err-premise-clause-grows c = c.ends_in_forest.ensures.grows

pub ways_behind-requires : goal.ways_behind-requires
ways_behind-requires c = record { list = list-there c.ends_in_forest.new.table c.args.list (listed (fields_in (nodes c.args.table.now) c.args.fields.now)) (list-grows c.args.table.now c.ends_in_forest.new.table c.args.list (listed (fields_in (nodes c.args.table.now) c.args.fields.now)) c.ends_in_forest.ensures.grows (along-list c.args.table.now c.args.list c.args.fields.now (fields_in (nodes c.args.table.now) c.args.fields.now) c.requires.along (along-fields c.args.table.now c.args.list c.args.fields.now c.requires.along))) }

pub returns-in_err-end-clause-grows : goal.returns-in_err-end-clause-grows
returns-in_err-end-clause-grows c = (extends-trans c.args.table.now c.ends_in_forest.new.table c.ways_behind.new.table c.ends_in_forest.ensures.grows c.ways_behind.ensures.grows)

pub make-requires : goal.make-requires
make-requires c = fits-Implies c.ways_behind.new.table.pools (nodes c.ways_behind.new.table) c.in_ok-premise.premise c.in_ok-end.end (t.and (forest (fields_in (nodes c.args.table.now) c.args.fields.now)) (end_at_null (fields_in (nodes c.args.table.now) c.args.fields.now))) (t.all (t.all (t.all (t.implies (t.and (way (fields_in (nodes c.args.table.now) c.args.fields.now) (t.bound 2) (t.bound 0)) (t.and (way (fields_in (nodes c.args.table.now) c.args.fields.now) (t.bound 1) (t.bound 0)) (differ (t.bound 0) t.null))) (t.or (way (fields_in (nodes c.args.table.now) c.args.fields.now) (t.bound 2) (t.bound 1)) (way (fields_in (nodes c.args.table.now) c.args.fields.now) (t.bound 1) (t.bound 2))))))) (c.ways_behind.ensures.grows.nodes.keeps c.in_ok-premise.premise (of_truth (t.and (forest (fields_in (nodes c.args.table.now) c.args.fields.now)) (end_at_null (fields_in (nodes c.args.table.now) c.args.fields.now)))) (c.in_ok-premise.ensures.node (fields_in (nodes c.args.table.now) c.args.fields.now) (along-fields c.args.table.now c.args.list c.args.fields.now c.requires.along))) (c.in_ok-end.ensures.node (fields_in (nodes c.args.table.now) c.args.fields.now) (list-grows c.args.table.now c.ends_in_forest.new.table c.args.list (listed (fields_in (nodes c.args.table.now) c.args.fields.now)) c.ends_in_forest.ensures.grows (along-list c.args.table.now c.args.list c.args.fields.now (fields_in (nodes c.args.table.now) c.args.fields.now) c.requires.along (along-fields c.args.table.now c.args.list c.args.fields.now c.requires.along))))

pub returns-clause-node : goal.returns-clause-node
returns-clause-node c = λ fs h_list. made-as (nodes c.make.new.self) c.make.result (tree_in c.ways_behind.new.table (s.Implies c.in_ok-premise.premise c.in_ok-end.end)) (of_truth (t.implies (t.and (forest fs) (end_at_null fs)) (t.all (t.all (t.all (t.implies (t.and (way fs (t.bound 2) (t.bound 0)) (t.and (way fs (t.bound 1) (t.bound 0)) (differ (t.bound 0) t.null))) (t.or (way fs (t.bound 2) (t.bound 1)) (way fs (t.bound 1) (t.bound 2))))))))) (tree-Implies c.ways_behind.new.table.pools (nodes c.ways_behind.new.table) c.in_ok-premise.premise c.in_ok-end.end (t.and (forest fs) (end_at_null fs)) (t.all (t.all (t.all (t.implies (t.and (way fs (t.bound 2) (t.bound 0)) (t.and (way fs (t.bound 1) (t.bound 0)) (differ (t.bound 0) t.null))) (t.or (way fs (t.bound 2) (t.bound 1)) (way fs (t.bound 1) (t.bound 2))))))) (c.ways_behind.ensures.grows.nodes.keeps c.in_ok-premise.premise (of_truth (t.and (forest fs) (end_at_null fs))) (c.in_ok-premise.ensures.node fs h_list)) (c.in_ok-end.ensures.node fs (list-grows c.args.table.now c.ends_in_forest.new.table c.args.list (listed fs) c.ends_in_forest.ensures.grows (along-list c.args.table.now c.args.list c.args.fields.now fs c.requires.along h_list)))) c.make.ensures.node

pub returns-clause-grows : goal.returns-clause-grows
returns-clause-grows c = (extends-trans c.args.table.now c.ways_behind.new.table c.make.new.self (extends-trans c.args.table.now c.ends_in_forest.new.table c.ways_behind.new.table c.ends_in_forest.ensures.grows c.ways_behind.ensures.grows) c.make.ensures.grows)
