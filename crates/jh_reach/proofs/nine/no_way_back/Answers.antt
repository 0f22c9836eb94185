-- Written by tools/reach.py.
use Rattle.std.proofs.Common.{ap, ◌∙◌, Some, map}
use Rattle.jh_form.specs.Tree.{of_truth}
use Rattle.jh_form.specs.Tree as t
use Rattle.jh_arena.specs.table.Nodes.{nodes, tree_in}
use Rattle.jh_arena.specs.declared.table.shapes.Shape.TheVariants as s
use Rattle.jh_arena.proofs.table.NodeSteps.{fits-Implies, tree-Implies}
use Rattle.jh_arena.proofs.table.Listed.{extends-trans}
use Rattle.jh_import.proofs.entering.Fields.{fits-listed-Tree, tree-listed-Tree, made-as}
use Rattle.jh_arena.specs.makers.Joined.{joined}
use Rattle.jh_path_formulas.specs.Ways.{listed, differ}
use Rattle.jh_reach.specs.Axioms.{leads_not_back}
use Rattle.jh_reach.specs.Standing.{fields_in}
use Rattle.jh_reach.proofs.Standings.{fields-grow, along-list, along-fields, along-grows}
use Rattle.jh_reach.proofs.nine.no_way_back.Goals as goal

pub make-requires : goal.make-requires
make-requires c = fits-listed-Tree c.args.table.now c.args.list (listed (fields_in (nodes c.args.table.now) c.args.fields.now)) (along-list c.args.table.now c.args.list c.args.fields.now (fields_in (nodes c.args.table.now) c.args.fields.now) c.requires.along (along-fields c.args.table.now c.args.list c.args.fields.now c.requires.along))

pub returns-in_err-premise-clause-grows : goal.returns-in_err-premise-clause-grows
returns-in_err-premise-clause-grows c = c.make.ensures.grows

pub reached_by_none-requires : goal.reached_by_none-requires
reached_by_none-requires c = record { along = (along-grows c.args.table.now c.make.new.self c.args.list c.args.fields.now c.make.ensures.grows c.requires.along) }

pub returns-in_err-end-clause-grows : goal.returns-in_err-end-clause-grows
returns-in_err-end-clause-grows c = (extends-trans c.args.table.now c.make.new.self c.reached_by_none.new.table c.make.ensures.grows c.reached_by_none.ensures.grows)

pub make-requires-2 : goal.make-requires-2
make-requires-2 c = fits-Implies c.reached_by_none.new.table.pools (nodes c.reached_by_none.new.table) c.in_ok-premise.premise c.in_ok-end.end (t.tree (listed (fields_in (nodes c.args.table.now) c.args.fields.now))) (t.all (t.implies (differ (t.bound 0) t.null) (joined (map (leads_not_back (fields_in (nodes c.args.table.now) c.args.fields.now)) (fields_in (nodes c.args.table.now) c.args.fields.now))))) (c.reached_by_none.ensures.grows.nodes.keeps c.in_ok-premise.premise (of_truth (t.tree (listed (fields_in (nodes c.args.table.now) c.args.fields.now)))) (c.in_ok-premise.ensures.node ∙ ap (λ z. Some z) (tree-listed-Tree c.args.table.now c.args.list (listed (fields_in (nodes c.args.table.now) c.args.fields.now)) (along-list c.args.table.now c.args.list c.args.fields.now (fields_in (nodes c.args.table.now) c.args.fields.now) c.requires.along (along-fields c.args.table.now c.args.list c.args.fields.now c.requires.along))))) (c.in_ok-end.ensures.node (fields_in (nodes c.args.table.now) c.args.fields.now) (fields-grow c.args.table.now c.make.new.self c.args.fields.now (fields_in (nodes c.args.table.now) c.args.fields.now) c.make.ensures.grows (along-fields c.args.table.now c.args.list c.args.fields.now c.requires.along)))

pub returns-clause-node : goal.returns-clause-node
returns-clause-node c = λ fs h_list. made-as (nodes c.make-2.new.self) c.make-2.result (tree_in c.reached_by_none.new.table (s.Implies c.in_ok-premise.premise c.in_ok-end.end)) (of_truth (t.implies (t.tree (listed fs)) (t.all (t.implies (differ (t.bound 0) t.null) (joined (map (leads_not_back fs) fs)))))) (tree-Implies c.reached_by_none.new.table.pools (nodes c.reached_by_none.new.table) c.in_ok-premise.premise c.in_ok-end.end (t.tree (listed fs)) (t.all (t.implies (differ (t.bound 0) t.null) (joined (map (leads_not_back fs) fs)))) (c.reached_by_none.ensures.grows.nodes.keeps c.in_ok-premise.premise (of_truth (t.tree (listed fs))) (c.in_ok-premise.ensures.node ∙ ap (λ z. Some z) (tree-listed-Tree c.args.table.now c.args.list (listed fs) (along-list c.args.table.now c.args.list c.args.fields.now fs c.requires.along h_list)))) (c.in_ok-end.ensures.node fs (fields-grow c.args.table.now c.make.new.self c.args.fields.now fs c.make.ensures.grows h_list))) c.make-2.ensures.node

pub returns-clause-grows : goal.returns-clause-grows
returns-clause-grows c = (extends-trans c.args.table.now c.reached_by_none.new.table c.make-2.new.self (extends-trans c.args.table.now c.make.new.self c.reached_by_none.new.table c.make.ensures.grows c.reached_by_none.ensures.grows) c.make-2.ensures.grows)
