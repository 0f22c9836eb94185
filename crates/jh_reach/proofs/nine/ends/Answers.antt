-- Written by tools/reach.py.
use Rattle.std.proofs.Common.{map}
use Rattle.jh_form.specs.Tree.{of_truth}
use Rattle.jh_form.specs.Tree as t
use Rattle.jh_arena.specs.table.Nodes.{nodes, tree_in}
use Rattle.jh_arena.specs.declared.table.shapes.Shape.TheVariants as s
use Rattle.jh_arena.proofs.table.NodeSteps.{fits-Or, tree-Or}
use Rattle.jh_arena.proofs.table.Listed.{extends-trans}
use Rattle.jh_import.proofs.entering.Fields.{made-as}
use Rattle.jh_path_formulas.specs.Ways.{way}
use Rattle.jh_reach.specs.Axioms.{disjoined, leads_there}
use Rattle.jh_reach.specs.Standing.{fields_in}
use Rattle.jh_reach.proofs.Standings.{fields-grow, along-fields, along-grows}
use Rattle.jh_reach.proofs.nine.ends.Goals as goal

pub returns-in_err-same-clause-grows : goal.returns-in_err-same-clause-grows
returns-in_err-same-clause-grows c = c.one_object.ensures.grows

pub last_object-requires : goal.last_object-requires
last_object-requires c = record { along = (along-grows c.args.table.now c.one_object.new.table c.args.list c.args.fields.now c.one_object.ensures.grows c.requires.along) }

pub returns-in_err-step-clause-grows : goal.returns-in_err-step-clause-grows
returns-in_err-step-clause-grows c = (extends-trans c.args.table.now c.one_object.new.table c.last_object.new.table c.one_object.ensures.grows c.last_object.ensures.grows)

pub make-requires : goal.make-requires
make-requires c = fits-Or c.last_object.new.table.pools (nodes c.last_object.new.table) c.in_ok-same.same c.in_ok-step.step (t.eq_object (t.bound 1) (t.bound 0)) (t.ex (t.and (way (fields_in (nodes c.args.table.now) c.args.fields.now) (t.bound 2) (t.bound 0)) (disjoined (map leads_there (fields_in (nodes c.args.table.now) c.args.fields.now))))) (c.last_object.ensures.grows.nodes.keeps c.in_ok-same.same (of_truth (t.eq_object (t.bound 1) (t.bound 0))) c.in_ok-same.ensures.node) (c.in_ok-step.ensures.node (fields_in (nodes c.args.table.now) c.args.fields.now) (fields-grow c.args.table.now c.one_object.new.table c.args.fields.now (fields_in (nodes c.args.table.now) c.args.fields.now) c.one_object.ensures.grows (along-fields c.args.table.now c.args.list c.args.fields.now c.requires.along)))

pub returns-clause-node : goal.returns-clause-node
returns-clause-node c = λ fs h_list. made-as (nodes c.make.new.self) c.make.result (tree_in c.last_object.new.table (s.Or c.in_ok-same.same c.in_ok-step.step)) (of_truth (t.or (t.eq_object (t.bound 1) (t.bound 0)) (t.ex (t.and (way fs (t.bound 2) (t.bound 0)) (disjoined (map leads_there fs)))))) (tree-Or c.last_object.new.table.pools (nodes c.last_object.new.table) c.in_ok-same.same c.in_ok-step.step (t.eq_object (t.bound 1) (t.bound 0)) (t.ex (t.and (way fs (t.bound 2) (t.bound 0)) (disjoined (map leads_there fs)))) (c.last_object.ensures.grows.nodes.keeps c.in_ok-same.same (of_truth (t.eq_object (t.bound 1) (t.bound 0))) c.in_ok-same.ensures.node) (c.in_ok-step.ensures.node fs (fields-grow c.args.table.now c.one_object.new.table c.args.fields.now fs c.one_object.ensures.grows h_list))) c.make.ensures.node

pub returns-clause-grows : goal.returns-clause-grows
returns-clause-grows c = (extends-trans c.args.table.now c.last_object.new.table c.make.new.self (extends-trans c.args.table.now c.one_object.new.table c.last_object.new.table c.one_object.ensures.grows c.last_object.ensures.grows) c.make.ensures.grows)
