-- Written by tools/reach.py.
use Rattle.std.proofs.Common.{ap, ◌∙◌, Some, map}
use Rattle.jh_form.specs.Tree.{of_truth}
use Rattle.jh_form.specs.Tree as t
use Rattle.jh_arena.specs.table.Nodes.{nodes, tree_in}
use Rattle.jh_arena.specs.declared.table.shapes.Shape.TheVariants as s
use Rattle.jh_arena.proofs.table.NodeSteps.{fits-And, tree-And, fits-Ex, tree-Ex}
use Rattle.jh_arena.proofs.table.Listed.{extends-trans}
use Rattle.jh_import.proofs.entering.Fields.{made-as}
use Rattle.jh_path_formulas.proofs.NodeSteps.{list-there}
use Rattle.jh_reach.specs.declared.parts.Part.TheVariants as p
use Rattle.jh_path_formulas.specs.Ways.{listed, way}
use Rattle.jh_reach.specs.Axioms.{disjoined}
use Rattle.jh_reach.specs.Parts.{part_tree}
use Rattle.jh_reach.specs.Standing.{fields_in}
use Rattle.jh_reach.proofs.Standings.{fields-grow, along-list, along-fields, along-grows}
use Rattle.jh_reach.proofs.nine.last_object.Goals as goal

pub way-requires : goal.way-requires
unfolding part_tree
way-requires c = record { list = list-there c.args.table.now c.args.list (listed (fields_in (nodes c.args.table.now) c.args.fields.now)) (along-list c.args.table.now c.args.list c.args.fields.now (fields_in (nodes c.args.table.now) c.args.fields.now) c.requires.along (along-fields c.args.table.now c.args.list c.args.fields.now c.requires.along)) }

pub returns-in_err-to-clause-grows : goal.returns-in_err-to-clause-grows
unfolding part_tree
returns-in_err-to-clause-grows c = c.way.ensures.grows

pub some-requires : goal.some-requires
unfolding part_tree
some-requires c = record { along = (along-grows c.args.table.now c.way.new.table c.args.list c.args.fields.now c.way.ensures.grows c.requires.along) }

pub returns-in_err-step-clause-grows : goal.returns-in_err-step-clause-grows
unfolding part_tree
returns-in_err-step-clause-grows c = (extends-trans c.args.table.now c.way.new.table c.some.new.table c.way.ensures.grows c.some.ensures.grows)

pub make-requires : goal.make-requires
unfolding part_tree
make-requires c = fits-And c.some.new.table.pools (nodes c.some.new.table) c.in_ok-to.to c.in_ok-step.step (way (fields_in (nodes c.args.table.now) c.args.fields.now) (t.bound 2) (t.bound 0)) (disjoined (map (part_tree p.LeadsThere (fields_in (nodes c.args.table.now) c.args.fields.now)) (fields_in (nodes c.args.table.now) c.args.fields.now))) (c.some.ensures.grows.nodes.keeps c.in_ok-to.to (of_truth (way (fields_in (nodes c.args.table.now) c.args.fields.now) (t.bound 2) (t.bound 0))) (c.in_ok-to.ensures.node (fields_in (nodes c.args.table.now) c.args.fields.now) (along-list c.args.table.now c.args.list c.args.fields.now (fields_in (nodes c.args.table.now) c.args.fields.now) c.requires.along (along-fields c.args.table.now c.args.list c.args.fields.now c.requires.along)))) (c.in_ok-step.ensures.node (fields_in (nodes c.args.table.now) c.args.fields.now) (fields-grow c.args.table.now c.way.new.table c.args.fields.now (fields_in (nodes c.args.table.now) c.args.fields.now) c.way.ensures.grows (along-fields c.args.table.now c.args.list c.args.fields.now c.requires.along)))

pub returns-in_err-body-clause-grows : goal.returns-in_err-body-clause-grows
unfolding part_tree
returns-in_err-body-clause-grows c = (extends-trans c.args.table.now c.some.new.table c.make.new.self (extends-trans c.args.table.now c.way.new.table c.some.new.table c.way.ensures.grows c.some.ensures.grows) c.make.ensures.grows)

pub make-requires-2 : goal.make-requires-2
unfolding part_tree
make-requires-2 c = fits-Ex c.make.new.self.pools (nodes c.make.new.self) c.in_ok-body.body (t.and (way (fields_in (nodes c.args.table.now) c.args.fields.now) (t.bound 2) (t.bound 0)) (disjoined (map (part_tree p.LeadsThere (fields_in (nodes c.args.table.now) c.args.fields.now)) (fields_in (nodes c.args.table.now) c.args.fields.now)))) (c.in_ok-body.ensures.node ∙ ap (λ z. Some z) (tree-And c.some.new.table.pools (nodes c.some.new.table) c.in_ok-to.to c.in_ok-step.step (way (fields_in (nodes c.args.table.now) c.args.fields.now) (t.bound 2) (t.bound 0)) (disjoined (map (part_tree p.LeadsThere (fields_in (nodes c.args.table.now) c.args.fields.now)) (fields_in (nodes c.args.table.now) c.args.fields.now))) (c.some.ensures.grows.nodes.keeps c.in_ok-to.to (of_truth (way (fields_in (nodes c.args.table.now) c.args.fields.now) (t.bound 2) (t.bound 0))) (c.in_ok-to.ensures.node (fields_in (nodes c.args.table.now) c.args.fields.now) (along-list c.args.table.now c.args.list c.args.fields.now (fields_in (nodes c.args.table.now) c.args.fields.now) c.requires.along (along-fields c.args.table.now c.args.list c.args.fields.now c.requires.along)))) (c.in_ok-step.ensures.node (fields_in (nodes c.args.table.now) c.args.fields.now) (fields-grow c.args.table.now c.way.new.table c.args.fields.now (fields_in (nodes c.args.table.now) c.args.fields.now) c.way.ensures.grows (along-fields c.args.table.now c.args.list c.args.fields.now c.requires.along)))))

pub returns-clause-node : goal.returns-clause-node
unfolding part_tree
returns-clause-node c = λ fs h_list. made-as (nodes c.make-2.new.self) c.make-2.result (tree_in c.make.new.self (s.Ex c.in_ok-body.body)) (of_truth (t.ex (t.and (way fs (t.bound 2) (t.bound 0)) (disjoined (map (part_tree p.LeadsThere fs) fs))))) (tree-Ex c.make.new.self.pools (nodes c.make.new.self) c.in_ok-body.body (t.and (way fs (t.bound 2) (t.bound 0)) (disjoined (map (part_tree p.LeadsThere fs) fs))) (c.in_ok-body.ensures.node ∙ ap (λ z. Some z) (tree-And c.some.new.table.pools (nodes c.some.new.table) c.in_ok-to.to c.in_ok-step.step (way fs (t.bound 2) (t.bound 0)) (disjoined (map (part_tree p.LeadsThere fs) fs)) (c.some.ensures.grows.nodes.keeps c.in_ok-to.to (of_truth (way fs (t.bound 2) (t.bound 0))) (c.in_ok-to.ensures.node fs (along-list c.args.table.now c.args.list c.args.fields.now fs c.requires.along h_list))) (c.in_ok-step.ensures.node fs (fields-grow c.args.table.now c.way.new.table c.args.fields.now fs c.way.ensures.grows h_list))))) c.make-2.ensures.node

pub returns-clause-grows : goal.returns-clause-grows
unfolding part_tree
returns-clause-grows c = (extends-trans c.args.table.now c.make.new.self c.make-2.new.self (extends-trans c.args.table.now c.some.new.table c.make.new.self (extends-trans c.args.table.now c.way.new.table c.some.new.table c.way.ensures.grows c.some.ensures.grows) c.make.ensures.grows) c.make-2.ensures.grows)
