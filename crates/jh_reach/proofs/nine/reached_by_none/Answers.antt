-- Written by tools/reach.py.
use Rattle.std.proofs.Common.{ap, ◌∙◌, Some, slice_get, map}
use Rattle.jh_form.specs.Tree.{of_truth}
use Rattle.jh_form.specs.Tree as t
use Rattle.jh_arena.specs.table.Nodes.{nodes, tree_in}
use Rattle.jh_arena.specs.declared.table.shapes.Shape.TheVariants as s
use Rattle.jh_arena.proofs.table.NodeSteps.{fits-Bound, tree-Bound, fits-Implies, tree-Implies, fits-All, tree-All}
use Rattle.jh_arena.proofs.table.Listed.{extends-trans}
use Rattle.jh_import.proofs.entering.Fields.{made-as}
use Rattle.jh_path_formulas.proofs.NodeSteps.{holds-object}
use Rattle.jh_reach.specs.declared.parts.Part.TheVariants as p
use Rattle.jh_arena.specs.makers.Joined.{joined}
use Rattle.jh_path_formulas.specs.Ways.{differ}
use Rattle.jh_reach.specs.Parts.{part_tree}
use Rattle.jh_reach.specs.Standing.{fields_in}
use Rattle.jh_reach.proofs.Standings.{fields-grow, along-fields, along-grows}
use Rattle.jh_reach.proofs.nine.reached_by_none.Goals as goal

pub make-requires : goal.make-requires
unfolding part_tree
make-requires c = fits-Bound c.args.table.now.pools (nodes c.args.table.now) 0

pub returns-in_err-object-clause-grows : goal.returns-in_err-object-clause-grows
unfolding part_tree
returns-in_err-object-clause-grows c = c.make.ensures.grows

pub not_null-requires : goal.not_null-requires
unfolding part_tree
not_null-requires c = record { object = holds-object (slice_get (nodes c.make.new.self) c.in_ok-object.object) (t.bound 0) (c.in_ok-object.ensures.node ∙ ap (λ z. Some z) (tree-Bound c.args.table.now.pools (nodes c.args.table.now) 0)) }

pub returns-in_err-premise-clause-grows : goal.returns-in_err-premise-clause-grows
unfolding part_tree
returns-in_err-premise-clause-grows c = (extends-trans c.args.table.now c.make.new.self c.not_null.new.table c.make.ensures.grows c.not_null.ensures.grows)

pub each-requires : goal.each-requires
unfolding part_tree
each-requires c = record { along = (along-grows c.make.new.self c.not_null.new.table c.args.list c.args.fields.now c.not_null.ensures.grows (along-grows c.args.table.now c.make.new.self c.args.list c.args.fields.now c.make.ensures.grows c.requires.along)) }

pub returns-in_err-end-clause-grows : goal.returns-in_err-end-clause-grows
unfolding part_tree
returns-in_err-end-clause-grows c = (extends-trans c.args.table.now c.not_null.new.table c.each.new.table (extends-trans c.args.table.now c.make.new.self c.not_null.new.table c.make.ensures.grows c.not_null.ensures.grows) c.each.ensures.grows)

pub make-requires-2 : goal.make-requires-2
unfolding part_tree
make-requires-2 c = fits-Implies c.each.new.table.pools (nodes c.each.new.table) c.in_ok-premise.premise c.in_ok-end.end (differ (t.bound 0) t.null) (joined (map (part_tree p.LeadsNotBack (fields_in (nodes c.args.table.now) c.args.fields.now)) (fields_in (nodes c.args.table.now) c.args.fields.now))) (c.each.ensures.grows.nodes.keeps c.in_ok-premise.premise (of_truth (differ (t.bound 0) t.null)) (c.in_ok-premise.ensures.node (t.bound 0) (c.in_ok-object.ensures.node ∙ ap (λ z. Some z) (tree-Bound c.args.table.now.pools (nodes c.args.table.now) 0)))) (c.in_ok-end.ensures.node (fields_in (nodes c.args.table.now) c.args.fields.now) (fields-grow c.make.new.self c.not_null.new.table c.args.fields.now (fields_in (nodes c.args.table.now) c.args.fields.now) c.not_null.ensures.grows (fields-grow c.args.table.now c.make.new.self c.args.fields.now (fields_in (nodes c.args.table.now) c.args.fields.now) c.make.ensures.grows (along-fields c.args.table.now c.args.list c.args.fields.now c.requires.along))))

pub returns-in_err-body-clause-grows : goal.returns-in_err-body-clause-grows
unfolding part_tree
returns-in_err-body-clause-grows c = (extends-trans c.args.table.now c.each.new.table c.make-2.new.self (extends-trans c.args.table.now c.not_null.new.table c.each.new.table (extends-trans c.args.table.now c.make.new.self c.not_null.new.table c.make.ensures.grows c.not_null.ensures.grows) c.each.ensures.grows) c.make-2.ensures.grows)

pub make-requires-3 : goal.make-requires-3
unfolding part_tree
make-requires-3 c = fits-All c.make-2.new.self.pools (nodes c.make-2.new.self) c.in_ok-body.body (t.implies (differ (t.bound 0) t.null) (joined (map (part_tree p.LeadsNotBack (fields_in (nodes c.args.table.now) c.args.fields.now)) (fields_in (nodes c.args.table.now) c.args.fields.now)))) (c.in_ok-body.ensures.node ∙ ap (λ z. Some z) (tree-Implies c.each.new.table.pools (nodes c.each.new.table) c.in_ok-premise.premise c.in_ok-end.end (differ (t.bound 0) t.null) (joined (map (part_tree p.LeadsNotBack (fields_in (nodes c.args.table.now) c.args.fields.now)) (fields_in (nodes c.args.table.now) c.args.fields.now))) (c.each.ensures.grows.nodes.keeps c.in_ok-premise.premise (of_truth (differ (t.bound 0) t.null)) (c.in_ok-premise.ensures.node (t.bound 0) (c.in_ok-object.ensures.node ∙ ap (λ z. Some z) (tree-Bound c.args.table.now.pools (nodes c.args.table.now) 0)))) (c.in_ok-end.ensures.node (fields_in (nodes c.args.table.now) c.args.fields.now) (fields-grow c.make.new.self c.not_null.new.table c.args.fields.now (fields_in (nodes c.args.table.now) c.args.fields.now) c.not_null.ensures.grows (fields-grow c.args.table.now c.make.new.self c.args.fields.now (fields_in (nodes c.args.table.now) c.args.fields.now) c.make.ensures.grows (along-fields c.args.table.now c.args.list c.args.fields.now c.requires.along))))))

pub returns-clause-node : goal.returns-clause-node
unfolding part_tree
returns-clause-node c = λ fs h_list. made-as (nodes c.make-3.new.self) c.make-3.result (tree_in c.make-2.new.self (s.All c.in_ok-body.body)) (of_truth (t.all (t.implies (differ (t.bound 0) t.null) (joined (map (part_tree p.LeadsNotBack fs) fs))))) (tree-All c.make-2.new.self.pools (nodes c.make-2.new.self) c.in_ok-body.body (t.implies (differ (t.bound 0) t.null) (joined (map (part_tree p.LeadsNotBack fs) fs))) (c.in_ok-body.ensures.node ∙ ap (λ z. Some z) (tree-Implies c.each.new.table.pools (nodes c.each.new.table) c.in_ok-premise.premise c.in_ok-end.end (differ (t.bound 0) t.null) (joined (map (part_tree p.LeadsNotBack fs) fs)) (c.each.ensures.grows.nodes.keeps c.in_ok-premise.premise (of_truth (differ (t.bound 0) t.null)) (c.in_ok-premise.ensures.node (t.bound 0) (c.in_ok-object.ensures.node ∙ ap (λ z. Some z) (tree-Bound c.args.table.now.pools (nodes c.args.table.now) 0)))) (c.in_ok-end.ensures.node fs (fields-grow c.make.new.self c.not_null.new.table c.args.fields.now fs c.not_null.ensures.grows (fields-grow c.args.table.now c.make.new.self c.args.fields.now fs c.make.ensures.grows h_list)))))) c.make-3.ensures.node

pub returns-clause-grows : goal.returns-clause-grows
unfolding part_tree
returns-clause-grows c = (extends-trans c.args.table.now c.make-2.new.self c.make-3.new.self (extends-trans c.args.table.now c.each.new.table c.make-2.new.self (extends-trans c.args.table.now c.not_null.new.table c.each.new.table (extends-trans c.args.table.now c.make.new.self c.not_null.new.table c.make.ensures.grows c.not_null.ensures.grows) c.each.ensures.grows) c.make-2.ensures.grows) c.make-3.ensures.grows)
