-- Written by tools/reach.py.
use Rattle.std.proofs.Common.{ap, ◌∙◌, Some, slice_get, map, ◌++◌}
use Rattle.jh_form.specs.Tree.{of_truth}
use Rattle.jh_form.specs.Tree as t
use Rattle.jh_arena.specs.table.Nodes.{nodes, tree_in}
use Rattle.jh_arena.specs.declared.table.shapes.Shape.TheVariants as s
use Rattle.jh_arena.proofs.table.NodeSteps.{fits-Implies, tree-Implies}
use Rattle.jh_arena.proofs.table.Listed.{extends-trans}
use Rattle.jh_import.proofs.entering.Fields.{fits-listed-Tree, tree-listed-Tree, made-as}
use Rattle.jh_path_formulas.proofs.NodeSteps.{holds-formula}
use Rattle.jh_arena.specs.makers.Joined.{joined}
use Rattle.jh_path_formulas.specs.Ways.{listed}
use Rattle.jh_reach.specs.Axioms.{has_one_parent, pairs_share_no_child}
use Rattle.jh_reach.specs.Standing.{fields_in}
use Rattle.jh_reach.proofs.Standings.{fields-grow, along-list, along-fields, along-grows}
use Rattle.jh_reach.proofs.nine.one_parent.Goals as goal

pub make-requires : goal.make-requires
make-requires c = fits-listed-Tree c.args.table.now c.args.list (listed (fields_in (nodes c.args.table.now) c.args.fields.now)) (along-list c.args.table.now c.args.list c.args.fields.now (fields_in (nodes c.args.table.now) c.args.fields.now) c.requires.along (along-fields c.args.table.now c.args.list c.args.fields.now c.requires.along))

pub returns-in_err-premise-clause-grows : goal.returns-in_err-premise-clause-grows
returns-in_err-premise-clause-grows c = c.make.ensures.grows

pub parents-requires : goal.parents-requires
parents-requires c = record { along = (along-grows c.args.table.now c.make.new.self c.args.list c.args.fields.now c.make.ensures.grows c.requires.along) }

pub returns-in_err-body-clause-grows : goal.returns-in_err-body-clause-grows
returns-in_err-body-clause-grows c = (extends-trans c.args.table.now c.make.new.self c.parents.new.table c.make.ensures.grows c.parents.ensures.grows)

pub for_two-requires : goal.for_two-requires
for_two-requires c = record { body = holds-formula (slice_get (nodes c.parents.new.table) c.in_ok-body.body) (joined (map has_one_parent (fields_in (nodes c.args.table.now) c.args.fields.now) ++ pairs_share_no_child (fields_in (nodes c.args.table.now) c.args.fields.now))) (c.in_ok-body.ensures.node (fields_in (nodes c.args.table.now) c.args.fields.now) (fields-grow c.args.table.now c.make.new.self c.args.fields.now (fields_in (nodes c.args.table.now) c.args.fields.now) c.make.ensures.grows (along-fields c.args.table.now c.args.list c.args.fields.now c.requires.along))) }

pub returns-in_err-end-clause-grows : goal.returns-in_err-end-clause-grows
returns-in_err-end-clause-grows c = (extends-trans c.args.table.now c.parents.new.table c.for_two.new.table (extends-trans c.args.table.now c.make.new.self c.parents.new.table c.make.ensures.grows c.parents.ensures.grows) c.for_two.ensures.grows)

pub make-requires-2 : goal.make-requires-2
make-requires-2 c = fits-Implies c.for_two.new.table.pools (nodes c.for_two.new.table) c.in_ok-premise.premise c.in_ok-end.end (t.tree (listed (fields_in (nodes c.args.table.now) c.args.fields.now))) (t.all (t.all (joined (map has_one_parent (fields_in (nodes c.args.table.now) c.args.fields.now) ++ pairs_share_no_child (fields_in (nodes c.args.table.now) c.args.fields.now))))) (c.for_two.ensures.grows.nodes.keeps c.in_ok-premise.premise (of_truth (t.tree (listed (fields_in (nodes c.args.table.now) c.args.fields.now)))) (c.parents.ensures.grows.nodes.keeps c.in_ok-premise.premise (of_truth (t.tree (listed (fields_in (nodes c.args.table.now) c.args.fields.now)))) (c.in_ok-premise.ensures.node ∙ ap (λ z. Some z) (tree-listed-Tree c.args.table.now c.args.list (listed (fields_in (nodes c.args.table.now) c.args.fields.now)) (along-list c.args.table.now c.args.list c.args.fields.now (fields_in (nodes c.args.table.now) c.args.fields.now) c.requires.along (along-fields c.args.table.now c.args.list c.args.fields.now c.requires.along)))))) (c.in_ok-end.ensures.node (joined (map has_one_parent (fields_in (nodes c.args.table.now) c.args.fields.now) ++ pairs_share_no_child (fields_in (nodes c.args.table.now) c.args.fields.now))) (c.in_ok-body.ensures.node (fields_in (nodes c.args.table.now) c.args.fields.now) (fields-grow c.args.table.now c.make.new.self c.args.fields.now (fields_in (nodes c.args.table.now) c.args.fields.now) c.make.ensures.grows (along-fields c.args.table.now c.args.list c.args.fields.now c.requires.along))))

pub returns-clause-node : goal.returns-clause-node
returns-clause-node c = λ fs h_list. made-as (nodes c.make-2.new.self) c.make-2.result (tree_in c.for_two.new.table (s.Implies c.in_ok-premise.premise c.in_ok-end.end)) (of_truth (t.implies (t.tree (listed fs)) (t.all (t.all (joined (map has_one_parent fs ++ pairs_share_no_child fs)))))) (tree-Implies c.for_two.new.table.pools (nodes c.for_two.new.table) c.in_ok-premise.premise c.in_ok-end.end (t.tree (listed fs)) (t.all (t.all (joined (map has_one_parent fs ++ pairs_share_no_child fs)))) (c.for_two.ensures.grows.nodes.keeps c.in_ok-premise.premise (of_truth (t.tree (listed fs))) (c.parents.ensures.grows.nodes.keeps c.in_ok-premise.premise (of_truth (t.tree (listed fs))) (c.in_ok-premise.ensures.node ∙ ap (λ z. Some z) (tree-listed-Tree c.args.table.now c.args.list (listed fs) (along-list c.args.table.now c.args.list c.args.fields.now fs c.requires.along h_list))))) (c.in_ok-end.ensures.node (joined (map has_one_parent fs ++ pairs_share_no_child fs)) (c.in_ok-body.ensures.node fs (fields-grow c.args.table.now c.make.new.self c.args.fields.now fs c.make.ensures.grows h_list)))) c.make-2.ensures.node

pub returns-clause-grows : goal.returns-clause-grows
returns-clause-grows c = (extends-trans c.args.table.now c.for_two.new.table c.make-2.new.self (extends-trans c.args.table.now c.parents.new.table c.for_two.new.table (extends-trans c.args.table.now c.make.new.self c.parents.new.table c.make.ensures.grows c.parents.ensures.grows) c.for_two.ensures.grows) c.make-2.ensures.grows)
