-- Written by tools/reach.py.
use Rattle.std.proofs.Common.{slice_get}
use Rattle.jh_form.specs.Tree.{of_object, of_field, of_truth}
use Rattle.jh_form.specs.Tree as t
use Rattle.jh_arena.specs.table.Entries.{the_field, the_object}
use Rattle.jh_arena.specs.table.Nodes.{nodes, tree_in}
use Rattle.jh_arena.specs.declared.table.shapes.Shape.TheVariants as s
use Rattle.jh_arena.proofs.table.NodeSteps.{fits-Implies, tree-Implies}
use Rattle.jh_arena.proofs.table.Listed.{extends-trans}
use Rattle.jh_import.proofs.entering.Fields.{made-as}
use Rattle.jh_path_formulas.proofs.NodeSteps.{list-there, list-of, list-grows, unlisted, holds-field, holds-object}
use Rattle.jh_path_formulas.specs.Ways.{listed, differ, forest, list_at}
use Rattle.jh_reach.specs.Axioms.{end_at_null, changed_ways}
use Rattle.jh_reach.specs.Standing.{fields_in}
use Rattle.jh_reach.proofs.Standings.{fields-grow, along-fields, along-grows}
use Rattle.jh_reach.proofs.groups.update_axiom.Goals as goal

pub before_change-requires : goal.before_change-requires
before_change-requires c = record { along = c.requires.along; at = holds-object (slice_get (nodes c.args.table.now) c.args.at) (the_object (slice_get (nodes c.args.table.now) c.args.at)) c.requires.at }

pub returns-in_err-premise-clause-grows : goal.returns-in_err-premise-clause-grows
returns-in_err-premise-clause-grows c = c.before_change.ensures.grows

pub changed_ways-requires : goal.changed_ways-requires
changed_ways-requires c = record { new = list-there c.before_change.new.table c.args.new (listed (unlisted (list_at c.args.table.now c.args.new))) (list-grows c.args.table.now c.before_change.new.table c.args.new (listed (unlisted (list_at c.args.table.now c.args.new))) c.before_change.ensures.grows (list-of c.args.table.now c.args.new c.requires.new)); along = (along-grows c.args.table.now c.before_change.new.table c.args.old c.args.fields.now c.before_change.ensures.grows c.requires.along); field = holds-field (slice_get (nodes c.before_change.new.table) c.args.field) (the_field (slice_get (nodes c.args.table.now) c.args.field)) (c.before_change.ensures.grows.nodes.keeps c.args.field (of_field (the_field (slice_get (nodes c.args.table.now) c.args.field))) c.requires.field); at = holds-object (slice_get (nodes c.before_change.new.table) c.args.at) (the_object (slice_get (nodes c.args.table.now) c.args.at)) (c.before_change.ensures.grows.nodes.keeps c.args.at (of_object (the_object (slice_get (nodes c.args.table.now) c.args.at))) c.requires.at); value = holds-object (slice_get (nodes c.before_change.new.table) c.args.value) (the_object (slice_get (nodes c.args.table.now) c.args.value)) (c.before_change.ensures.grows.nodes.keeps c.args.value (of_object (the_object (slice_get (nodes c.args.table.now) c.args.value))) c.requires.value) }

pub returns-in_err-end-clause-grows : goal.returns-in_err-end-clause-grows
returns-in_err-end-clause-grows c = (extends-trans c.args.table.now c.before_change.new.table c.changed_ways.new.table c.before_change.ensures.grows c.changed_ways.ensures.grows)

pub make-requires : goal.make-requires
make-requires c = fits-Implies c.changed_ways.new.table.pools (nodes c.changed_ways.new.table) c.in_ok-premise.premise c.in_ok-end.end (t.and (forest (fields_in (nodes c.args.table.now) c.args.fields.now)) (t.and (end_at_null (fields_in (nodes c.args.table.now) c.args.fields.now)) (differ (the_object (slice_get (nodes c.args.table.now) c.args.at)) t.null))) (changed_ways (unlisted (list_at c.args.table.now c.args.new)) (fields_in (nodes c.args.table.now) c.args.fields.now) (the_field (slice_get (nodes c.args.table.now) c.args.field)) (the_object (slice_get (nodes c.args.table.now) c.args.at)) (the_object (slice_get (nodes c.args.table.now) c.args.value))) (c.changed_ways.ensures.grows.nodes.keeps c.in_ok-premise.premise (of_truth (t.and (forest (fields_in (nodes c.args.table.now) c.args.fields.now)) (t.and (end_at_null (fields_in (nodes c.args.table.now) c.args.fields.now)) (differ (the_object (slice_get (nodes c.args.table.now) c.args.at)) t.null)))) (c.in_ok-premise.ensures.node (fields_in (nodes c.args.table.now) c.args.fields.now) (the_object (slice_get (nodes c.args.table.now) c.args.at)) (along-fields c.args.table.now c.args.old c.args.fields.now c.requires.along) c.requires.at)) (c.in_ok-end.ensures.node (unlisted (list_at c.args.table.now c.args.new)) (fields_in (nodes c.args.table.now) c.args.fields.now) (the_field (slice_get (nodes c.args.table.now) c.args.field)) (the_object (slice_get (nodes c.args.table.now) c.args.at)) (the_object (slice_get (nodes c.args.table.now) c.args.value)) (list-grows c.args.table.now c.before_change.new.table c.args.new (listed (unlisted (list_at c.args.table.now c.args.new))) c.before_change.ensures.grows (list-of c.args.table.now c.args.new c.requires.new)) (fields-grow c.args.table.now c.before_change.new.table c.args.fields.now (fields_in (nodes c.args.table.now) c.args.fields.now) c.before_change.ensures.grows (along-fields c.args.table.now c.args.old c.args.fields.now c.requires.along)) (c.before_change.ensures.grows.nodes.keeps c.args.field (of_field (the_field (slice_get (nodes c.args.table.now) c.args.field))) c.requires.field) (c.before_change.ensures.grows.nodes.keeps c.args.at (of_object (the_object (slice_get (nodes c.args.table.now) c.args.at))) c.requires.at) (c.before_change.ensures.grows.nodes.keeps c.args.value (of_object (the_object (slice_get (nodes c.args.table.now) c.args.value))) c.requires.value))

pub returns-clause-node : goal.returns-clause-node
returns-clause-node c = λ fs gs f a v h_new h_old h_field h_at h_value. made-as (nodes c.make.new.self) c.make.result (tree_in c.changed_ways.new.table (s.Implies c.in_ok-premise.premise c.in_ok-end.end)) (of_truth (t.implies (t.and (forest gs) (t.and (end_at_null gs) (differ a t.null))) (changed_ways fs gs f a v))) (tree-Implies c.changed_ways.new.table.pools (nodes c.changed_ways.new.table) c.in_ok-premise.premise c.in_ok-end.end (t.and (forest gs) (t.and (end_at_null gs) (differ a t.null))) (changed_ways fs gs f a v) (c.changed_ways.ensures.grows.nodes.keeps c.in_ok-premise.premise (of_truth (t.and (forest gs) (t.and (end_at_null gs) (differ a t.null)))) (c.in_ok-premise.ensures.node gs a h_old h_at)) (c.in_ok-end.ensures.node fs gs f a v (list-grows c.args.table.now c.before_change.new.table c.args.new (listed fs) c.before_change.ensures.grows h_new) (fields-grow c.args.table.now c.before_change.new.table c.args.fields.now gs c.before_change.ensures.grows h_old) (c.before_change.ensures.grows.nodes.keeps c.args.field (of_field f) h_field) (c.before_change.ensures.grows.nodes.keeps c.args.at (of_object a) h_at) (c.before_change.ensures.grows.nodes.keeps c.args.value (of_object v) h_value))) c.make.ensures.node

pub returns-clause-grows : goal.returns-clause-grows
returns-clause-grows c = (extends-trans c.args.table.now c.changed_ways.new.table c.make.new.self (extends-trans c.args.table.now c.before_change.new.table c.changed_ways.new.table c.before_change.ensures.grows c.changed_ways.ensures.grows) c.make.ensures.grows)
