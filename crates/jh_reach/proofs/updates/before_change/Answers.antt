-- Written by tools/reach.py.
use Rattle.std.proofs.Common.{ap, ◌∙◌, Some, slice_get, map}
use Rattle.jh_form.specs.Tree.{of_object, of_truth}
use Rattle.jh_form.specs.Tree as t
use Rattle.jh_arena.specs.table.Entries.{the_object}
use Rattle.jh_arena.specs.table.Nodes.{nodes}
use Rattle.jh_arena.proofs.table.NodeSteps.{fits-And, tree-And}
use Rattle.jh_arena.proofs.table.Listed.{extends-trans}
use Rattle.jh_path_formulas.proofs.NodeSteps.{list-there, list-grows, holds-object, holds-formula}
use Rattle.jh_reach.specs.declared.parts.Part.TheVariants as p
use Rattle.jh_arena.specs.makers.Joined.{joined}
use Rattle.jh_path_formulas.specs.Ways.{listed, differ}
use Rattle.jh_reach.specs.Parts.{part_tree}
use Rattle.jh_reach.specs.Standing.{fields_in}
use Rattle.jh_reach.proofs.Standings.{along-list, along-fields}
use Rattle.jh_reach.proofs.updates.before_change.Goals as goal

pub each-requires : goal.each-requires
unfolding part_tree
each-requires c = record { along = c.requires.along }

pub returns-in_err-null-clause-grows : goal.returns-in_err-null-clause-grows
unfolding part_tree
returns-in_err-null-clause-grows c = c.each.ensures.grows

pub not_null-requires : goal.not_null-requires
unfolding part_tree
not_null-requires c = record { object = holds-object (slice_get (nodes c.each.new.table) c.args.at) (the_object (slice_get (nodes c.args.table.now) c.args.at)) (c.each.ensures.grows.nodes.keeps c.args.at (of_object (the_object (slice_get (nodes c.args.table.now) c.args.at))) c.requires.at) }

pub returns-in_err-differs-clause-grows : goal.returns-in_err-differs-clause-grows
unfolding part_tree
returns-in_err-differs-clause-grows c = (extends-trans c.args.table.now c.each.new.table c.not_null.new.table c.each.ensures.grows c.not_null.ensures.grows)

pub make-requires : goal.make-requires
unfolding part_tree
make-requires c = fits-And c.not_null.new.table.pools (nodes c.not_null.new.table) c.in_ok-null.null c.in_ok-differs.differs (joined (map (part_tree p.EndsAtNull (fields_in (nodes c.args.table.now) c.args.fields.now)) (fields_in (nodes c.args.table.now) c.args.fields.now))) (differ (the_object (slice_get (nodes c.args.table.now) c.args.at)) t.null) (c.not_null.ensures.grows.nodes.keeps c.in_ok-null.null (of_truth (joined (map (part_tree p.EndsAtNull (fields_in (nodes c.args.table.now) c.args.fields.now)) (fields_in (nodes c.args.table.now) c.args.fields.now)))) (c.in_ok-null.ensures.node (fields_in (nodes c.args.table.now) c.args.fields.now) (along-fields c.args.table.now c.args.list c.args.fields.now c.requires.along))) (c.in_ok-differs.ensures.node (the_object (slice_get (nodes c.args.table.now) c.args.at)) (c.each.ensures.grows.nodes.keeps c.args.at (of_object (the_object (slice_get (nodes c.args.table.now) c.args.at))) c.requires.at))

pub returns-in_err-rest-clause-grows : goal.returns-in_err-rest-clause-grows
unfolding part_tree
returns-in_err-rest-clause-grows c = (extends-trans c.args.table.now c.not_null.new.table c.make.new.self (extends-trans c.args.table.now c.each.new.table c.not_null.new.table c.each.ensures.grows c.not_null.ensures.grows) c.make.ensures.grows)

pub in_forest-requires : goal.in_forest-requires
unfolding part_tree
in_forest-requires c = record { list = list-there c.make.new.self c.args.list (listed (fields_in (nodes c.args.table.now) c.args.fields.now)) (list-grows c.not_null.new.table c.make.new.self c.args.list (listed (fields_in (nodes c.args.table.now) c.args.fields.now)) c.make.ensures.grows (list-grows c.each.new.table c.not_null.new.table c.args.list (listed (fields_in (nodes c.args.table.now) c.args.fields.now)) c.not_null.ensures.grows (list-grows c.args.table.now c.each.new.table c.args.list (listed (fields_in (nodes c.args.table.now) c.args.fields.now)) c.each.ensures.grows (along-list c.args.table.now c.args.list c.args.fields.now (fields_in (nodes c.args.table.now) c.args.fields.now) c.requires.along (along-fields c.args.table.now c.args.list c.args.fields.now c.requires.along))))); beside = holds-formula (slice_get (nodes c.make.new.self) c.in_ok-rest.rest) (t.and (joined (map (part_tree p.EndsAtNull (fields_in (nodes c.args.table.now) c.args.fields.now)) (fields_in (nodes c.args.table.now) c.args.fields.now))) (differ (the_object (slice_get (nodes c.args.table.now) c.args.at)) t.null)) (c.in_ok-rest.ensures.node ∙ ap (λ z. Some z) (tree-And c.not_null.new.table.pools (nodes c.not_null.new.table) c.in_ok-null.null c.in_ok-differs.differs (joined (map (part_tree p.EndsAtNull (fields_in (nodes c.args.table.now) c.args.fields.now)) (fields_in (nodes c.args.table.now) c.args.fields.now))) (differ (the_object (slice_get (nodes c.args.table.now) c.args.at)) t.null) (c.not_null.ensures.grows.nodes.keeps c.in_ok-null.null (of_truth (joined (map (part_tree p.EndsAtNull (fields_in (nodes c.args.table.now) c.args.fields.now)) (fields_in (nodes c.args.table.now) c.args.fields.now)))) (c.in_ok-null.ensures.node (fields_in (nodes c.args.table.now) c.args.fields.now) (along-fields c.args.table.now c.args.list c.args.fields.now c.requires.along))) (c.in_ok-differs.ensures.node (the_object (slice_get (nodes c.args.table.now) c.args.at)) (c.each.ensures.grows.nodes.keeps c.args.at (of_object (the_object (slice_get (nodes c.args.table.now) c.args.at))) c.requires.at)))) }

pub returns-clause-node : goal.returns-clause-node
unfolding part_tree
returns-clause-node c = λ fs a h_list h_at. c.in_forest.ensures.node fs (t.and (joined (map (part_tree p.EndsAtNull fs) fs)) (differ a t.null)) (list-grows c.not_null.new.table c.make.new.self c.args.list (listed fs) c.make.ensures.grows (list-grows c.each.new.table c.not_null.new.table c.args.list (listed fs) c.not_null.ensures.grows (list-grows c.args.table.now c.each.new.table c.args.list (listed fs) c.each.ensures.grows (along-list c.args.table.now c.args.list c.args.fields.now fs c.requires.along h_list)))) (c.in_ok-rest.ensures.node ∙ ap (λ z. Some z) (tree-And c.not_null.new.table.pools (nodes c.not_null.new.table) c.in_ok-null.null c.in_ok-differs.differs (joined (map (part_tree p.EndsAtNull fs) fs)) (differ a t.null) (c.not_null.ensures.grows.nodes.keeps c.in_ok-null.null (of_truth (joined (map (part_tree p.EndsAtNull fs) fs))) (c.in_ok-null.ensures.node fs h_list)) (c.in_ok-differs.ensures.node a (c.each.ensures.grows.nodes.keeps c.args.at (of_object a) h_at))))

pub returns-clause-grows : goal.returns-clause-grows
unfolding part_tree
returns-clause-grows c = (extends-trans c.args.table.now c.make.new.self c.in_forest.new.table (extends-trans c.args.table.now c.not_null.new.table c.make.new.self (extends-trans c.args.table.now c.each.new.table c.not_null.new.table c.each.ensures.grows c.not_null.ensures.grows) c.make.ensures.grows) c.in_forest.ensures.grows)
