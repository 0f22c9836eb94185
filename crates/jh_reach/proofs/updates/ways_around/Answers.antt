-- Written by tools/reach.py.
use Rattle.std.proofs.Common.{slice_get}
use Rattle.jh_form.specs.Tree.{of_object, of_field, of_truth}
use Rattle.jh_form.specs.Tree as t
use Rattle.jh_arena.specs.table.Entries.{the_field, the_object}
use Rattle.jh_arena.specs.table.Nodes.{nodes, tree_in}
use Rattle.jh_arena.specs.declared.table.shapes.Shape.TheVariants as s
use Rattle.jh_arena.proofs.table.NodeSteps.{fits-Or, tree-Or}
use Rattle.jh_arena.proofs.table.Listed.{extends-trans}
use Rattle.jh_import.proofs.entering.Fields.{made-as}
use Rattle.jh_path_formulas.proofs.NodeSteps.{list-there, list-of, list-grows, unlisted, holds-field, holds-object}
use Rattle.jh_path_formulas.specs.Ways.{listed, differ, way, leaves_out, list_at}
use Rattle.jh_reach.proofs.updates.ways_around.Goals as goal

pub leaves_out-requires : goal.leaves_out-requires
leaves_out-requires c = record { list = list-there c.args.table.now c.args.list (listed (unlisted (list_at c.args.table.now c.args.list))) (list-of c.args.table.now c.args.list c.requires.list); field = holds-field (slice_get (nodes c.args.table.now) c.args.field) (the_field (slice_get (nodes c.args.table.now) c.args.field)) c.requires.field; at = holds-object (slice_get (nodes c.args.table.now) c.args.at) (the_object (slice_get (nodes c.args.table.now) c.args.at)) c.requires.at; from = holds-object (slice_get (nodes c.args.table.now) c.args.from) (the_object (slice_get (nodes c.args.table.now) c.args.from)) c.requires.from; to = holds-object (slice_get (nodes c.args.table.now) c.args.to) (the_object (slice_get (nodes c.args.table.now) c.args.to)) c.requires.to }

pub returns-in_err-kept-clause-grows : goal.returns-in_err-kept-clause-grows
returns-in_err-kept-clause-grows c = c.leaves_out.ensures.grows

pub goes_on-requires : goal.goes_on-requires
goes_on-requires c = record { list = list-there c.leaves_out.new.table c.args.list (listed (unlisted (list_at c.args.table.now c.args.list))) (list-grows c.args.table.now c.leaves_out.new.table c.args.list (listed (unlisted (list_at c.args.table.now c.args.list))) c.leaves_out.ensures.grows (list-of c.args.table.now c.args.list c.requires.list)); field = holds-field (slice_get (nodes c.leaves_out.new.table) c.args.field) (the_field (slice_get (nodes c.args.table.now) c.args.field)) (c.leaves_out.ensures.grows.nodes.keeps c.args.field (of_field (the_field (slice_get (nodes c.args.table.now) c.args.field))) c.requires.field); at = holds-object (slice_get (nodes c.leaves_out.new.table) c.args.at) (the_object (slice_get (nodes c.args.table.now) c.args.at)) (c.leaves_out.ensures.grows.nodes.keeps c.args.at (of_object (the_object (slice_get (nodes c.args.table.now) c.args.at))) c.requires.at); value = holds-object (slice_get (nodes c.leaves_out.new.table) c.args.value) (the_object (slice_get (nodes c.args.table.now) c.args.value)) (c.leaves_out.ensures.grows.nodes.keeps c.args.value (of_object (the_object (slice_get (nodes c.args.table.now) c.args.value))) c.requires.value); from = holds-object (slice_get (nodes c.leaves_out.new.table) c.args.from) (the_object (slice_get (nodes c.args.table.now) c.args.from)) (c.leaves_out.ensures.grows.nodes.keeps c.args.from (of_object (the_object (slice_get (nodes c.args.table.now) c.args.from))) c.requires.from); to = holds-object (slice_get (nodes c.leaves_out.new.table) c.args.to) (the_object (slice_get (nodes c.args.table.now) c.args.to)) (c.leaves_out.ensures.grows.nodes.keeps c.args.to (of_object (the_object (slice_get (nodes c.args.table.now) c.args.to))) c.requires.to) }

pub returns-in_err-through-clause-grows : goal.returns-in_err-through-clause-grows
returns-in_err-through-clause-grows c = (extends-trans c.args.table.now c.leaves_out.new.table c.goes_on.new.table c.leaves_out.ensures.grows c.goes_on.ensures.grows)

pub make-requires : goal.make-requires
make-requires c = fits-Or c.goes_on.new.table.pools (nodes c.goes_on.new.table) c.in_ok-kept.kept c.in_ok-through.through (leaves_out (unlisted (list_at c.args.table.now c.args.list)) (the_field (slice_get (nodes c.args.table.now) c.args.field)) (the_object (slice_get (nodes c.args.table.now) c.args.at)) (the_object (slice_get (nodes c.args.table.now) c.args.from)) (the_object (slice_get (nodes c.args.table.now) c.args.to))) (t.and (way (unlisted (list_at c.args.table.now c.args.list)) (the_object (slice_get (nodes c.args.table.now) c.args.from)) (the_object (slice_get (nodes c.args.table.now) c.args.at))) (t.and (differ (the_object (slice_get (nodes c.args.table.now) c.args.value)) t.null) (leaves_out (unlisted (list_at c.args.table.now c.args.list)) (the_field (slice_get (nodes c.args.table.now) c.args.field)) (the_object (slice_get (nodes c.args.table.now) c.args.at)) (the_object (slice_get (nodes c.args.table.now) c.args.value)) (the_object (slice_get (nodes c.args.table.now) c.args.to))))) (c.goes_on.ensures.grows.nodes.keeps c.in_ok-kept.kept (of_truth (leaves_out (unlisted (list_at c.args.table.now c.args.list)) (the_field (slice_get (nodes c.args.table.now) c.args.field)) (the_object (slice_get (nodes c.args.table.now) c.args.at)) (the_object (slice_get (nodes c.args.table.now) c.args.from)) (the_object (slice_get (nodes c.args.table.now) c.args.to)))) (c.in_ok-kept.ensures.node (unlisted (list_at c.args.table.now c.args.list)) (the_field (slice_get (nodes c.args.table.now) c.args.field)) (the_object (slice_get (nodes c.args.table.now) c.args.at)) (the_object (slice_get (nodes c.args.table.now) c.args.from)) (the_object (slice_get (nodes c.args.table.now) c.args.to)) (list-of c.args.table.now c.args.list c.requires.list) c.requires.field c.requires.at c.requires.from c.requires.to)) (c.in_ok-through.ensures.node (unlisted (list_at c.args.table.now c.args.list)) (the_field (slice_get (nodes c.args.table.now) c.args.field)) (the_object (slice_get (nodes c.args.table.now) c.args.at)) (the_object (slice_get (nodes c.args.table.now) c.args.value)) (the_object (slice_get (nodes c.args.table.now) c.args.from)) (the_object (slice_get (nodes c.args.table.now) c.args.to)) (list-grows c.args.table.now c.leaves_out.new.table c.args.list (listed (unlisted (list_at c.args.table.now c.args.list))) c.leaves_out.ensures.grows (list-of c.args.table.now c.args.list c.requires.list)) (c.leaves_out.ensures.grows.nodes.keeps c.args.field (of_field (the_field (slice_get (nodes c.args.table.now) c.args.field))) c.requires.field) (c.leaves_out.ensures.grows.nodes.keeps c.args.at (of_object (the_object (slice_get (nodes c.args.table.now) c.args.at))) c.requires.at) (c.leaves_out.ensures.grows.nodes.keeps c.args.value (of_object (the_object (slice_get (nodes c.args.table.now) c.args.value))) c.requires.value) (c.leaves_out.ensures.grows.nodes.keeps c.args.from (of_object (the_object (slice_get (nodes c.args.table.now) c.args.from))) c.requires.from) (c.leaves_out.ensures.grows.nodes.keeps c.args.to (of_object (the_object (slice_get (nodes c.args.table.now) c.args.to))) c.requires.to))

pub returns-clause-node : goal.returns-clause-node
returns-clause-node c = λ fs f a v x y h_list h_field h_at h_value h_from h_to. made-as (nodes c.make.new.self) c.make.result (tree_in c.goes_on.new.table (s.Or c.in_ok-kept.kept c.in_ok-through.through)) (of_truth (t.or (leaves_out fs f a x y) (t.and (way fs x a) (t.and (differ v t.null) (leaves_out fs f a v y))))) (tree-Or c.goes_on.new.table.pools (nodes c.goes_on.new.table) c.in_ok-kept.kept c.in_ok-through.through (leaves_out fs f a x y) (t.and (way fs x a) (t.and (differ v t.null) (leaves_out fs f a v y))) (c.goes_on.ensures.grows.nodes.keeps c.in_ok-kept.kept (of_truth (leaves_out fs f a x y)) (c.in_ok-kept.ensures.node fs f a x y h_list h_field h_at h_from h_to)) (c.in_ok-through.ensures.node fs f a v x y (list-grows c.args.table.now c.leaves_out.new.table c.args.list (listed fs) c.leaves_out.ensures.grows h_list) (c.leaves_out.ensures.grows.nodes.keeps c.args.field (of_field f) h_field) (c.leaves_out.ensures.grows.nodes.keeps c.args.at (of_object a) h_at) (c.leaves_out.ensures.grows.nodes.keeps c.args.value (of_object v) h_value) (c.leaves_out.ensures.grows.nodes.keeps c.args.from (of_object x) h_from) (c.leaves_out.ensures.grows.nodes.keeps c.args.to (of_object y) h_to))) c.make.ensures.node

pub returns-clause-grows : goal.returns-clause-grows
returns-clause-grows c = (extends-trans c.args.table.now c.goes_on.new.table c.make.new.self (extends-trans c.args.table.now c.leaves_out.new.table c.goes_on.new.table c.leaves_out.ensures.grows c.goes_on.ensures.grows) c.make.ensures.grows)
