-- Written by tools/reach.py.
use Rattle.std.proofs.Common.{ap, ◌∙◌, Some, slice_get}
use Rattle.jh_form.specs.Tree.{of_object, of_field, of_truth}
use Rattle.jh_form.specs.Tree as t
use Rattle.jh_arena.specs.table.Entries.{the_field, the_object}
use Rattle.jh_arena.specs.table.Nodes.{nodes, tree_in}
use Rattle.jh_arena.specs.declared.table.shapes.Shape.TheVariants as s
use Rattle.jh_arena.proofs.table.NodeSteps.{fits-Negation, tree-Negation, fits-And, tree-And}
use Rattle.jh_arena.proofs.table.Listed.{extends-trans}
use Rattle.jh_import.proofs.entering.Fields.{fits-listed-Reach, tree-listed-Reach, made-as}
use Rattle.jh_path_formulas.proofs.NodeSteps.{list-there, list-of, list-grows, unlisted, holds-field, holds-object}
use Rattle.jh_path_formulas.specs.Ways.{listed, child, differ, way, list_at}
use Rattle.jh_path_formulas.proofs.ways.leaves_out.Goals as goal

pub make-requires : goal.make-requires
make-requires c = fits-listed-Reach c.args.table.now c.args.list c.args.from c.args.to (listed (unlisted (list_at c.args.table.now c.args.list))) (the_object (slice_get (nodes c.args.table.now) c.args.from)) (the_object (slice_get (nodes c.args.table.now) c.args.to)) (list-of c.args.table.now c.args.list c.requires.list) c.requires.from c.requires.to

pub returns-in_err-on-clause-grows : goal.returns-in_err-on-clause-grows
returns-in_err-on-clause-grows c = c.make.ensures.grows

pub goes_through-requires : goal.goes_through-requires
goes_through-requires c = record { list = list-there c.make.new.self c.args.list (listed (unlisted (list_at c.args.table.now c.args.list))) (list-grows c.args.table.now c.make.new.self c.args.list (listed (unlisted (list_at c.args.table.now c.args.list))) c.make.ensures.grows (list-of c.args.table.now c.args.list c.requires.list)); field = holds-field (slice_get (nodes c.make.new.self) c.args.field) (the_field (slice_get (nodes c.args.table.now) c.args.field)) (c.make.ensures.grows.nodes.keeps c.args.field (of_field (the_field (slice_get (nodes c.args.table.now) c.args.field))) c.requires.field); at = holds-object (slice_get (nodes c.make.new.self) c.args.at) (the_object (slice_get (nodes c.args.table.now) c.args.at)) (c.make.ensures.grows.nodes.keeps c.args.at (of_object (the_object (slice_get (nodes c.args.table.now) c.args.at))) c.requires.at); from = holds-object (slice_get (nodes c.make.new.self) c.args.from) (the_object (slice_get (nodes c.args.table.now) c.args.from)) (c.make.ensures.grows.nodes.keeps c.args.from (of_object (the_object (slice_get (nodes c.args.table.now) c.args.from))) c.requires.from); to = holds-object (slice_get (nodes c.make.new.self) c.args.to) (the_object (slice_get (nodes c.args.table.now) c.args.to)) (c.make.ensures.grows.nodes.keeps c.args.to (of_object (the_object (slice_get (nodes c.args.table.now) c.args.to))) c.requires.to) }

pub returns-in_err-through-clause-grows : goal.returns-in_err-through-clause-grows
returns-in_err-through-clause-grows c = (extends-trans c.args.table.now c.make.new.self c.goes_through.new.table c.make.ensures.grows c.goes_through.ensures.grows)

pub make-requires-2 : goal.make-requires-2
make-requires-2 c = fits-Negation c.goes_through.new.table.pools (nodes c.goes_through.new.table) c.in_ok-through.through (t.and (differ (child (the_field (slice_get (nodes c.args.table.now) c.args.field)) (the_object (slice_get (nodes c.args.table.now) c.args.at))) t.null) (t.and (way (unlisted (list_at c.args.table.now c.args.list)) (the_object (slice_get (nodes c.args.table.now) c.args.from)) (the_object (slice_get (nodes c.args.table.now) c.args.at))) (way (unlisted (list_at c.args.table.now c.args.list)) (child (the_field (slice_get (nodes c.args.table.now) c.args.field)) (the_object (slice_get (nodes c.args.table.now) c.args.at))) (the_object (slice_get (nodes c.args.table.now) c.args.to))))) (c.in_ok-through.ensures.node (unlisted (list_at c.args.table.now c.args.list)) (the_field (slice_get (nodes c.args.table.now) c.args.field)) (the_object (slice_get (nodes c.args.table.now) c.args.at)) (the_object (slice_get (nodes c.args.table.now) c.args.from)) (the_object (slice_get (nodes c.args.table.now) c.args.to)) (list-grows c.args.table.now c.make.new.self c.args.list (listed (unlisted (list_at c.args.table.now c.args.list))) c.make.ensures.grows (list-of c.args.table.now c.args.list c.requires.list)) (c.make.ensures.grows.nodes.keeps c.args.field (of_field (the_field (slice_get (nodes c.args.table.now) c.args.field))) c.requires.field) (c.make.ensures.grows.nodes.keeps c.args.at (of_object (the_object (slice_get (nodes c.args.table.now) c.args.at))) c.requires.at) (c.make.ensures.grows.nodes.keeps c.args.from (of_object (the_object (slice_get (nodes c.args.table.now) c.args.from))) c.requires.from) (c.make.ensures.grows.nodes.keeps c.args.to (of_object (the_object (slice_get (nodes c.args.table.now) c.args.to))) c.requires.to))

pub returns-in_err-around-clause-grows : goal.returns-in_err-around-clause-grows
returns-in_err-around-clause-grows c = (extends-trans c.args.table.now c.goes_through.new.table c.make-2.new.self (extends-trans c.args.table.now c.make.new.self c.goes_through.new.table c.make.ensures.grows c.goes_through.ensures.grows) c.make-2.ensures.grows)

pub make-requires-3 : goal.make-requires-3
make-requires-3 c = fits-And c.make-2.new.self.pools (nodes c.make-2.new.self) c.in_ok-on.on c.in_ok-around.around (t.reach (listed (unlisted (list_at c.args.table.now c.args.list))) (the_object (slice_get (nodes c.args.table.now) c.args.from)) (the_object (slice_get (nodes c.args.table.now) c.args.to))) (t.negation (t.and (differ (child (the_field (slice_get (nodes c.args.table.now) c.args.field)) (the_object (slice_get (nodes c.args.table.now) c.args.at))) t.null) (t.and (way (unlisted (list_at c.args.table.now c.args.list)) (the_object (slice_get (nodes c.args.table.now) c.args.from)) (the_object (slice_get (nodes c.args.table.now) c.args.at))) (way (unlisted (list_at c.args.table.now c.args.list)) (child (the_field (slice_get (nodes c.args.table.now) c.args.field)) (the_object (slice_get (nodes c.args.table.now) c.args.at))) (the_object (slice_get (nodes c.args.table.now) c.args.to)))))) (c.make-2.ensures.grows.nodes.keeps c.in_ok-on.on (of_truth (t.reach (listed (unlisted (list_at c.args.table.now c.args.list))) (the_object (slice_get (nodes c.args.table.now) c.args.from)) (the_object (slice_get (nodes c.args.table.now) c.args.to)))) (c.goes_through.ensures.grows.nodes.keeps c.in_ok-on.on (of_truth (t.reach (listed (unlisted (list_at c.args.table.now c.args.list))) (the_object (slice_get (nodes c.args.table.now) c.args.from)) (the_object (slice_get (nodes c.args.table.now) c.args.to)))) (c.in_ok-on.ensures.node ∙ ap (λ z. Some z) (tree-listed-Reach c.args.table.now c.args.list c.args.from c.args.to (listed (unlisted (list_at c.args.table.now c.args.list))) (the_object (slice_get (nodes c.args.table.now) c.args.from)) (the_object (slice_get (nodes c.args.table.now) c.args.to)) (list-of c.args.table.now c.args.list c.requires.list) c.requires.from c.requires.to)))) (c.in_ok-around.ensures.node ∙ ap (λ z. Some z) (tree-Negation c.goes_through.new.table.pools (nodes c.goes_through.new.table) c.in_ok-through.through (t.and (differ (child (the_field (slice_get (nodes c.args.table.now) c.args.field)) (the_object (slice_get (nodes c.args.table.now) c.args.at))) t.null) (t.and (way (unlisted (list_at c.args.table.now c.args.list)) (the_object (slice_get (nodes c.args.table.now) c.args.from)) (the_object (slice_get (nodes c.args.table.now) c.args.at))) (way (unlisted (list_at c.args.table.now c.args.list)) (child (the_field (slice_get (nodes c.args.table.now) c.args.field)) (the_object (slice_get (nodes c.args.table.now) c.args.at))) (the_object (slice_get (nodes c.args.table.now) c.args.to))))) (c.in_ok-through.ensures.node (unlisted (list_at c.args.table.now c.args.list)) (the_field (slice_get (nodes c.args.table.now) c.args.field)) (the_object (slice_get (nodes c.args.table.now) c.args.at)) (the_object (slice_get (nodes c.args.table.now) c.args.from)) (the_object (slice_get (nodes c.args.table.now) c.args.to)) (list-grows c.args.table.now c.make.new.self c.args.list (listed (unlisted (list_at c.args.table.now c.args.list))) c.make.ensures.grows (list-of c.args.table.now c.args.list c.requires.list)) (c.make.ensures.grows.nodes.keeps c.args.field (of_field (the_field (slice_get (nodes c.args.table.now) c.args.field))) c.requires.field) (c.make.ensures.grows.nodes.keeps c.args.at (of_object (the_object (slice_get (nodes c.args.table.now) c.args.at))) c.requires.at) (c.make.ensures.grows.nodes.keeps c.args.from (of_object (the_object (slice_get (nodes c.args.table.now) c.args.from))) c.requires.from) (c.make.ensures.grows.nodes.keeps c.args.to (of_object (the_object (slice_get (nodes c.args.table.now) c.args.to))) c.requires.to))))

pub returns-clause-node : goal.returns-clause-node
returns-clause-node c = λ fs f a x y h_list h_field h_at h_from h_to. made-as (nodes c.make-3.new.self) c.make-3.result (tree_in c.make-2.new.self (s.And c.in_ok-on.on c.in_ok-around.around)) (of_truth (t.and (t.reach (listed fs) x y) (t.negation (t.and (differ (child f a) t.null) (t.and (way fs x a) (way fs (child f a) y)))))) (tree-And c.make-2.new.self.pools (nodes c.make-2.new.self) c.in_ok-on.on c.in_ok-around.around (t.reach (listed fs) x y) (t.negation (t.and (differ (child f a) t.null) (t.and (way fs x a) (way fs (child f a) y)))) (c.make-2.ensures.grows.nodes.keeps c.in_ok-on.on (of_truth (t.reach (listed fs) x y)) (c.goes_through.ensures.grows.nodes.keeps c.in_ok-on.on (of_truth (t.reach (listed fs) x y)) (c.in_ok-on.ensures.node ∙ ap (λ z. Some z) (tree-listed-Reach c.args.table.now c.args.list c.args.from c.args.to (listed fs) x y h_list h_from h_to)))) (c.in_ok-around.ensures.node ∙ ap (λ z. Some z) (tree-Negation c.goes_through.new.table.pools (nodes c.goes_through.new.table) c.in_ok-through.through (t.and (differ (child f a) t.null) (t.and (way fs x a) (way fs (child f a) y))) (c.in_ok-through.ensures.node fs f a x y (list-grows c.args.table.now c.make.new.self c.args.list (listed fs) c.make.ensures.grows h_list) (c.make.ensures.grows.nodes.keeps c.args.field (of_field f) h_field) (c.make.ensures.grows.nodes.keeps c.args.at (of_object a) h_at) (c.make.ensures.grows.nodes.keeps c.args.from (of_object x) h_from) (c.make.ensures.grows.nodes.keeps c.args.to (of_object y) h_to))))) c.make-3.ensures.node

pub returns-clause-grows : goal.returns-clause-grows
returns-clause-grows c = (extends-trans c.args.table.now c.make-2.new.self c.make-3.new.self (extends-trans c.args.table.now c.goes_through.new.table c.make-2.new.self (extends-trans c.args.table.now c.make.new.self c.goes_through.new.table c.make.ensures.grows c.goes_through.ensures.grows) c.make-2.ensures.grows) c.make-3.ensures.grows)
