-- Written by tools/reach.py.
use Rattle.std.proofs.Common.{ap, ◌∙◌, Some, slice_get}
use Rattle.jh_form.specs.Tree.{of_object, of_truth}
use Rattle.jh_form.specs.Tree as t
use Rattle.jh_arena.specs.table.Entries.{the_object}
use Rattle.jh_arena.specs.table.Nodes.{nodes, tree_in}
use Rattle.jh_arena.specs.declared.table.shapes.Shape.TheVariants as s
use Rattle.jh_arena.proofs.table.NodeSteps.{fits-And, tree-And, fits-Or, tree-Or}
use Rattle.jh_arena.proofs.table.Listed.{extends-trans}
use Rattle.jh_import.proofs.entering.Fields.{fits-listed-Reach, tree-listed-Reach, made-as}
use Rattle.jh_path_formulas.proofs.NodeSteps.{list-there, list-of, list-grows, unlisted, holds-object}
use Rattle.jh_path_formulas.specs.Ways.{listed, stops_at, list_at}
use Rattle.jh_reach.proofs.updates.ways_before.Goals as goal

pub stops_at-requires : goal.stops_at-requires
stops_at-requires c = record { list = list-there c.args.table.now c.args.list (listed (unlisted (list_at c.args.table.now c.args.list))) (list-of c.args.table.now c.args.list c.requires.list); at = holds-object (slice_get (nodes c.args.table.now) c.args.at) (the_object (slice_get (nodes c.args.table.now) c.args.at)) c.requires.at; from = holds-object (slice_get (nodes c.args.table.now) c.args.from) (the_object (slice_get (nodes c.args.table.now) c.args.from)) c.requires.from; to = holds-object (slice_get (nodes c.args.table.now) c.args.to) (the_object (slice_get (nodes c.args.table.now) c.args.to)) c.requires.to }

pub returns-in_err-kept-clause-grows : goal.returns-in_err-kept-clause-grows
returns-in_err-kept-clause-grows c = c.stops_at.ensures.grows

pub make-requires : goal.make-requires
make-requires c = fits-listed-Reach c.stops_at.new.table c.args.list c.args.from c.args.at (listed (unlisted (list_at c.args.table.now c.args.list))) (the_object (slice_get (nodes c.args.table.now) c.args.from)) (the_object (slice_get (nodes c.args.table.now) c.args.at)) (list-grows c.args.table.now c.stops_at.new.table c.args.list (listed (unlisted (list_at c.args.table.now c.args.list))) c.stops_at.ensures.grows (list-of c.args.table.now c.args.list c.requires.list)) (c.stops_at.ensures.grows.nodes.keeps c.args.from (of_object (the_object (slice_get (nodes c.args.table.now) c.args.from))) c.requires.from) (c.stops_at.ensures.grows.nodes.keeps c.args.at (of_object (the_object (slice_get (nodes c.args.table.now) c.args.at))) c.requires.at)

pub returns-in_err-before-clause-grows : goal.returns-in_err-before-clause-grows
returns-in_err-before-clause-grows c = (extends-trans c.args.table.now c.stops_at.new.table c.make.new.self c.stops_at.ensures.grows c.make.ensures.grows)

pub stops_at-requires-2 : goal.stops_at-requires-2
stops_at-requires-2 c = record { list = list-there c.make.new.self c.args.list (listed (unlisted (list_at c.args.table.now c.args.list))) (list-grows c.stops_at.new.table c.make.new.self c.args.list (listed (unlisted (list_at c.args.table.now c.args.list))) c.make.ensures.grows (list-grows c.args.table.now c.stops_at.new.table c.args.list (listed (unlisted (list_at c.args.table.now c.args.list))) c.stops_at.ensures.grows (list-of c.args.table.now c.args.list c.requires.list))); at = holds-object (slice_get (nodes c.make.new.self) c.args.at) (the_object (slice_get (nodes c.args.table.now) c.args.at)) (c.make.ensures.grows.nodes.keeps c.args.at (of_object (the_object (slice_get (nodes c.args.table.now) c.args.at))) (c.stops_at.ensures.grows.nodes.keeps c.args.at (of_object (the_object (slice_get (nodes c.args.table.now) c.args.at))) c.requires.at)); from = holds-object (slice_get (nodes c.make.new.self) c.args.value) (the_object (slice_get (nodes c.args.table.now) c.args.value)) (c.make.ensures.grows.nodes.keeps c.args.value (of_object (the_object (slice_get (nodes c.args.table.now) c.args.value))) (c.stops_at.ensures.grows.nodes.keeps c.args.value (of_object (the_object (slice_get (nodes c.args.table.now) c.args.value))) c.requires.value)); to = holds-object (slice_get (nodes c.make.new.self) c.args.to) (the_object (slice_get (nodes c.args.table.now) c.args.to)) (c.make.ensures.grows.nodes.keeps c.args.to (of_object (the_object (slice_get (nodes c.args.table.now) c.args.to))) (c.stops_at.ensures.grows.nodes.keeps c.args.to (of_object (the_object (slice_get (nodes c.args.table.now) c.args.to))) c.requires.to)) }

pub returns-in_err-after-clause-grows : goal.returns-in_err-after-clause-grows
returns-in_err-after-clause-grows c = (extends-trans c.args.table.now c.make.new.self c.stops_at-2.new.table (extends-trans c.args.table.now c.stops_at.new.table c.make.new.self c.stops_at.ensures.grows c.make.ensures.grows) c.stops_at-2.ensures.grows)

pub make-requires-2 : goal.make-requires-2
make-requires-2 c = fits-And c.stops_at-2.new.table.pools (nodes c.stops_at-2.new.table) c.in_ok-before.before c.in_ok-after.after (t.reach (listed (unlisted (list_at c.args.table.now c.args.list))) (the_object (slice_get (nodes c.args.table.now) c.args.from)) (the_object (slice_get (nodes c.args.table.now) c.args.at))) (stops_at (unlisted (list_at c.args.table.now c.args.list)) (the_object (slice_get (nodes c.args.table.now) c.args.at)) (the_object (slice_get (nodes c.args.table.now) c.args.value)) (the_object (slice_get (nodes c.args.table.now) c.args.to))) (c.stops_at-2.ensures.grows.nodes.keeps c.in_ok-before.before (of_truth (t.reach (listed (unlisted (list_at c.args.table.now c.args.list))) (the_object (slice_get (nodes c.args.table.now) c.args.from)) (the_object (slice_get (nodes c.args.table.now) c.args.at)))) (c.in_ok-before.ensures.node ∙ ap (λ z. Some z) (tree-listed-Reach c.stops_at.new.table c.args.list c.args.from c.args.at (listed (unlisted (list_at c.args.table.now c.args.list))) (the_object (slice_get (nodes c.args.table.now) c.args.from)) (the_object (slice_get (nodes c.args.table.now) c.args.at)) (list-grows c.args.table.now c.stops_at.new.table c.args.list (listed (unlisted (list_at c.args.table.now c.args.list))) c.stops_at.ensures.grows (list-of c.args.table.now c.args.list c.requires.list)) (c.stops_at.ensures.grows.nodes.keeps c.args.from (of_object (the_object (slice_get (nodes c.args.table.now) c.args.from))) c.requires.from) (c.stops_at.ensures.grows.nodes.keeps c.args.at (of_object (the_object (slice_get (nodes c.args.table.now) c.args.at))) c.requires.at)))) (c.in_ok-after.ensures.node (unlisted (list_at c.args.table.now c.args.list)) (the_object (slice_get (nodes c.args.table.now) c.args.at)) (the_object (slice_get (nodes c.args.table.now) c.args.value)) (the_object (slice_get (nodes c.args.table.now) c.args.to)) (list-grows c.stops_at.new.table c.make.new.self c.args.list (listed (unlisted (list_at c.args.table.now c.args.list))) c.make.ensures.grows (list-grows c.args.table.now c.stops_at.new.table c.args.list (listed (unlisted (list_at c.args.table.now c.args.list))) c.stops_at.ensures.grows (list-of c.args.table.now c.args.list c.requires.list))) (c.make.ensures.grows.nodes.keeps c.args.at (of_object (the_object (slice_get (nodes c.args.table.now) c.args.at))) (c.stops_at.ensures.grows.nodes.keeps c.args.at (of_object (the_object (slice_get (nodes c.args.table.now) c.args.at))) c.requires.at)) (c.make.ensures.grows.nodes.keeps c.args.value (of_object (the_object (slice_get (nodes c.args.table.now) c.args.value))) (c.stops_at.ensures.grows.nodes.keeps c.args.value (of_object (the_object (slice_get (nodes c.args.table.now) c.args.value))) c.requires.value)) (c.make.ensures.grows.nodes.keeps c.args.to (of_object (the_object (slice_get (nodes c.args.table.now) c.args.to))) (c.stops_at.ensures.grows.nodes.keeps c.args.to (of_object (the_object (slice_get (nodes c.args.table.now) c.args.to))) c.requires.to)))

pub returns-in_err-through-clause-grows : goal.returns-in_err-through-clause-grows
returns-in_err-through-clause-grows c = (extends-trans c.args.table.now c.stops_at-2.new.table c.make-2.new.self (extends-trans c.args.table.now c.make.new.self c.stops_at-2.new.table (extends-trans c.args.table.now c.stops_at.new.table c.make.new.self c.stops_at.ensures.grows c.make.ensures.grows) c.stops_at-2.ensures.grows) c.make-2.ensures.grows)

pub make-requires-3 : goal.make-requires-3
make-requires-3 c = fits-Or c.make-2.new.self.pools (nodes c.make-2.new.self) c.in_ok-kept.kept c.in_ok-through.through (stops_at (unlisted (list_at c.args.table.now c.args.list)) (the_object (slice_get (nodes c.args.table.now) c.args.at)) (the_object (slice_get (nodes c.args.table.now) c.args.from)) (the_object (slice_get (nodes c.args.table.now) c.args.to))) (t.and (t.reach (listed (unlisted (list_at c.args.table.now c.args.list))) (the_object (slice_get (nodes c.args.table.now) c.args.from)) (the_object (slice_get (nodes c.args.table.now) c.args.at))) (stops_at (unlisted (list_at c.args.table.now c.args.list)) (the_object (slice_get (nodes c.args.table.now) c.args.at)) (the_object (slice_get (nodes c.args.table.now) c.args.value)) (the_object (slice_get (nodes c.args.table.now) c.args.to)))) (c.make-2.ensures.grows.nodes.keeps c.in_ok-kept.kept (of_truth (stops_at (unlisted (list_at c.args.table.now c.args.list)) (the_object (slice_get (nodes c.args.table.now) c.args.at)) (the_object (slice_get (nodes c.args.table.now) c.args.from)) (the_object (slice_get (nodes c.args.table.now) c.args.to)))) (c.stops_at-2.ensures.grows.nodes.keeps c.in_ok-kept.kept (of_truth (stops_at (unlisted (list_at c.args.table.now c.args.list)) (the_object (slice_get (nodes c.args.table.now) c.args.at)) (the_object (slice_get (nodes c.args.table.now) c.args.from)) (the_object (slice_get (nodes c.args.table.now) c.args.to)))) (c.make.ensures.grows.nodes.keeps c.in_ok-kept.kept (of_truth (stops_at (unlisted (list_at c.args.table.now c.args.list)) (the_object (slice_get (nodes c.args.table.now) c.args.at)) (the_object (slice_get (nodes c.args.table.now) c.args.from)) (the_object (slice_get (nodes c.args.table.now) c.args.to)))) (c.in_ok-kept.ensures.node (unlisted (list_at c.args.table.now c.args.list)) (the_object (slice_get (nodes c.args.table.now) c.args.at)) (the_object (slice_get (nodes c.args.table.now) c.args.from)) (the_object (slice_get (nodes c.args.table.now) c.args.to)) (list-of c.args.table.now c.args.list c.requires.list) c.requires.at c.requires.from c.requires.to)))) (c.in_ok-through.ensures.node ∙ ap (λ z. Some z) (tree-And c.stops_at-2.new.table.pools (nodes c.stops_at-2.new.table) c.in_ok-before.before c.in_ok-after.after (t.reach (listed (unlisted (list_at c.args.table.now c.args.list))) (the_object (slice_get (nodes c.args.table.now) c.args.from)) (the_object (slice_get (nodes c.args.table.now) c.args.at))) (stops_at (unlisted (list_at c.args.table.now c.args.list)) (the_object (slice_get (nodes c.args.table.now) c.args.at)) (the_object (slice_get (nodes c.args.table.now) c.args.value)) (the_object (slice_get (nodes c.args.table.now) c.args.to))) (c.stops_at-2.ensures.grows.nodes.keeps c.in_ok-before.before (of_truth (t.reach (listed (unlisted (list_at c.args.table.now c.args.list))) (the_object (slice_get (nodes c.args.table.now) c.args.from)) (the_object (slice_get (nodes c.args.table.now) c.args.at)))) (c.in_ok-before.ensures.node ∙ ap (λ z. Some z) (tree-listed-Reach c.stops_at.new.table c.args.list c.args.from c.args.at (listed (unlisted (list_at c.args.table.now c.args.list))) (the_object (slice_get (nodes c.args.table.now) c.args.from)) (the_object (slice_get (nodes c.args.table.now) c.args.at)) (list-grows c.args.table.now c.stops_at.new.table c.args.list (listed (unlisted (list_at c.args.table.now c.args.list))) c.stops_at.ensures.grows (list-of c.args.table.now c.args.list c.requires.list)) (c.stops_at.ensures.grows.nodes.keeps c.args.from (of_object (the_object (slice_get (nodes c.args.table.now) c.args.from))) c.requires.from) (c.stops_at.ensures.grows.nodes.keeps c.args.at (of_object (the_object (slice_get (nodes c.args.table.now) c.args.at))) c.requires.at)))) (c.in_ok-after.ensures.node (unlisted (list_at c.args.table.now c.args.list)) (the_object (slice_get (nodes c.args.table.now) c.args.at)) (the_object (slice_get (nodes c.args.table.now) c.args.value)) (the_object (slice_get (nodes c.args.table.now) c.args.to)) (list-grows c.stops_at.new.table c.make.new.self c.args.list (listed (unlisted (list_at c.args.table.now c.args.list))) c.make.ensures.grows (list-grows c.args.table.now c.stops_at.new.table c.args.list (listed (unlisted (list_at c.args.table.now c.args.list))) c.stops_at.ensures.grows (list-of c.args.table.now c.args.list c.requires.list))) (c.make.ensures.grows.nodes.keeps c.args.at (of_object (the_object (slice_get (nodes c.args.table.now) c.args.at))) (c.stops_at.ensures.grows.nodes.keeps c.args.at (of_object (the_object (slice_get (nodes c.args.table.now) c.args.at))) c.requires.at)) (c.make.ensures.grows.nodes.keeps c.args.value (of_object (the_object (slice_get (nodes c.args.table.now) c.args.value))) (c.stops_at.ensures.grows.nodes.keeps c.args.value (of_object (the_object (slice_get (nodes c.args.table.now) c.args.value))) c.requires.value)) (c.make.ensures.grows.nodes.keeps c.args.to (of_object (the_object (slice_get (nodes c.args.table.now) c.args.to))) (c.stops_at.ensures.grows.nodes.keeps c.args.to (of_object (the_object (slice_get (nodes c.args.table.now) c.args.to))) c.requires.to)))))

pub returns-clause-node : goal.returns-clause-node
returns-clause-node c = λ fs a v x y h_list h_at h_value h_from h_to. made-as (nodes c.make-3.new.self) c.make-3.result (tree_in c.make-2.new.self (s.Or c.in_ok-kept.kept c.in_ok-through.through)) (of_truth (t.or (stops_at fs a x y) (t.and (t.reach (listed fs) x a) (stops_at fs a v y)))) (tree-Or c.make-2.new.self.pools (nodes c.make-2.new.self) c.in_ok-kept.kept c.in_ok-through.through (stops_at fs a x y) (t.and (t.reach (listed fs) x a) (stops_at fs a v y)) (c.make-2.ensures.grows.nodes.keeps c.in_ok-kept.kept (of_truth (stops_at fs a x y)) (c.stops_at-2.ensures.grows.nodes.keeps c.in_ok-kept.kept (of_truth (stops_at fs a x y)) (c.make.ensures.grows.nodes.keeps c.in_ok-kept.kept (of_truth (stops_at fs a x y)) (c.in_ok-kept.ensures.node fs a x y h_list h_at h_from h_to)))) (c.in_ok-through.ensures.node ∙ ap (λ z. Some z) (tree-And c.stops_at-2.new.table.pools (nodes c.stops_at-2.new.table) c.in_ok-before.before c.in_ok-after.after (t.reach (listed fs) x a) (stops_at fs a v y) (c.stops_at-2.ensures.grows.nodes.keeps c.in_ok-before.before (of_truth (t.reach (listed fs) x a)) (c.in_ok-before.ensures.node ∙ ap (λ z. Some z) (tree-listed-Reach c.stops_at.new.table c.args.list c.args.from c.args.at (listed fs) x a (list-grows c.args.table.now c.stops_at.new.table c.args.list (listed fs) c.stops_at.ensures.grows h_list) (c.stops_at.ensures.grows.nodes.keeps c.args.from (of_object x) h_from) (c.stops_at.ensures.grows.nodes.keeps c.args.at (of_object a) h_at)))) (c.in_ok-after.ensures.node fs a v y (list-grows c.stops_at.new.table c.make.new.self c.args.list (listed fs) c.make.ensures.grows (list-grows c.args.table.now c.stops_at.new.table c.args.list (listed fs) c.stops_at.ensures.grows h_list)) (c.make.ensures.grows.nodes.keeps c.args.at (of_object a) (c.stops_at.ensures.grows.nodes.keeps c.args.at (of_object a) h_at)) (c.make.ensures.grows.nodes.keeps c.args.value (of_object v) (c.stops_at.ensures.grows.nodes.keeps c.args.value (of_object v) h_value)) (c.make.ensures.grows.nodes.keeps c.args.to (of_object y) (c.stops_at.ensures.grows.nodes.keeps c.args.to (of_object y) h_to)))))) c.make-3.ensures.node

pub returns-clause-grows : goal.returns-clause-grows
returns-clause-grows c = (extends-trans c.args.table.now c.make-2.new.self c.make-3.new.self (extends-trans c.args.table.now c.stops_at-2.new.table c.make-2.new.self (extends-trans c.args.table.now c.make.new.self c.stops_at-2.new.table (extends-trans c.args.table.now c.stops_at.new.table c.make.new.self c.stops_at.ensures.grows c.make.ensures.grows) c.stops_at-2.ensures.grows) c.make-2.ensures.grows) c.make-3.ensures.grows)
