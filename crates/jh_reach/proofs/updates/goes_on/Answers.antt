-- Written by tools/reach.py.
use Rattle.std.proofs.Common.{ap, ◌∙◌, Some, slice_get}
use Rattle.jh_form.specs.Tree.{of_object, of_field, of_truth}
use Rattle.jh_form.specs.Tree as t
use Rattle.jh_arena.specs.table.Entries.{the_field, the_object}
use Rattle.jh_arena.specs.table.Nodes.{nodes, tree_in}
use Rattle.jh_arena.specs.declared.table.shapes.Shape.TheVariants as s
use Rattle.jh_arena.proofs.table.NodeSteps.{fits-And, tree-And}
use Rattle.jh_arena.proofs.table.Listed.{extends-trans}
use Rattle.jh_import.proofs.entering.Fields.{fits-listed-Reach, tree-listed-Reach, made-as}
use Rattle.jh_path_formulas.proofs.NodeSteps.{list-there, list-of, list-grows, unlisted, holds-field, holds-object}
use Rattle.jh_path_formulas.specs.Ways.{listed, differ, leaves_out, list_at}
use Rattle.jh_reach.proofs.updates.goes_on.Goals as goal

pub make-requires : goal.make-requires
make-requires c = fits-listed-Reach c.args.table.now c.args.list c.args.from c.args.at (listed (unlisted (list_at c.args.table.now c.args.list))) (the_object (slice_get (nodes c.args.table.now) c.args.from)) (the_object (slice_get (nodes c.args.table.now) c.args.at)) (list-of c.args.table.now c.args.list c.requires.list) c.requires.from c.requires.at

pub returns-in_err-before-clause-grows : goal.returns-in_err-before-clause-grows
returns-in_err-before-clause-grows c = c.make.ensures.grows

pub not_null-requires : goal.not_null-requires
not_null-requires c = record { object = holds-object (slice_get (nodes c.make.new.self) c.args.value) (the_object (slice_get (nodes c.args.table.now) c.args.value)) (c.make.ensures.grows.nodes.keeps c.args.value (of_object (the_object (slice_get (nodes c.args.table.now) c.args.value))) c.requires.value) }

pub returns-in_err-differs-clause-grows : goal.returns-in_err-differs-clause-grows
returns-in_err-differs-clause-grows c = (extends-trans c.args.table.now c.make.new.self c.not_null.new.table c.make.ensures.grows c.not_null.ensures.grows)

pub leaves_out-requires : goal.leaves_out-requires
leaves_out-requires c = record { list = list-there c.not_null.new.table c.args.list (listed (unlisted (list_at c.args.table.now c.args.list))) (list-grows c.make.new.self c.not_null.new.table c.args.list (listed (unlisted (list_at c.args.table.now c.args.list))) c.not_null.ensures.grows (list-grows c.args.table.now c.make.new.self c.args.list (listed (unlisted (list_at c.args.table.now c.args.list))) c.make.ensures.grows (list-of c.args.table.now c.args.list c.requires.list))); field = holds-field (slice_get (nodes c.not_null.new.table) c.args.field) (the_field (slice_get (nodes c.args.table.now) c.args.field)) (c.not_null.ensures.grows.nodes.keeps c.args.field (of_field (the_field (slice_get (nodes c.args.table.now) c.args.field))) (c.make.ensures.grows.nodes.keeps c.args.field (of_field (the_field (slice_get (nodes c.args.table.now) c.args.field))) c.requires.field)); at = holds-object (slice_get (nodes c.not_null.new.table) c.args.at) (the_object (slice_get (nodes c.args.table.now) c.args.at)) (c.not_null.ensures.grows.nodes.keeps c.args.at (of_object (the_object (slice_get (nodes c.args.table.now) c.args.at))) (c.make.ensures.grows.nodes.keeps c.args.at (of_object (the_object (slice_get (nodes c.args.table.now) c.args.at))) c.requires.at)); from = holds-object (slice_get (nodes c.not_null.new.table) c.args.value) (the_object (slice_get (nodes c.args.table.now) c.args.value)) (c.not_null.ensures.grows.nodes.keeps c.args.value (of_object (the_object (slice_get (nodes c.args.table.now) c.args.value))) (c.make.ensures.grows.nodes.keeps c.args.value (of_object (the_object (slice_get (nodes c.args.table.now) c.args.value))) c.requires.value)); to = holds-object (slice_get (nodes c.not_null.new.table) c.args.to) (the_object (slice_get (nodes c.args.table.now) c.args.to)) (c.not_null.ensures.grows.nodes.keeps c.args.to (of_object (the_object (slice_get (nodes c.args.table.now) c.args.to))) (c.make.ensures.grows.nodes.keeps c.args.to (of_object (the_object (slice_get (nodes c.args.table.now) c.args.to))) c.requires.to)) }

pub returns-in_err-after-clause-grows : goal.returns-in_err-after-clause-grows
returns-in_err-after-clause-grows c = (extends-trans c.args.table.now c.not_null.new.table c.leaves_out.new.table (extends-trans c.args.table.now c.make.new.self c.not_null.new.table c.make.ensures.grows c.not_null.ensures.grows) c.leaves_out.ensures.grows)

pub make-requires-2 : goal.make-requires-2
make-requires-2 c = fits-And c.leaves_out.new.table.pools (nodes c.leaves_out.new.table) c.in_ok-differs.differs c.in_ok-after.after (differ (the_object (slice_get (nodes c.args.table.now) c.args.value)) t.null) (leaves_out (unlisted (list_at c.args.table.now c.args.list)) (the_field (slice_get (nodes c.args.table.now) c.args.field)) (the_object (slice_get (nodes c.args.table.now) c.args.at)) (the_object (slice_get (nodes c.args.table.now) c.args.value)) (the_object (slice_get (nodes c.args.table.now) c.args.to))) (c.leaves_out.ensures.grows.nodes.keeps c.in_ok-differs.differs (of_truth (differ (the_object (slice_get (nodes c.args.table.now) c.args.value)) t.null)) (c.in_ok-differs.ensures.node (the_object (slice_get (nodes c.args.table.now) c.args.value)) (c.make.ensures.grows.nodes.keeps c.args.value (of_object (the_object (slice_get (nodes c.args.table.now) c.args.value))) c.requires.value))) (c.in_ok-after.ensures.node (unlisted (list_at c.args.table.now c.args.list)) (the_field (slice_get (nodes c.args.table.now) c.args.field)) (the_object (slice_get (nodes c.args.table.now) c.args.at)) (the_object (slice_get (nodes c.args.table.now) c.args.value)) (the_object (slice_get (nodes c.args.table.now) c.args.to)) (list-grows c.make.new.self c.not_null.new.table c.args.list (listed (unlisted (list_at c.args.table.now c.args.list))) c.not_null.ensures.grows (list-grows c.args.table.now c.make.new.self c.args.list (listed (unlisted (list_at c.args.table.now c.args.list))) c.make.ensures.grows (list-of c.args.table.now c.args.list c.requires.list))) (c.not_null.ensures.grows.nodes.keeps c.args.field (of_field (the_field (slice_get (nodes c.args.table.now) c.args.field))) (c.make.ensures.grows.nodes.keeps c.args.field (of_field (the_field (slice_get (nodes c.args.table.now) c.args.field))) c.requires.field)) (c.not_null.ensures.grows.nodes.keeps c.args.at (of_object (the_object (slice_get (nodes c.args.table.now) c.args.at))) (c.make.ensures.grows.nodes.keeps c.args.at (of_object (the_object (slice_get (nodes c.args.table.now) c.args.at))) c.requires.at)) (c.not_null.ensures.grows.nodes.keeps c.args.value (of_object (the_object (slice_get (nodes c.args.table.now) c.args.value))) (c.make.ensures.grows.nodes.keeps c.args.value (of_object (the_object (slice_get (nodes c.args.table.now) c.args.value))) c.requires.value)) (c.not_null.ensures.grows.nodes.keeps c.args.to (of_object (the_object (slice_get (nodes c.args.table.now) c.args.to))) (c.make.ensures.grows.nodes.keeps c.args.to (of_object (the_object (slice_get (nodes c.args.table.now) c.args.to))) c.requires.to)))

pub returns-in_err-rest-clause-grows : goal.returns-in_err-rest-clause-grows
returns-in_err-rest-clause-grows c = (extends-trans c.args.table.now c.leaves_out.new.table c.make-2.new.self (extends-trans c.args.table.now c.not_null.new.table c.leaves_out.new.table (extends-trans c.args.table.now c.make.new.self c.not_null.new.table c.make.ensures.grows c.not_null.ensures.grows) c.leaves_out.ensures.grows) c.make-2.ensures.grows)

pub make-requires-3 : goal.make-requires-3
make-requires-3 c = fits-And c.make-2.new.self.pools (nodes c.make-2.new.self) c.in_ok-before.before c.in_ok-rest.rest (t.reach (listed (unlisted (list_at c.args.table.now c.args.list))) (the_object (slice_get (nodes c.args.table.now) c.args.from)) (the_object (slice_get (nodes c.args.table.now) c.args.at))) (t.and (differ (the_object (slice_get (nodes c.args.table.now) c.args.value)) t.null) (leaves_out (unlisted (list_at c.args.table.now c.args.list)) (the_field (slice_get (nodes c.args.table.now) c.args.field)) (the_object (slice_get (nodes c.args.table.now) c.args.at)) (the_object (slice_get (nodes c.args.table.now) c.args.value)) (the_object (slice_get (nodes c.args.table.now) c.args.to)))) (c.make-2.ensures.grows.nodes.keeps c.in_ok-before.before (of_truth (t.reach (listed (unlisted (list_at c.args.table.now c.args.list))) (the_object (slice_get (nodes c.args.table.now) c.args.from)) (the_object (slice_get (nodes c.args.table.now) c.args.at)))) (c.leaves_out.ensures.grows.nodes.keeps c.in_ok-before.before (of_truth (t.reach (listed (unlisted (list_at c.args.table.now c.args.list))) (the_object (slice_get (nodes c.args.table.now) c.args.from)) (the_object (slice_get (nodes c.args.table.now) c.args.at)))) (c.not_null.ensures.grows.nodes.keeps c.in_ok-before.before (of_truth (t.reach (listed (unlisted (list_at c.args.table.now c.args.list))) (the_object (slice_get (nodes c.args.table.now) c.args.from)) (the_object (slice_get (nodes c.args.table.now) c.args.at)))) (c.in_ok-before.ensures.node ∙ ap (λ z. Some z) (tree-listed-Reach c.args.table.now c.args.list c.args.from c.args.at (listed (unlisted (list_at c.args.table.now c.args.list))) (the_object (slice_get (nodes c.args.table.now) c.args.from)) (the_object (slice_get (nodes c.args.table.now) c.args.at)) (list-of c.args.table.now c.args.list c.requires.list) c.requires.from c.requires.at))))) (c.in_ok-rest.ensures.node ∙ ap (λ z. Some z) (tree-And c.leaves_out.new.table.pools (nodes c.leaves_out.new.table) c.in_ok-differs.differs c.in_ok-after.after (differ (the_object (slice_get (nodes c.args.table.now) c.args.value)) t.null) (leaves_out (unlisted (list_at c.args.table.now c.args.list)) (the_field (slice_get (nodes c.args.table.now) c.args.field)) (the_object (slice_get (nodes c.args.table.now) c.args.at)) (the_object (slice_get (nodes c.args.table.now) c.args.value)) (the_object (slice_get (nodes c.args.table.now) c.args.to))) (c.leaves_out.ensures.grows.nodes.keeps c.in_ok-differs.differs (of_truth (differ (the_object (slice_get (nodes c.args.table.now) c.args.value)) t.null)) (c.in_ok-differs.ensures.node (the_object (slice_get (nodes c.args.table.now) c.args.value)) (c.make.ensures.grows.nodes.keeps c.args.value (of_object (the_object (slice_get (nodes c.args.table.now) c.args.value))) c.requires.value))) (c.in_ok-after.ensures.node (unlisted (list_at c.args.table.now c.args.list)) (the_field (slice_get (nodes c.args.table.now) c.args.field)) (the_object (slice_get (nodes c.args.table.now) c.args.at)) (the_object (slice_get (nodes c.args.table.now) c.args.value)) (the_object (slice_get (nodes c.args.table.now) c.args.to)) (list-grows c.make.new.self c.not_null.new.table c.args.list (listed (unlisted (list_at c.args.table.now c.args.list))) c.not_null.ensures.grows (list-grows c.args.table.now c.make.new.self c.args.list (listed (unlisted (list_at c.args.table.now c.args.list))) c.make.ensures.grows (list-of c.args.table.now c.args.list c.requires.list))) (c.not_null.ensures.grows.nodes.keeps c.args.field (of_field (the_field (slice_get (nodes c.args.table.now) c.args.field))) (c.make.ensures.grows.nodes.keeps c.args.field (of_field (the_field (slice_get (nodes c.args.table.now) c.args.field))) c.requires.field)) (c.not_null.ensures.grows.nodes.keeps c.args.at (of_object (the_object (slice_get (nodes c.args.table.now) c.args.at))) (c.make.ensures.grows.nodes.keeps c.args.at (of_object (the_object (slice_get (nodes c.args.table.now) c.args.at))) c.requires.at)) (c.not_null.ensures.grows.nodes.keeps c.args.value (of_object (the_object (slice_get (nodes c.args.table.now) c.args.value))) (c.make.ensures.grows.nodes.keeps c.args.value (of_object (the_object (slice_get (nodes c.args.table.now) c.args.value))) c.requires.value)) (c.not_null.ensures.grows.nodes.keeps c.args.to (of_object (the_object (slice_get (nodes c.args.table.now) c.args.to))) (c.make.ensures.grows.nodes.keeps c.args.to (of_object (the_object (slice_get (nodes c.args.table.now) c.args.to))) c.requires.to)))))

pub returns-clause-node : goal.returns-clause-node
returns-clause-node c = λ fs f a v x y h_list h_field h_at h_value h_from h_to. made-as (nodes c.make-3.new.self) c.make-3.result (tree_in c.make-2.new.self (s.And c.in_ok-before.before c.in_ok-rest.rest)) (of_truth (t.and (t.reach (listed fs) x a) (t.and (differ v t.null) (leaves_out fs f a v y)))) (tree-And c.make-2.new.self.pools (nodes c.make-2.new.self) c.in_ok-before.before c.in_ok-rest.rest (t.reach (listed fs) x a) (t.and (differ v t.null) (leaves_out fs f a v y)) (c.make-2.ensures.grows.nodes.keeps c.in_ok-before.before (of_truth (t.reach (listed fs) x a)) (c.leaves_out.ensures.grows.nodes.keeps c.in_ok-before.before (of_truth (t.reach (listed fs) x a)) (c.not_null.ensures.grows.nodes.keeps c.in_ok-before.before (of_truth (t.reach (listed fs) x a)) (c.in_ok-before.ensures.node ∙ ap (λ z. Some z) (tree-listed-Reach c.args.table.now c.args.list c.args.from c.args.at (listed fs) x a h_list h_from h_at))))) (c.in_ok-rest.ensures.node ∙ ap (λ z. Some z) (tree-And c.leaves_out.new.table.pools (nodes c.leaves_out.new.table) c.in_ok-differs.differs c.in_ok-after.after (differ v t.null) (leaves_out fs f a v y) (c.leaves_out.ensures.grows.nodes.keeps c.in_ok-differs.differs (of_truth (differ v t.null)) (c.in_ok-differs.ensures.node v (c.make.ensures.grows.nodes.keeps c.args.value (of_object v) h_value))) (c.in_ok-after.ensures.node fs f a v y (list-grows c.make.new.self c.not_null.new.table c.args.list (listed fs) c.not_null.ensures.grows (list-grows c.args.table.now c.make.new.self c.args.list (listed fs) c.make.ensures.grows h_list)) (c.not_null.ensures.grows.nodes.keeps c.args.field (of_field f) (c.make.ensures.grows.nodes.keeps c.args.field (of_field f) h_field)) (c.not_null.ensures.grows.nodes.keeps c.args.at (of_object a) (c.make.ensures.grows.nodes.keeps c.args.at (of_object a) h_at)) (c.not_null.ensures.grows.nodes.keeps c.args.value (of_object v) (c.make.ensures.grows.nodes.keeps c.args.value (of_object v) h_value)) (c.not_null.ensures.grows.nodes.keeps c.args.to (of_object y) (c.make.ensures.grows.nodes.keeps c.args.to (of_object y) h_to)))))) c.make-3.ensures.node

pub returns-clause-grows : goal.returns-clause-grows
returns-clause-grows c = (extends-trans c.args.table.now c.make-2.new.self c.make-3.new.self (extends-trans c.args.table.now c.leaves_out.new.table c.make-2.new.self (extends-trans c.args.table.now c.not_null.new.table c.leaves_out.new.table (extends-trans c.args.table.now c.make.new.self c.not_null.new.table c.make.ensures.grows c.not_null.ensures.grows) c.leaves_out.ensures.grows) c.make-2.ensures.grows) c.make-3.ensures.grows)
