-- Written by tools/reach.py.
use Rattle.std.proofs.Common.{ap, ◌∙◌, Some, slice_get}
use Rattle.jh_form.specs.Tree.{of_object, of_truth}
use Rattle.jh_form.specs.Tree as t
use Rattle.jh_arena.specs.table.Entries.{the_field, the_object}
use Rattle.jh_arena.specs.table.Nodes.{nodes, tree_in}
use Rattle.jh_arena.specs.declared.table.shapes.Shape.TheVariants as s
use Rattle.jh_arena.proofs.table.NodeSteps.{fits-ReadObject, tree-ReadObject, fits-And, tree-And}
use Rattle.jh_arena.proofs.table.Listed.{extends-trans}
use Rattle.jh_import.proofs.entering.Fields.{fits-listed-Reach, tree-listed-Reach, made-as}
use Rattle.jh_path_formulas.proofs.NodeSteps.{list-of, list-grows, unlisted, holds-object}
use Rattle.jh_path_formulas.specs.Ways.{listed, child, differ, list_at}
use Rattle.jh_path_formulas.proofs.ways.goes_through.Goals as goal

pub make-requires : goal.make-requires
make-requires c = fits-ReadObject c.args.table.now.pools (nodes c.args.table.now) c.args.field c.args.at (the_field (slice_get (nodes c.args.table.now) c.args.field)) (the_object (slice_get (nodes c.args.table.now) c.args.at)) c.requires.field c.requires.at

pub returns-in_err-child-clause-grows : goal.returns-in_err-child-clause-grows
returns-in_err-child-clause-grows c = c.make.ensures.grows

pub not_null-requires : goal.not_null-requires
not_null-requires c = record { object = holds-object (slice_get (nodes c.make.new.self) c.in_ok-child.child) (t.read_object (the_field (slice_get (nodes c.args.table.now) c.args.field)) (the_object (slice_get (nodes c.args.table.now) c.args.at))) (c.in_ok-child.ensures.node ∙ ap (λ z. Some z) (tree-ReadObject c.args.table.now.pools (nodes c.args.table.now) c.args.field c.args.at (the_field (slice_get (nodes c.args.table.now) c.args.field)) (the_object (slice_get (nodes c.args.table.now) c.args.at)) c.requires.field c.requires.at)) }

pub returns-in_err-differs-clause-grows : goal.returns-in_err-differs-clause-grows
returns-in_err-differs-clause-grows c = (extends-trans c.args.table.now c.make.new.self c.not_null.new.table c.make.ensures.grows c.not_null.ensures.grows)

pub make-requires-2 : goal.make-requires-2
make-requires-2 c = fits-listed-Reach c.not_null.new.table c.args.list c.args.from c.args.at (listed (unlisted (list_at c.args.table.now c.args.list))) (the_object (slice_get (nodes c.args.table.now) c.args.from)) (the_object (slice_get (nodes c.args.table.now) c.args.at)) (list-grows c.make.new.self c.not_null.new.table c.args.list (listed (unlisted (list_at c.args.table.now c.args.list))) c.not_null.ensures.grows (list-grows c.args.table.now c.make.new.self c.args.list (listed (unlisted (list_at c.args.table.now c.args.list))) c.make.ensures.grows (list-of c.args.table.now c.args.list c.requires.list))) (c.not_null.ensures.grows.nodes.keeps c.args.from (of_object (the_object (slice_get (nodes c.args.table.now) c.args.from))) (c.make.ensures.grows.nodes.keeps c.args.from (of_object (the_object (slice_get (nodes c.args.table.now) c.args.from))) c.requires.from)) (c.not_null.ensures.grows.nodes.keeps c.args.at (of_object (the_object (slice_get (nodes c.args.table.now) c.args.at))) (c.make.ensures.grows.nodes.keeps c.args.at (of_object (the_object (slice_get (nodes c.args.table.now) c.args.at))) c.requires.at))

pub returns-in_err-before-clause-grows : goal.returns-in_err-before-clause-grows
returns-in_err-before-clause-grows c = (extends-trans c.args.table.now c.not_null.new.table c.make-2.new.self (extends-trans c.args.table.now c.make.new.self c.not_null.new.table c.make.ensures.grows c.not_null.ensures.grows) c.make-2.ensures.grows)

pub make-requires-3 : goal.make-requires-3
make-requires-3 c = fits-listed-Reach c.make-2.new.self c.args.list c.in_ok-child.child c.args.to (listed (unlisted (list_at c.args.table.now c.args.list))) (t.read_object (the_field (slice_get (nodes c.args.table.now) c.args.field)) (the_object (slice_get (nodes c.args.table.now) c.args.at))) (the_object (slice_get (nodes c.args.table.now) c.args.to)) (list-grows c.not_null.new.table c.make-2.new.self c.args.list (listed (unlisted (list_at c.args.table.now c.args.list))) c.make-2.ensures.grows (list-grows c.make.new.self c.not_null.new.table c.args.list (listed (unlisted (list_at c.args.table.now c.args.list))) c.not_null.ensures.grows (list-grows c.args.table.now c.make.new.self c.args.list (listed (unlisted (list_at c.args.table.now c.args.list))) c.make.ensures.grows (list-of c.args.table.now c.args.list c.requires.list)))) (c.make-2.ensures.grows.nodes.keeps c.in_ok-child.child (of_object (t.read_object (the_field (slice_get (nodes c.args.table.now) c.args.field)) (the_object (slice_get (nodes c.args.table.now) c.args.at)))) (c.not_null.ensures.grows.nodes.keeps c.in_ok-child.child (of_object (t.read_object (the_field (slice_get (nodes c.args.table.now) c.args.field)) (the_object (slice_get (nodes c.args.table.now) c.args.at)))) (c.in_ok-child.ensures.node ∙ ap (λ z. Some z) (tree-ReadObject c.args.table.now.pools (nodes c.args.table.now) c.args.field c.args.at (the_field (slice_get (nodes c.args.table.now) c.args.field)) (the_object (slice_get (nodes c.args.table.now) c.args.at)) c.requires.field c.requires.at)))) (c.make-2.ensures.grows.nodes.keeps c.args.to (of_object (the_object (slice_get (nodes c.args.table.now) c.args.to))) (c.not_null.ensures.grows.nodes.keeps c.args.to (of_object (the_object (slice_get (nodes c.args.table.now) c.args.to))) (c.make.ensures.grows.nodes.keeps c.args.to (of_object (the_object (slice_get (nodes c.args.table.now) c.args.to))) c.requires.to)))

pub returns-in_err-after-clause-grows : goal.returns-in_err-after-clause-grows
returns-in_err-after-clause-grows c = (extends-trans c.args.table.now c.make-2.new.self c.make-3.new.self (extends-trans c.args.table.now c.not_null.new.table c.make-2.new.self (extends-trans c.args.table.now c.make.new.self c.not_null.new.table c.make.ensures.grows c.not_null.ensures.grows) c.make-2.ensures.grows) c.make-3.ensures.grows)

pub make-requires-4 : goal.make-requires-4
make-requires-4 c = fits-And c.make-3.new.self.pools (nodes c.make-3.new.self) c.in_ok-before.before c.in_ok-after.after (t.reach (listed (unlisted (list_at c.args.table.now c.args.list))) (the_object (slice_get (nodes c.args.table.now) c.args.from)) (the_object (slice_get (nodes c.args.table.now) c.args.at))) (t.reach (listed (unlisted (list_at c.args.table.now c.args.list))) (t.read_object (the_field (slice_get (nodes c.args.table.now) c.args.field)) (the_object (slice_get (nodes c.args.table.now) c.args.at))) (the_object (slice_get (nodes c.args.table.now) c.args.to))) (c.make-3.ensures.grows.nodes.keeps c.in_ok-before.before (of_truth (t.reach (listed (unlisted (list_at c.args.table.now c.args.list))) (the_object (slice_get (nodes c.args.table.now) c.args.from)) (the_object (slice_get (nodes c.args.table.now) c.args.at)))) (c.in_ok-before.ensures.node ∙ ap (λ z. Some z) (tree-listed-Reach c.not_null.new.table c.args.list c.args.from c.args.at (listed (unlisted (list_at c.args.table.now c.args.list))) (the_object (slice_get (nodes c.args.table.now) c.args.from)) (the_object (slice_get (nodes c.args.table.now) c.args.at)) (list-grows c.make.new.self c.not_null.new.table c.args.list (listed (unlisted (list_at c.args.table.now c.args.list))) c.not_null.ensures.grows (list-grows c.args.table.now c.make.new.self c.args.list (listed (unlisted (list_at c.args.table.now c.args.list))) c.make.ensures.grows (list-of c.args.table.now c.args.list c.requires.list))) (c.not_null.ensures.grows.nodes.keeps c.args.from (of_object (the_object (slice_get (nodes c.args.table.now) c.args.from))) (c.make.ensures.grows.nodes.keeps c.args.from (of_object (the_object (slice_get (nodes c.args.table.now) c.args.from))) c.requires.from)) (c.not_null.ensures.grows.nodes.keeps c.args.at (of_object (the_object (slice_get (nodes c.args.table.now) c.args.at))) (c.make.ensures.grows.nodes.keeps c.args.at (of_object (the_object (slice_get (nodes c.args.table.now) c.args.at))) c.requires.at))))) (c.in_ok-after.ensures.node ∙ ap (λ z. Some z) (tree-listed-Reach c.make-2.new.self c.args.list c.in_ok-child.child c.args.to (listed (unlisted (list_at c.args.table.now c.args.list))) (t.read_object (the_field (slice_get (nodes c.args.table.now) c.args.field)) (the_object (slice_get (nodes c.args.table.now) c.args.at))) (the_object (slice_get (nodes c.args.table.now) c.args.to)) (list-grows c.not_null.new.table c.make-2.new.self c.args.list (listed (unlisted (list_at c.args.table.now c.args.list))) c.make-2.ensures.grows (list-grows c.make.new.self c.not_null.new.table c.args.list (listed (unlisted (list_at c.args.table.now c.args.list))) c.not_null.ensures.grows (list-grows c.args.table.now c.make.new.self c.args.list (listed (unlisted (list_at c.args.table.now c.args.list))) c.make.ensures.grows (list-of c.args.table.now c.args.list c.requires.list)))) (c.make-2.ensures.grows.nodes.keeps c.in_ok-child.child (of_object (t.read_object (the_field (slice_get (nodes c.args.table.now) c.args.field)) (the_object (slice_get (nodes c.args.table.now) c.args.at)))) (c.not_null.ensures.grows.nodes.keeps c.in_ok-child.child (of_object (t.read_object (the_field (slice_get (nodes c.args.table.now) c.args.field)) (the_object (slice_get (nodes c.args.table.now) c.args.at)))) (c.in_ok-child.ensures.node ∙ ap (λ z. Some z) (tree-ReadObject c.args.table.now.pools (nodes c.args.table.now) c.args.field c.args.at (the_field (slice_get (nodes c.args.table.now) c.args.field)) (the_object (slice_get (nodes c.args.table.now) c.args.at)) c.requires.field c.requires.at)))) (c.make-2.ensures.grows.nodes.keeps c.args.to (of_object (the_object (slice_get (nodes c.args.table.now) c.args.to))) (c.not_null.ensures.grows.nodes.keeps c.args.to (of_object (the_object (slice_get (nodes c.args.table.now) c.args.to))) (c.make.ensures.grows.nodes.keeps c.args.to (of_object (the_object (slice_get (nodes c.args.table.now) c.args.to))) c.requires.to)))))

pub returns-in_err-both-clause-grows : goal.returns-in_err-both-clause-grows
returns-in_err-both-clause-grows c = (extends-trans c.args.table.now c.make-3.new.self c.make-4.new.self (extends-trans c.args.table.now c.make-2.new.self c.make-3.new.self (extends-trans c.args.table.now c.not_null.new.table c.make-2.new.self (extends-trans c.args.table.now c.make.new.self c.not_null.new.table c.make.ensures.grows c.not_null.ensures.grows) c.make-2.ensures.grows) c.make-3.ensures.grows) c.make-4.ensures.grows)

pub make-requires-5 : goal.make-requires-5
make-requires-5 c = fits-And c.make-4.new.self.pools (nodes c.make-4.new.self) c.in_ok-differs.differs c.in_ok-both.both (differ (t.read_object (the_field (slice_get (nodes c.args.table.now) c.args.field)) (the_object (slice_get (nodes c.args.table.now) c.args.at))) t.null) (t.and (t.reach (listed (unlisted (list_at c.args.table.now c.args.list))) (the_object (slice_get (nodes c.args.table.now) c.args.from)) (the_object (slice_get (nodes c.args.table.now) c.args.at))) (t.reach (listed (unlisted (list_at c.args.table.now c.args.list))) (t.read_object (the_field (slice_get (nodes c.args.table.now) c.args.field)) (the_object (slice_get (nodes c.args.table.now) c.args.at))) (the_object (slice_get (nodes c.args.table.now) c.args.to)))) (c.make-4.ensures.grows.nodes.keeps c.in_ok-differs.differs (of_truth (differ (t.read_object (the_field (slice_get (nodes c.args.table.now) c.args.field)) (the_object (slice_get (nodes c.args.table.now) c.args.at))) t.null)) (c.make-3.ensures.grows.nodes.keeps c.in_ok-differs.differs (of_truth (differ (t.read_object (the_field (slice_get (nodes c.args.table.now) c.args.field)) (the_object (slice_get (nodes c.args.table.now) c.args.at))) t.null)) (c.make-2.ensures.grows.nodes.keeps c.in_ok-differs.differs (of_truth (differ (t.read_object (the_field (slice_get (nodes c.args.table.now) c.args.field)) (the_object (slice_get (nodes c.args.table.now) c.args.at))) t.null)) (c.in_ok-differs.ensures.node (t.read_object (the_field (slice_get (nodes c.args.table.now) c.args.field)) (the_object (slice_get (nodes c.args.table.now) c.args.at))) (c.in_ok-child.ensures.node ∙ ap (λ z. Some z) (tree-ReadObject c.args.table.now.pools (nodes c.args.table.now) c.args.field c.args.at (the_field (slice_get (nodes c.args.table.now) c.args.field)) (the_object (slice_get (nodes c.args.table.now) c.args.at)) c.requires.field c.requires.at)))))) (c.in_ok-both.ensures.node ∙ ap (λ z. Some z) (tree-And c.make-3.new.self.pools (nodes c.make-3.new.self) c.in_ok-before.before c.in_ok-after.after (t.reach (listed (unlisted (list_at c.args.table.now c.args.list))) (the_object (slice_get (nodes c.args.table.now) c.args.from)) (the_object (slice_get (nodes c.args.table.now) c.args.at))) (t.reach (listed (unlisted (list_at c.args.table.now c.args.list))) (t.read_object (the_field (slice_get (nodes c.args.table.now) c.args.field)) (the_object (slice_get (nodes c.args.table.now) c.args.at))) (the_object (slice_get (nodes c.args.table.now) c.args.to))) (c.make-3.ensures.grows.nodes.keeps c.in_ok-before.before (of_truth (t.reach (listed (unlisted (list_at c.args.table.now c.args.list))) (the_object (slice_get (nodes c.args.table.now) c.args.from)) (the_object (slice_get (nodes c.args.table.now) c.args.at)))) (c.in_ok-before.ensures.node ∙ ap (λ z. Some z) (tree-listed-Reach c.not_null.new.table c.args.list c.args.from c.args.at (listed (unlisted (list_at c.args.table.now c.args.list))) (the_object (slice_get (nodes c.args.table.now) c.args.from)) (the_object (slice_get (nodes c.args.table.now) c.args.at)) (list-grows c.make.new.self c.not_null.new.table c.args.list (listed (unlisted (list_at c.args.table.now c.args.list))) c.not_null.ensures.grows (list-grows c.args.table.now c.make.new.self c.args.list (listed (unlisted (list_at c.args.table.now c.args.list))) c.make.ensures.grows (list-of c.args.table.now c.args.list c.requires.list))) (c.not_null.ensures.grows.nodes.keeps c.args.from (of_object (the_object (slice_get (nodes c.args.table.now) c.args.from))) (c.make.ensures.grows.nodes.keeps c.args.from (of_object (the_object (slice_get (nodes c.args.table.now) c.args.from))) c.requires.from)) (c.not_null.ensures.grows.nodes.keeps c.args.at (of_object (the_object (slice_get (nodes c.args.table.now) c.args.at))) (c.make.ensures.grows.nodes.keeps c.args.at (of_object (the_object (slice_get (nodes c.args.table.now) c.args.at))) c.requires.at))))) (c.in_ok-after.ensures.node ∙ ap (λ z. Some z) (tree-listed-Reach c.make-2.new.self c.args.list c.in_ok-child.child c.args.to (listed (unlisted (list_at c.args.table.now c.args.list))) (t.read_object (the_field (slice_get (nodes c.args.table.now) c.args.field)) (the_object (slice_get (nodes c.args.table.now) c.args.at))) (the_object (slice_get (nodes c.args.table.now) c.args.to)) (list-grows c.not_null.new.table c.make-2.new.self c.args.list (listed (unlisted (list_at c.args.table.now c.args.list))) c.make-2.ensures.grows (list-grows c.make.new.self c.not_null.new.table c.args.list (listed (unlisted (list_at c.args.table.now c.args.list))) c.not_null.ensures.grows (list-grows c.args.table.now c.make.new.self c.args.list (listed (unlisted (list_at c.args.table.now c.args.list))) c.make.ensures.grows (list-of c.args.table.now c.args.list c.requires.list)))) (c.make-2.ensures.grows.nodes.keeps c.in_ok-child.child (of_object (t.read_object (the_field (slice_get (nodes c.args.table.now) c.args.field)) (the_object (slice_get (nodes c.args.table.now) c.args.at)))) (c.not_null.ensures.grows.nodes.keeps c.in_ok-child.child (of_object (t.read_object (the_field (slice_get (nodes c.args.table.now) c.args.field)) (the_object (slice_get (nodes c.args.table.now) c.args.at)))) (c.in_ok-child.ensures.node ∙ ap (λ z. Some z) (tree-ReadObject c.args.table.now.pools (nodes c.args.table.now) c.args.field c.args.at (the_field (slice_get (nodes c.args.table.now) c.args.field)) (the_object (slice_get (nodes c.args.table.now) c.args.at)) c.requires.field c.requires.at)))) (c.make-2.ensures.grows.nodes.keeps c.args.to (of_object (the_object (slice_get (nodes c.args.table.now) c.args.to))) (c.not_null.ensures.grows.nodes.keeps c.args.to (of_object (the_object (slice_get (nodes c.args.table.now) c.args.to))) (c.make.ensures.grows.nodes.keeps c.args.to (of_object (the_object (slice_get (nodes c.args.table.now) c.args.to))) c.requires.to)))))))

pub returns-clause-node : goal.returns-clause-node
returns-clause-node c = λ fs f a x y h_list h_field h_at h_from h_to. made-as (nodes c.make-5.new.self) c.make-5.result (tree_in c.make-4.new.self (s.And c.in_ok-differs.differs c.in_ok-both.both)) (of_truth (t.and (differ (t.read_object f a) t.null) (t.and (t.reach (listed fs) x a) (t.reach (listed fs) (t.read_object f a) y)))) (tree-And c.make-4.new.self.pools (nodes c.make-4.new.self) c.in_ok-differs.differs c.in_ok-both.both (differ (t.read_object f a) t.null) (t.and (t.reach (listed fs) x a) (t.reach (listed fs) (t.read_object f a) y)) (c.make-4.ensures.grows.nodes.keeps c.in_ok-differs.differs (of_truth (differ (t.read_object f a) t.null)) (c.make-3.ensures.grows.nodes.keeps c.in_ok-differs.differs (of_truth (differ (t.read_object f a) t.null)) (c.make-2.ensures.grows.nodes.keeps c.in_ok-differs.differs (of_truth (differ (t.read_object f a) t.null)) (c.in_ok-differs.ensures.node (t.read_object f a) (c.in_ok-child.ensures.node ∙ ap (λ z. Some z) (tree-ReadObject c.args.table.now.pools (nodes c.args.table.now) c.args.field c.args.at f a h_field h_at)))))) (c.in_ok-both.ensures.node ∙ ap (λ z. Some z) (tree-And c.make-3.new.self.pools (nodes c.make-3.new.self) c.in_ok-before.before c.in_ok-after.after (t.reach (listed fs) x a) (t.reach (listed fs) (t.read_object f a) y) (c.make-3.ensures.grows.nodes.keeps c.in_ok-before.before (of_truth (t.reach (listed fs) x a)) (c.in_ok-before.ensures.node ∙ ap (λ z. Some z) (tree-listed-Reach c.not_null.new.table c.args.list c.args.from c.args.at (listed fs) x a (list-grows c.make.new.self c.not_null.new.table c.args.list (listed fs) c.not_null.ensures.grows (list-grows c.args.table.now c.make.new.self c.args.list (listed fs) c.make.ensures.grows h_list)) (c.not_null.ensures.grows.nodes.keeps c.args.from (of_object x) (c.make.ensures.grows.nodes.keeps c.args.from (of_object x) h_from)) (c.not_null.ensures.grows.nodes.keeps c.args.at (of_object a) (c.make.ensures.grows.nodes.keeps c.args.at (of_object a) h_at))))) (c.in_ok-after.ensures.node ∙ ap (λ z. Some z) (tree-listed-Reach c.make-2.new.self c.args.list c.in_ok-child.child c.args.to (listed fs) (t.read_object f a) y (list-grows c.not_null.new.table c.make-2.new.self c.args.list (listed fs) c.make-2.ensures.grows (list-grows c.make.new.self c.not_null.new.table c.args.list (listed fs) c.not_null.ensures.grows (list-grows c.args.table.now c.make.new.self c.args.list (listed fs) c.make.ensures.grows h_list))) (c.make-2.ensures.grows.nodes.keeps c.in_ok-child.child (of_object (t.read_object f a)) (c.not_null.ensures.grows.nodes.keeps c.in_ok-child.child (of_object (t.read_object f a)) (c.in_ok-child.ensures.node ∙ ap (λ z. Some z) (tree-ReadObject c.args.table.now.pools (nodes c.args.table.now) c.args.field c.args.at f a h_field h_at)))) (c.make-2.ensures.grows.nodes.keeps c.args.to (of_object y) (c.not_null.ensures.grows.nodes.keeps c.args.to (of_object y) (c.make.ensures.grows.nodes.keeps c.args.to (of_object y) h_to)))))))) c.make-5.ensures.node

pub returns-clause-grows : goal.returns-clause-grows
returns-clause-grows c = (extends-trans c.args.table.now c.make-4.new.self c.make-5.new.self (extends-trans c.args.table.now c.make-3.new.self c.make-4.new.self (extends-trans c.args.table.now c.make-2.new.self c.make-3.new.self (extends-trans c.args.table.now c.not_null.new.table c.make-2.new.self (extends-trans c.args.table.now c.make.new.self c.not_null.new.table c.make.ensures.grows c.not_null.ensures.grows) c.make-2.ensures.grows) c.make-3.ensures.grows) c.make-4.ensures.grows) c.make-5.ensures.grows)
