-- Written by tools/reach.py.
use Rattle.std.proofs.Common.{ap, ◌∙◌, Some, slice_get}
use Rattle.jh_form.specs.Tree.{of_object, of_truth}
use Rattle.jh_form.specs.Tree as t
use Rattle.jh_arena.specs.table.Entries.{the_object}
use Rattle.jh_arena.specs.table.Nodes.{nodes, tree_in}
use Rattle.jh_arena.specs.declared.table.shapes.Shape.TheVariants as s
use Rattle.jh_arena.proofs.table.NodeSteps.{fits-And, tree-And, fits-Implies, tree-Implies}
use Rattle.jh_arena.proofs.table.Listed.{extends-trans}
use Rattle.jh_import.proofs.entering.Fields.{fits-listed-Reach, tree-listed-Reach, made-as}
use Rattle.jh_path_formulas.proofs.NodeSteps.{list-of, list-grows, unlisted}
use Rattle.jh_path_formulas.specs.Ways.{listed, list_at}
use Rattle.jh_path_formulas.proofs.ways.stops_at.Goals as goal

pub make-requires : goal.make-requires
make-requires c = fits-listed-Reach c.args.table.now c.args.list c.args.from c.args.to (listed (unlisted (list_at c.args.table.now c.args.list))) (the_object (slice_get (nodes c.args.table.now) c.args.from)) (the_object (slice_get (nodes c.args.table.now) c.args.to)) (list-of c.args.table.now c.args.list c.requires.list) c.requires.from c.requires.to

pub returns-in_err-on-clause-grows : goal.returns-in_err-on-clause-grows
returns-in_err-on-clause-grows c = c.make.ensures.grows

pub make-requires-2 : goal.make-requires-2
make-requires-2 c = fits-listed-Reach c.make.new.self c.args.list c.args.from c.args.at (listed (unlisted (list_at c.args.table.now c.args.list))) (the_object (slice_get (nodes c.args.table.now) c.args.from)) (the_object (slice_get (nodes c.args.table.now) c.args.at)) (list-grows c.args.table.now c.make.new.self c.args.list (listed (unlisted (list_at c.args.table.now c.args.list))) c.make.ensures.grows (list-of c.args.table.now c.args.list c.requires.list)) (c.make.ensures.grows.nodes.keeps c.args.from (of_object (the_object (slice_get (nodes c.args.table.now) c.args.from))) c.requires.from) (c.make.ensures.grows.nodes.keeps c.args.at (of_object (the_object (slice_get (nodes c.args.table.now) c.args.at))) c.requires.at)

pub returns-in_err-before-clause-grows : goal.returns-in_err-before-clause-grows
returns-in_err-before-clause-grows c = (extends-trans c.args.table.now c.make.new.self c.make-2.new.self c.make.ensures.grows c.make-2.ensures.grows)

pub make-requires-3 : goal.make-requires-3
make-requires-3 c = fits-listed-Reach c.make-2.new.self c.args.list c.args.to c.args.at (listed (unlisted (list_at c.args.table.now c.args.list))) (the_object (slice_get (nodes c.args.table.now) c.args.to)) (the_object (slice_get (nodes c.args.table.now) c.args.at)) (list-grows c.make.new.self c.make-2.new.self c.args.list (listed (unlisted (list_at c.args.table.now c.args.list))) c.make-2.ensures.grows (list-grows c.args.table.now c.make.new.self c.args.list (listed (unlisted (list_at c.args.table.now c.args.list))) c.make.ensures.grows (list-of c.args.table.now c.args.list c.requires.list))) (c.make-2.ensures.grows.nodes.keeps c.args.to (of_object (the_object (slice_get (nodes c.args.table.now) c.args.to))) (c.make.ensures.grows.nodes.keeps c.args.to (of_object (the_object (slice_get (nodes c.args.table.now) c.args.to))) c.requires.to)) (c.make-2.ensures.grows.nodes.keeps c.args.at (of_object (the_object (slice_get (nodes c.args.table.now) c.args.at))) (c.make.ensures.grows.nodes.keeps c.args.at (of_object (the_object (slice_get (nodes c.args.table.now) c.args.at))) c.requires.at))

pub returns-in_err-after-clause-grows : goal.returns-in_err-after-clause-grows
returns-in_err-after-clause-grows c = (extends-trans c.args.table.now c.make-2.new.self c.make-3.new.self (extends-trans c.args.table.now c.make.new.self c.make-2.new.self c.make.ensures.grows c.make-2.ensures.grows) c.make-3.ensures.grows)

pub make-requires-4 : goal.make-requires-4
make-requires-4 c = fits-Implies c.make-3.new.self.pools (nodes c.make-3.new.self) c.in_ok-before.before c.in_ok-after.after (t.reach (listed (unlisted (list_at c.args.table.now c.args.list))) (the_object (slice_get (nodes c.args.table.now) c.args.from)) (the_object (slice_get (nodes c.args.table.now) c.args.at))) (t.reach (listed (unlisted (list_at c.args.table.now c.args.list))) (the_object (slice_get (nodes c.args.table.now) c.args.to)) (the_object (slice_get (nodes c.args.table.now) c.args.at))) (c.make-3.ensures.grows.nodes.keeps c.in_ok-before.before (of_truth (t.reach (listed (unlisted (list_at c.args.table.now c.args.list))) (the_object (slice_get (nodes c.args.table.now) c.args.from)) (the_object (slice_get (nodes c.args.table.now) c.args.at)))) (c.in_ok-before.ensures.node ∙ ap (λ z. Some z) (tree-listed-Reach c.make.new.self c.args.list c.args.from c.args.at (listed (unlisted (list_at c.args.table.now c.args.list))) (the_object (slice_get (nodes c.args.table.now) c.args.from)) (the_object (slice_get (nodes c.args.table.now) c.args.at)) (list-grows c.args.table.now c.make.new.self c.args.list (listed (unlisted (list_at c.args.table.now c.args.list))) c.make.ensures.grows (list-of c.args.table.now c.args.list c.requires.list)) (c.make.ensures.grows.nodes.keeps c.args.from (of_object (the_object (slice_get (nodes c.args.table.now) c.args.from))) c.requires.from) (c.make.ensures.grows.nodes.keeps c.args.at (of_object (the_object (slice_get (nodes c.args.table.now) c.args.at))) c.requires.at)))) (c.in_ok-after.ensures.node ∙ ap (λ z. Some z) (tree-listed-Reach c.make-2.new.self c.args.list c.args.to c.args.at (listed (unlisted (list_at c.args.table.now c.args.list))) (the_object (slice_get (nodes c.args.table.now) c.args.to)) (the_object (slice_get (nodes c.args.table.now) c.args.at)) (list-grows c.make.new.self c.make-2.new.self c.args.list (listed (unlisted (list_at c.args.table.now c.args.list))) c.make-2.ensures.grows (list-grows c.args.table.now c.make.new.self c.args.list (listed (unlisted (list_at c.args.table.now c.args.list))) c.make.ensures.grows (list-of c.args.table.now c.args.list c.requires.list))) (c.make-2.ensures.grows.nodes.keeps c.args.to (of_object (the_object (slice_get (nodes c.args.table.now) c.args.to))) (c.make.ensures.grows.nodes.keeps c.args.to (of_object (the_object (slice_get (nodes c.args.table.now) c.args.to))) c.requires.to)) (c.make-2.ensures.grows.nodes.keeps c.args.at (of_object (the_object (slice_get (nodes c.args.table.now) c.args.at))) (c.make.ensures.grows.nodes.keeps c.args.at (of_object (the_object (slice_get (nodes c.args.table.now) c.args.at))) c.requires.at))))

pub returns-in_err-stops-clause-grows : goal.returns-in_err-stops-clause-grows
returns-in_err-stops-clause-grows c = (extends-trans c.args.table.now c.make-3.new.self c.make-4.new.self (extends-trans c.args.table.now c.make-2.new.self c.make-3.new.self (extends-trans c.args.table.now c.make.new.self c.make-2.new.self c.make.ensures.grows c.make-2.ensures.grows) c.make-3.ensures.grows) c.make-4.ensures.grows)

pub make-requires-5 : goal.make-requires-5
make-requires-5 c = fits-And c.make-4.new.self.pools (nodes c.make-4.new.self) c.in_ok-on.on c.in_ok-stops.stops (t.reach (listed (unlisted (list_at c.args.table.now c.args.list))) (the_object (slice_get (nodes c.args.table.now) c.args.from)) (the_object (slice_get (nodes c.args.table.now) c.args.to))) (t.implies (t.reach (listed (unlisted (list_at c.args.table.now c.args.list))) (the_object (slice_get (nodes c.args.table.now) c.args.from)) (the_object (slice_get (nodes c.args.table.now) c.args.at))) (t.reach (listed (unlisted (list_at c.args.table.now c.args.list))) (the_object (slice_get (nodes c.args.table.now) c.args.to)) (the_object (slice_get (nodes c.args.table.now) c.args.at)))) (c.make-4.ensures.grows.nodes.keeps c.in_ok-on.on (of_truth (t.reach (listed (unlisted (list_at c.args.table.now c.args.list))) (the_object (slice_get (nodes c.args.table.now) c.args.from)) (the_object (slice_get (nodes c.args.table.now) c.args.to)))) (c.make-3.ensures.grows.nodes.keeps c.in_ok-on.on (of_truth (t.reach (listed (unlisted (list_at c.args.table.now c.args.list))) (the_object (slice_get (nodes c.args.table.now) c.args.from)) (the_object (slice_get (nodes c.args.table.now) c.args.to)))) (c.make-2.ensures.grows.nodes.keeps c.in_ok-on.on (of_truth (t.reach (listed (unlisted (list_at c.args.table.now c.args.list))) (the_object (slice_get (nodes c.args.table.now) c.args.from)) (the_object (slice_get (nodes c.args.table.now) c.args.to)))) (c.in_ok-on.ensures.node ∙ ap (λ z. Some z) (tree-listed-Reach c.args.table.now c.args.list c.args.from c.args.to (listed (unlisted (list_at c.args.table.now c.args.list))) (the_object (slice_get (nodes c.args.table.now) c.args.from)) (the_object (slice_get (nodes c.args.table.now) c.args.to)) (list-of c.args.table.now c.args.list c.requires.list) c.requires.from c.requires.to))))) (c.in_ok-stops.ensures.node ∙ ap (λ z. Some z) (tree-Implies c.make-3.new.self.pools (nodes c.make-3.new.self) c.in_ok-before.before c.in_ok-after.after (t.reach (listed (unlisted (list_at c.args.table.now c.args.list))) (the_object (slice_get (nodes c.args.table.now) c.args.from)) (the_object (slice_get (nodes c.args.table.now) c.args.at))) (t.reach (listed (unlisted (list_at c.args.table.now c.args.list))) (the_object (slice_get (nodes c.args.table.now) c.args.to)) (the_object (slice_get (nodes c.args.table.now) c.args.at))) (c.make-3.ensures.grows.nodes.keeps c.in_ok-before.before (of_truth (t.reach (listed (unlisted (list_at c.args.table.now c.args.list))) (the_object (slice_get (nodes c.args.table.now) c.args.from)) (the_object (slice_get (nodes c.args.table.now) c.args.at)))) (c.in_ok-before.ensures.node ∙ ap (λ z. Some z) (tree-listed-Reach c.make.new.self c.args.list c.args.from c.args.at (listed (unlisted (list_at c.args.table.now c.args.list))) (the_object (slice_get (nodes c.args.table.now) c.args.from)) (the_object (slice_get (nodes c.args.table.now) c.args.at)) (list-grows c.args.table.now c.make.new.self c.args.list (listed (unlisted (list_at c.args.table.now c.args.list))) c.make.ensures.grows (list-of c.args.table.now c.args.list c.requires.list)) (c.make.ensures.grows.nodes.keeps c.args.from (of_object (the_object (slice_get (nodes c.args.table.now) c.args.from))) c.requires.from) (c.make.ensures.grows.nodes.keeps c.args.at (of_object (the_object (slice_get (nodes c.args.table.now) c.args.at))) c.requires.at)))) (c.in_ok-after.ensures.node ∙ ap (λ z. Some z) (tree-listed-Reach c.make-2.new.self c.args.list c.args.to c.args.at (listed (unlisted (list_at c.args.table.now c.args.list))) (the_object (slice_get (nodes c.args.table.now) c.args.to)) (the_object (slice_get (nodes c.args.table.now) c.args.at)) (list-grows c.make.new.self c.make-2.new.self c.args.list (listed (unlisted (list_at c.args.table.now c.args.list))) c.make-2.ensures.grows (list-grows c.args.table.now c.make.new.self c.args.list (listed (unlisted (list_at c.args.table.now c.args.list))) c.make.ensures.grows (list-of c.args.table.now c.args.list c.requires.list))) (c.make-2.ensures.grows.nodes.keeps c.args.to (of_object (the_object (slice_get (nodes c.args.table.now) c.args.to))) (c.make.ensures.grows.nodes.keeps c.args.to (of_object (the_object (slice_get (nodes c.args.table.now) c.args.to))) c.requires.to)) (c.make-2.ensures.grows.nodes.keeps c.args.at (of_object (the_object (slice_get (nodes c.args.table.now) c.args.at))) (c.make.ensures.grows.nodes.keeps c.args.at (of_object (the_object (slice_get (nodes c.args.table.now) c.args.at))) c.requires.at))))))

pub returns-clause-node : goal.returns-clause-node
returns-clause-node c = λ fs a x y h_list h_at h_from h_to. made-as (nodes c.make-5.new.self) c.make-5.result (tree_in c.make-4.new.self (s.And c.in_ok-on.on c.in_ok-stops.stops)) (of_truth (t.and (t.reach (listed fs) x y) (t.implies (t.reach (listed fs) x a) (t.reach (listed fs) y a)))) (tree-And c.make-4.new.self.pools (nodes c.make-4.new.self) c.in_ok-on.on c.in_ok-stops.stops (t.reach (listed fs) x y) (t.implies (t.reach (listed fs) x a) (t.reach (listed fs) y a)) (c.make-4.ensures.grows.nodes.keeps c.in_ok-on.on (of_truth (t.reach (listed fs) x y)) (c.make-3.ensures.grows.nodes.keeps c.in_ok-on.on (of_truth (t.reach (listed fs) x y)) (c.make-2.ensures.grows.nodes.keeps c.in_ok-on.on (of_truth (t.reach (listed fs) x y)) (c.in_ok-on.ensures.node ∙ ap (λ z. Some z) (tree-listed-Reach c.args.table.now c.args.list c.args.from c.args.to (listed fs) x y h_list h_from h_to))))) (c.in_ok-stops.ensures.node ∙ ap (λ z. Some z) (tree-Implies c.make-3.new.self.pools (nodes c.make-3.new.self) c.in_ok-before.before c.in_ok-after.after (t.reach (listed fs) x a) (t.reach (listed fs) y a) (c.make-3.ensures.grows.nodes.keeps c.in_ok-before.before (of_truth (t.reach (listed fs) x a)) (c.in_ok-before.ensures.node ∙ ap (λ z. Some z) (tree-listed-Reach c.make.new.self c.args.list c.args.from c.args.at (listed fs) x a (list-grows c.args.table.now c.make.new.self c.args.list (listed fs) c.make.ensures.grows h_list) (c.make.ensures.grows.nodes.keeps c.args.from (of_object x) h_from) (c.make.ensures.grows.nodes.keeps c.args.at (of_object a) h_at)))) (c.in_ok-after.ensures.node ∙ ap (λ z. Some z) (tree-listed-Reach c.make-2.new.self c.args.list c.args.to c.args.at (listed fs) y a (list-grows c.make.new.self c.make-2.new.self c.args.list (listed fs) c.make-2.ensures.grows (list-grows c.args.table.now c.make.new.self c.args.list (listed fs) c.make.ensures.grows h_list)) (c.make-2.ensures.grows.nodes.keeps c.args.to (of_object y) (c.make.ensures.grows.nodes.keeps c.args.to (of_object y) h_to)) (c.make-2.ensures.grows.nodes.keeps c.args.at (of_object a) (c.make.ensures.grows.nodes.keeps c.args.at (of_object a) h_at))))))) c.make-5.ensures.node

pub returns-clause-grows : goal.returns-clause-grows
returns-clause-grows c = (extends-trans c.args.table.now c.make-4.new.self c.make-5.new.self (extends-trans c.args.table.now c.make-3.new.self c.make-4.new.self (extends-trans c.args.table.now c.make-2.new.self c.make-3.new.self (extends-trans c.args.table.now c.make.new.self c.make-2.new.self c.make.ensures.grows c.make-2.ensures.grows) c.make-3.ensures.grows) c.make-4.ensures.grows) c.make-5.ensures.grows)
