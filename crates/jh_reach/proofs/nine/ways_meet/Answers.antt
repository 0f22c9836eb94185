-- Written by tools/reach.py.
use Rattle.std.proofs.Common.{ap, ◌∙◌, Some, slice_get}
use Rattle.jh_form.specs.Tree.{of_truth}
use Rattle.jh_form.specs.Tree as t
use Rattle.jh_arena.specs.table.Nodes.{nodes, tree_in}
use Rattle.jh_arena.specs.declared.table.shapes.Shape.TheVariants as s
use Rattle.jh_arena.proofs.table.NodeSteps.{fits-Bound, tree-Bound, fits-And, tree-And}
use Rattle.jh_arena.proofs.table.Listed.{extends-trans}
use Rattle.jh_import.proofs.entering.Fields.{made-as}
use Rattle.jh_path_formulas.proofs.NodeSteps.{list-there, list-of, list-grows, unlisted, holds-object}
use Rattle.jh_path_formulas.specs.Ways.{listed, differ, way, list_at}
use Rattle.jh_reach.proofs.nine.ways_meet.Goals as goal

pub way-requires : goal.way-requires
way-requires c = record { list = list-there c.args.table.now c.args.list (listed (unlisted (list_at c.args.table.now c.args.list))) (list-of c.args.table.now c.args.list c.requires.list) }

pub returns-in_err-first-clause-grows : goal.returns-in_err-first-clause-grows
returns-in_err-first-clause-grows c = c.way.ensures.grows

pub way-requires-2 : goal.way-requires-2
way-requires-2 c = record { list = list-there c.way.new.table c.args.list (listed (unlisted (list_at c.args.table.now c.args.list))) (list-grows c.args.table.now c.way.new.table c.args.list (listed (unlisted (list_at c.args.table.now c.args.list))) c.way.ensures.grows (list-of c.args.table.now c.args.list c.requires.list)) }

pub returns-in_err-second-clause-grows : goal.returns-in_err-second-clause-grows
returns-in_err-second-clause-grows c = (extends-trans c.args.table.now c.way.new.table c.way-2.new.table c.way.ensures.grows c.way-2.ensures.grows)

pub make-requires : goal.make-requires
make-requires c = fits-Bound c.way-2.new.table.pools (nodes c.way-2.new.table) 0

pub returns-in_err-object-clause-grows : goal.returns-in_err-object-clause-grows
returns-in_err-object-clause-grows c = (extends-trans c.args.table.now c.way-2.new.table c.make.new.self (extends-trans c.args.table.now c.way.new.table c.way-2.new.table c.way.ensures.grows c.way-2.ensures.grows) c.make.ensures.grows)

pub not_null-requires : goal.not_null-requires
not_null-requires c = record { object = holds-object (slice_get (nodes c.make.new.self) c.in_ok-object.object) (t.bound 0) (c.in_ok-object.ensures.node ∙ ap (λ z. Some z) (tree-Bound c.way-2.new.table.pools (nodes c.way-2.new.table) 0)) }

pub returns-in_err-differs-clause-grows : goal.returns-in_err-differs-clause-grows
returns-in_err-differs-clause-grows c = (extends-trans c.args.table.now c.make.new.self c.not_null.new.table (extends-trans c.args.table.now c.way-2.new.table c.make.new.self (extends-trans c.args.table.now c.way.new.table c.way-2.new.table c.way.ensures.grows c.way-2.ensures.grows) c.make.ensures.grows) c.not_null.ensures.grows)

pub make-requires-2 : goal.make-requires-2
make-requires-2 c = fits-And c.not_null.new.table.pools (nodes c.not_null.new.table) c.in_ok-second.second c.in_ok-differs.differs (way (unlisted (list_at c.args.table.now c.args.list)) (t.bound 1) (t.bound 0)) (differ (t.bound 0) t.null) (c.not_null.ensures.grows.nodes.keeps c.in_ok-second.second (of_truth (way (unlisted (list_at c.args.table.now c.args.list)) (t.bound 1) (t.bound 0))) (c.make.ensures.grows.nodes.keeps c.in_ok-second.second (of_truth (way (unlisted (list_at c.args.table.now c.args.list)) (t.bound 1) (t.bound 0))) (c.in_ok-second.ensures.node (unlisted (list_at c.args.table.now c.args.list)) (list-grows c.args.table.now c.way.new.table c.args.list (listed (unlisted (list_at c.args.table.now c.args.list))) c.way.ensures.grows (list-of c.args.table.now c.args.list c.requires.list))))) (c.in_ok-differs.ensures.node (t.bound 0) (c.in_ok-object.ensures.node ∙ ap (λ z. Some z) (tree-Bound c.way-2.new.table.pools (nodes c.way-2.new.table) 0)))

pub returns-in_err-rest-clause-grows : goal.returns-in_err-rest-clause-grows
returns-in_err-rest-clause-grows c = (extends-trans c.args.table.now c.not_null.new.table c.make-2.new.self (extends-trans c.args.table.now c.make.new.self c.not_null.new.table (extends-trans c.args.table.now c.way-2.new.table c.make.new.self (extends-trans c.args.table.now c.way.new.table c.way-2.new.table c.way.ensures.grows c.way-2.ensures.grows) c.make.ensures.grows) c.not_null.ensures.grows) c.make-2.ensures.grows)

pub make-requires-3 : goal.make-requires-3
make-requires-3 c = fits-And c.make-2.new.self.pools (nodes c.make-2.new.self) c.in_ok-first.first c.in_ok-rest.rest (way (unlisted (list_at c.args.table.now c.args.list)) (t.bound 2) (t.bound 0)) (t.and (way (unlisted (list_at c.args.table.now c.args.list)) (t.bound 1) (t.bound 0)) (differ (t.bound 0) t.null)) (c.make-2.ensures.grows.nodes.keeps c.in_ok-first.first (of_truth (way (unlisted (list_at c.args.table.now c.args.list)) (t.bound 2) (t.bound 0))) (c.not_null.ensures.grows.nodes.keeps c.in_ok-first.first (of_truth (way (unlisted (list_at c.args.table.now c.args.list)) (t.bound 2) (t.bound 0))) (c.make.ensures.grows.nodes.keeps c.in_ok-first.first (of_truth (way (unlisted (list_at c.args.table.now c.args.list)) (t.bound 2) (t.bound 0))) (c.way-2.ensures.grows.nodes.keeps c.in_ok-first.first (of_truth (way (unlisted (list_at c.args.table.now c.args.list)) (t.bound 2) (t.bound 0))) (c.in_ok-first.ensures.node (unlisted (list_at c.args.table.now c.args.list)) (list-of c.args.table.now c.args.list c.requires.list)))))) (c.in_ok-rest.ensures.node ∙ ap (λ z. Some z) (tree-And c.not_null.new.table.pools (nodes c.not_null.new.table) c.in_ok-second.second c.in_ok-differs.differs (way (unlisted (list_at c.args.table.now c.args.list)) (t.bound 1) (t.bound 0)) (differ (t.bound 0) t.null) (c.not_null.ensures.grows.nodes.keeps c.in_ok-second.second (of_truth (way (unlisted (list_at c.args.table.now c.args.list)) (t.bound 1) (t.bound 0))) (c.make.ensures.grows.nodes.keeps c.in_ok-second.second (of_truth (way (unlisted (list_at c.args.table.now c.args.list)) (t.bound 1) (t.bound 0))) (c.in_ok-second.ensures.node (unlisted (list_at c.args.table.now c.args.list)) (list-grows c.args.table.now c.way.new.table c.args.list (listed (unlisted (list_at c.args.table.now c.args.list))) c.way.ensures.grows (list-of c.args.table.now c.args.list c.requires.list))))) (c.in_ok-differs.ensures.node (t.bound 0) (c.in_ok-object.ensures.node ∙ ap (λ z. Some z) (tree-Bound c.way-2.new.table.pools (nodes c.way-2.new.table) 0)))))

pub returns-clause-node : goal.returns-clause-node
returns-clause-node c = λ fs h_list. made-as (nodes c.make-3.new.self) c.make-3.result (tree_in c.make-2.new.self (s.And c.in_ok-first.first c.in_ok-rest.rest)) (of_truth (t.and (way fs (t.bound 2) (t.bound 0)) (t.and (way fs (t.bound 1) (t.bound 0)) (differ (t.bound 0) t.null)))) (tree-And c.make-2.new.self.pools (nodes c.make-2.new.self) c.in_ok-first.first c.in_ok-rest.rest (way fs (t.bound 2) (t.bound 0)) (t.and (way fs (t.bound 1) (t.bound 0)) (differ (t.bound 0) t.null)) (c.make-2.ensures.grows.nodes.keeps c.in_ok-first.first (of_truth (way fs (t.bound 2) (t.bound 0))) (c.not_null.ensures.grows.nodes.keeps c.in_ok-first.first (of_truth (way fs (t.bound 2) (t.bound 0))) (c.make.ensures.grows.nodes.keeps c.in_ok-first.first (of_truth (way fs (t.bound 2) (t.bound 0))) (c.way-2.ensures.grows.nodes.keeps c.in_ok-first.first (of_truth (way fs (t.bound 2) (t.bound 0))) (c.in_ok-first.ensures.node fs h_list))))) (c.in_ok-rest.ensures.node ∙ ap (λ z. Some z) (tree-And c.not_null.new.table.pools (nodes c.not_null.new.table) c.in_ok-second.second c.in_ok-differs.differs (way fs (t.bound 1) (t.bound 0)) (differ (t.bound 0) t.null) (c.not_null.ensures.grows.nodes.keeps c.in_ok-second.second (of_truth (way fs (t.bound 1) (t.bound 0))) (c.make.ensures.grows.nodes.keeps c.in_ok-second.second (of_truth (way fs (t.bound 1) (t.bound 0))) (c.in_ok-second.ensures.node fs (list-grows c.args.table.now c.way.new.table c.args.list (listed fs) c.way.ensures.grows h_list)))) (c.in_ok-differs.ensures.node (t.bound 0) (c.in_ok-object.ensures.node ∙ ap (λ z. Some z) (tree-Bound c.way-2.new.table.pools (nodes c.way-2.new.table) 0)))))) c.make-3.ensures.node

pub returns-clause-grows : goal.returns-clause-grows
returns-clause-grows c = (extends-trans c.args.table.now c.make-2.new.self c.make-3.new.self (extends-trans c.args.table.now c.not_null.new.table c.make-2.new.self (extends-trans c.args.table.now c.make.new.self c.not_null.new.table (extends-trans c.args.table.now c.way-2.new.table c.make.new.self (extends-trans c.args.table.now c.way.new.table c.way-2.new.table c.way.ensures.grows c.way-2.ensures.grows) c.make.ensures.grows) c.not_null.ensures.grows) c.make-2.ensures.grows) c.make-3.ensures.grows)
