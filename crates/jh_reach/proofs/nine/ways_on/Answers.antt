-- Written by tools/reach.py.
use Rattle.std.proofs.Common.{ap, ◌∙◌, Some, slice_get}
use Rattle.jh_form.specs.Tree.{of_truth}
use Rattle.jh_form.specs.Tree as t
use Rattle.jh_arena.specs.table.Nodes.{nodes}
use Rattle.jh_arena.proofs.table.NodeSteps.{fits-And, tree-And}
use Rattle.jh_arena.proofs.table.Listed.{extends-trans}
use Rattle.jh_path_formulas.proofs.NodeSteps.{list-there, list-of, list-grows, unlisted, holds-formula}
use Rattle.jh_path_formulas.specs.Ways.{listed, way, list_at}
use Rattle.jh_reach.proofs.nine.ways_on.Goals as goal

pub way-requires : goal.way-requires
way-requires c = record { list = list-there c.args.table.now c.args.list (listed (unlisted (list_at c.args.table.now c.args.list))) (list-of c.args.table.now c.args.list c.requires.list) }

pub returns-in_err-first-clause-grows : goal.returns-in_err-first-clause-grows
returns-in_err-first-clause-grows c = c.way.ensures.grows

pub way-requires-2 : goal.way-requires-2
way-requires-2 c = record { list = list-there c.way.new.table c.args.list (listed (unlisted (list_at c.args.table.now c.args.list))) (list-grows c.args.table.now c.way.new.table c.args.list (listed (unlisted (list_at c.args.table.now c.args.list))) c.way.ensures.grows (list-of c.args.table.now c.args.list c.requires.list)) }

pub returns-in_err-second-clause-grows : goal.returns-in_err-second-clause-grows
returns-in_err-second-clause-grows c = (extends-trans c.args.table.now c.way.new.table c.way-2.new.table c.way.ensures.grows c.way-2.ensures.grows)

pub make-requires : goal.make-requires
make-requires c = fits-And c.way-2.new.table.pools (nodes c.way-2.new.table) c.in_ok-first.first c.in_ok-second.second (way (unlisted (list_at c.args.table.now c.args.list)) (t.bound 2) (t.bound 1)) (way (unlisted (list_at c.args.table.now c.args.list)) (t.bound 2) (t.bound 0)) (c.way-2.ensures.grows.nodes.keeps c.in_ok-first.first (of_truth (way (unlisted (list_at c.args.table.now c.args.list)) (t.bound 2) (t.bound 1))) (c.in_ok-first.ensures.node (unlisted (list_at c.args.table.now c.args.list)) (list-of c.args.table.now c.args.list c.requires.list))) (c.in_ok-second.ensures.node (unlisted (list_at c.args.table.now c.args.list)) (list-grows c.args.table.now c.way.new.table c.args.list (listed (unlisted (list_at c.args.table.now c.args.list))) c.way.ensures.grows (list-of c.args.table.now c.args.list c.requires.list)))

pub returns-in_err-premise-clause-grows : goal.returns-in_err-premise-clause-grows
returns-in_err-premise-clause-grows c = (extends-trans c.args.table.now c.way-2.new.table c.make.new.self (extends-trans c.args.table.now c.way.new.table c.way-2.new.table c.way.ensures.grows c.way-2.ensures.grows) c.make.ensures.grows)

pub either_way-requires : goal.either_way-requires
either_way-requires c = record { list = list-there c.make.new.self c.args.list (listed (unlisted (list_at c.args.table.now c.args.list))) (list-grows c.way-2.new.table c.make.new.self c.args.list (listed (unlisted (list_at c.args.table.now c.args.list))) c.make.ensures.grows (list-grows c.way.new.table c.way-2.new.table c.args.list (listed (unlisted (list_at c.args.table.now c.args.list))) c.way-2.ensures.grows (list-grows c.args.table.now c.way.new.table c.args.list (listed (unlisted (list_at c.args.table.now c.args.list))) c.way.ensures.grows (list-of c.args.table.now c.args.list c.requires.list)))) }

pub returns-in_err-end-clause-grows : goal.returns-in_err-end-clause-grows
returns-in_err-end-clause-grows c = (extends-trans c.args.table.now c.make.new.self c.either_way.new.table (extends-trans c.args.table.now c.way-2.new.table c.make.new.self (extends-trans c.args.table.now c.way.new.table c.way-2.new.table c.way.ensures.grows c.way-2.ensures.grows) c.make.ensures.grows) c.either_way.ensures.grows)

pub follows_for_three-requires : goal.follows_for_three-requires
follows_for_three-requires c = record { premise = holds-formula (slice_get (nodes c.either_way.new.table) c.in_ok-premise.premise) (t.and (way (unlisted (list_at c.args.table.now c.args.list)) (t.bound 2) (t.bound 1)) (way (unlisted (list_at c.args.table.now c.args.list)) (t.bound 2) (t.bound 0))) (c.either_way.ensures.grows.nodes.keeps c.in_ok-premise.premise (of_truth (t.and (way (unlisted (list_at c.args.table.now c.args.list)) (t.bound 2) (t.bound 1)) (way (unlisted (list_at c.args.table.now c.args.list)) (t.bound 2) (t.bound 0)))) (c.in_ok-premise.ensures.node ∙ ap (λ z. Some z) (tree-And c.way-2.new.table.pools (nodes c.way-2.new.table) c.in_ok-first.first c.in_ok-second.second (way (unlisted (list_at c.args.table.now c.args.list)) (t.bound 2) (t.bound 1)) (way (unlisted (list_at c.args.table.now c.args.list)) (t.bound 2) (t.bound 0)) (c.way-2.ensures.grows.nodes.keeps c.in_ok-first.first (of_truth (way (unlisted (list_at c.args.table.now c.args.list)) (t.bound 2) (t.bound 1))) (c.in_ok-first.ensures.node (unlisted (list_at c.args.table.now c.args.list)) (list-of c.args.table.now c.args.list c.requires.list))) (c.in_ok-second.ensures.node (unlisted (list_at c.args.table.now c.args.list)) (list-grows c.args.table.now c.way.new.table c.args.list (listed (unlisted (list_at c.args.table.now c.args.list))) c.way.ensures.grows (list-of c.args.table.now c.args.list c.requires.list)))))); end = holds-formula (slice_get (nodes c.either_way.new.table) c.in_ok-end.end) (t.or (way (unlisted (list_at c.args.table.now c.args.list)) (t.bound 1) (t.bound 0)) (way (unlisted (list_at c.args.table.now c.args.list)) (t.bound 0) (t.bound 1))) (c.in_ok-end.ensures.node (unlisted (list_at c.args.table.now c.args.list)) (list-grows c.way-2.new.table c.make.new.self c.args.list (listed (unlisted (list_at c.args.table.now c.args.list))) c.make.ensures.grows (list-grows c.way.new.table c.way-2.new.table c.args.list (listed (unlisted (list_at c.args.table.now c.args.list))) c.way-2.ensures.grows (list-grows c.args.table.now c.way.new.table c.args.list (listed (unlisted (list_at c.args.table.now c.args.list))) c.way.ensures.grows (list-of c.args.table.now c.args.list c.requires.list))))) }

pub returns-clause-node : goal.returns-clause-node
returns-clause-node c = λ fs h_list. c.follows_for_three.ensures.node (t.and (way fs (t.bound 2) (t.bound 1)) (way fs (t.bound 2) (t.bound 0))) (t.or (way fs (t.bound 1) (t.bound 0)) (way fs (t.bound 0) (t.bound 1))) (c.either_way.ensures.grows.nodes.keeps c.in_ok-premise.premise (of_truth (t.and (way fs (t.bound 2) (t.bound 1)) (way fs (t.bound 2) (t.bound 0)))) (c.in_ok-premise.ensures.node ∙ ap (λ z. Some z) (tree-And c.way-2.new.table.pools (nodes c.way-2.new.table) c.in_ok-first.first c.in_ok-second.second (way fs (t.bound 2) (t.bound 1)) (way fs (t.bound 2) (t.bound 0)) (c.way-2.ensures.grows.nodes.keeps c.in_ok-first.first (of_truth (way fs (t.bound 2) (t.bound 1))) (c.in_ok-first.ensures.node fs h_list)) (c.in_ok-second.ensures.node fs (list-grows c.args.table.now c.way.new.table c.args.list (listed fs) c.way.ensures.grows h_list))))) (c.in_ok-end.ensures.node fs (list-grows c.way-2.new.table c.make.new.self c.args.list (listed fs) c.make.ensures.grows (list-grows c.way.new.table c.way-2.new.table c.args.list (listed fs) c.way-2.ensures.grows (list-grows c.args.table.now c.way.new.table c.args.list (listed fs) c.way.ensures.grows h_list))))

pub returns-clause-grows : goal.returns-clause-grows
returns-clause-grows c = (extends-trans c.args.table.now c.either_way.new.table c.follows_for_three.new.table (extends-trans c.args.table.now c.make.new.self c.either_way.new.table (extends-trans c.args.table.now c.way-2.new.table c.make.new.self (extends-trans c.args.table.now c.way.new.table c.way-2.new.table c.way.ensures.grows c.way-2.ensures.grows) c.make.ensures.grows) c.either_way.ensures.grows) c.follows_for_three.ensures.grows)
