-- Written by tools/reach.py.
use Rattle.std.proofs.Common.{slice_get}
use Rattle.jh_form.specs.Tree.{of_truth}
use Rattle.jh_form.specs.Tree as t
use Rattle.jh_arena.specs.table.Nodes.{nodes}
use Rattle.jh_arena.proofs.table.Listed.{extends-trans}
use Rattle.jh_path_formulas.proofs.NodeSteps.{list-there, list-of, list-grows, unlisted, holds-formula}
use Rattle.jh_path_formulas.specs.Ways.{listed, differ, way, list_at}
use Rattle.jh_reach.proofs.nine.ways_behind.Goals as goal

pub ways_meet-requires : goal.ways_meet-requires
ways_meet-requires c = record { list = list-there c.args.table.now c.args.list (listed (unlisted (list_at c.args.table.now c.args.list))) (list-of c.args.table.now c.args.list c.requires.list) }

pub returns-in_err-premise-clause-grows : goal.returns-in_err-premise-clause-grows
returns-in_err-premise-clause-grows c = c.ways_meet.ensures.grows

pub either_way-requires : goal.either_way-requires
either_way-requires c = record { list = list-there c.ways_meet.new.table c.args.list (listed (unlisted (list_at c.args.table.now c.args.list))) (list-grows c.args.table.now c.ways_meet.new.table c.args.list (listed (unlisted (list_at c.args.table.now c.args.list))) c.ways_meet.ensures.grows (list-of c.args.table.now c.args.list c.requires.list)) }

pub returns-in_err-end-clause-grows : goal.returns-in_err-end-clause-grows
returns-in_err-end-clause-grows c = (extends-trans c.args.table.now c.ways_meet.new.table c.either_way.new.table c.ways_meet.ensures.grows c.either_way.ensures.grows)

pub follows_for_three-requires : goal.follows_for_three-requires
follows_for_three-requires c = record { premise = holds-formula (slice_get (nodes c.either_way.new.table) c.in_ok-premise.premise) (t.and (way (unlisted (list_at c.args.table.now c.args.list)) (t.bound 2) (t.bound 0)) (t.and (way (unlisted (list_at c.args.table.now c.args.list)) (t.bound 1) (t.bound 0)) (differ (t.bound 0) t.null))) (c.either_way.ensures.grows.nodes.keeps c.in_ok-premise.premise (of_truth (t.and (way (unlisted (list_at c.args.table.now c.args.list)) (t.bound 2) (t.bound 0)) (t.and (way (unlisted (list_at c.args.table.now c.args.list)) (t.bound 1) (t.bound 0)) (differ (t.bound 0) t.null)))) (c.in_ok-premise.ensures.node (unlisted (list_at c.args.table.now c.args.list)) (list-of c.args.table.now c.args.list c.requires.list))); end = holds-formula (slice_get (nodes c.either_way.new.table) c.in_ok-end.end) (t.or (way (unlisted (list_at c.args.table.now c.args.list)) (t.bound 2) (t.bound 1)) (way (unlisted (list_at c.args.table.now c.args.list)) (t.bound 1) (t.bound 2))) (c.in_ok-end.ensures.node (unlisted (list_at c.args.table.now c.args.list)) (list-grows c.args.table.now c.ways_meet.new.table c.args.list (listed (unlisted (list_at c.args.table.now c.args.list))) c.ways_meet.ensures.grows (list-of c.args.table.now c.args.list c.requires.list))) }

pub returns-clause-node : goal.returns-clause-node
returns-clause-node c = λ fs h_list. c.follows_for_three.ensures.node (t.and (way fs (t.bound 2) (t.bound 0)) (t.and (way fs (t.bound 1) (t.bound 0)) (differ (t.bound 0) t.null))) (t.or (way fs (t.bound 2) (t.bound 1)) (way fs (t.bound 1) (t.bound 2))) (c.either_way.ensures.grows.nodes.keeps c.in_ok-premise.premise (of_truth (t.and (way fs (t.bound 2) (t.bound 0)) (t.and (way fs (t.bound 1) (t.bound 0)) (differ (t.bound 0) t.null)))) (c.in_ok-premise.ensures.node fs h_list)) (c.in_ok-end.ensures.node fs (list-grows c.args.table.now c.ways_meet.new.table c.args.list (listed fs) c.ways_meet.ensures.grows h_list))

pub returns-clause-grows : goal.returns-clause-grows
returns-clause-grows c = (extends-trans c.args.table.now c.either_way.new.table c.follows_for_three.new.table (extends-trans c.args.table.now c.ways_meet.new.table c.either_way.new.table c.ways_meet.ensures.grows c.either_way.ensures.grows) c.follows_for_three.ensures.grows)
