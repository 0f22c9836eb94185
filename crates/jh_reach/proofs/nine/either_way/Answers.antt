-- Written by tools/reach.py.
use Rattle.jh_form.specs.Tree.{of_truth}
use Rattle.jh_form.specs.Tree as t
use Rattle.jh_arena.specs.table.Nodes.{nodes, tree_in}
use Rattle.jh_arena.specs.declared.table.shapes.Shape.TheVariants as s
use Rattle.jh_arena.proofs.table.NodeSteps.{fits-Or, tree-Or}
use Rattle.jh_arena.proofs.table.Listed.{extends-trans}
use Rattle.jh_import.proofs.entering.Fields.{made-as}
use Rattle.jh_path_formulas.proofs.NodeSteps.{list-there, list-of, list-grows, unlisted}
use Rattle.jh_path_formulas.specs.Ways.{listed, way, list_at}
use Rattle.jh_reach.proofs.nine.either_way.Goals as goal

pub way-requires : goal.way-requires
way-requires c = record { list = list-there c.args.table.now c.args.list (listed (unlisted (list_at c.args.table.now c.args.list))) (list-of c.args.table.now c.args.list c.requires.list) }

pub returns-in_err-on-clause-grows : goal.returns-in_err-on-clause-grows
returns-in_err-on-clause-grows c = c.way.ensures.grows

pub way-requires-2 : goal.way-requires-2
way-requires-2 c = record { list = list-there c.way.new.table c.args.list (listed (unlisted (list_at c.args.table.now c.args.list))) (list-grows c.args.table.now c.way.new.table c.args.list (listed (unlisted (list_at c.args.table.now c.args.list))) c.way.ensures.grows (list-of c.args.table.now c.args.list c.requires.list)) }

pub returns-in_err-back-clause-grows : goal.returns-in_err-back-clause-grows
returns-in_err-back-clause-grows c = (extends-trans c.args.table.now c.way.new.table c.way-2.new.table c.way.ensures.grows c.way-2.ensures.grows)

pub make-requires : goal.make-requires
make-requires c = fits-Or c.way-2.new.table.pools (nodes c.way-2.new.table) c.in_ok-on.on c.in_ok-back.back (way (unlisted (list_at c.args.table.now c.args.list)) (t.bound c.args.left) (t.bound c.args.right)) (way (unlisted (list_at c.args.table.now c.args.list)) (t.bound c.args.right) (t.bound c.args.left)) (c.way-2.ensures.grows.nodes.keeps c.in_ok-on.on (of_truth (way (unlisted (list_at c.args.table.now c.args.list)) (t.bound c.args.left) (t.bound c.args.right))) (c.in_ok-on.ensures.node (unlisted (list_at c.args.table.now c.args.list)) (list-of c.args.table.now c.args.list c.requires.list))) (c.in_ok-back.ensures.node (unlisted (list_at c.args.table.now c.args.list)) (list-grows c.args.table.now c.way.new.table c.args.list (listed (unlisted (list_at c.args.table.now c.args.list))) c.way.ensures.grows (list-of c.args.table.now c.args.list c.requires.list)))

pub returns-clause-node : goal.returns-clause-node
returns-clause-node c = λ fs h_list. made-as (nodes c.make.new.self) c.make.result (tree_in c.way-2.new.table (s.Or c.in_ok-on.on c.in_ok-back.back)) (of_truth (t.or (way fs (t.bound c.args.left) (t.bound c.args.right)) (way fs (t.bound c.args.right) (t.bound c.args.left)))) (tree-Or c.way-2.new.table.pools (nodes c.way-2.new.table) c.in_ok-on.on c.in_ok-back.back (way fs (t.bound c.args.left) (t.bound c.args.right)) (way fs (t.bound c.args.right) (t.bound c.args.left)) (c.way-2.ensures.grows.nodes.keeps c.in_ok-on.on (of_truth (way fs (t.bound c.args.left) (t.bound c.args.right))) (c.in_ok-on.ensures.node fs h_list)) (c.in_ok-back.ensures.node fs (list-grows c.args.table.now c.way.new.table c.args.list (listed fs) c.way.ensures.grows h_list))) c.make.ensures.node

pub returns-clause-grows : goal.returns-clause-grows
returns-clause-grows c = (extends-trans c.args.table.now c.way-2.new.table c.make.new.self (extends-trans c.args.table.now c.way.new.table c.way-2.new.table c.way.ensures.grows c.way-2.ensures.grows) c.make.ensures.grows)
