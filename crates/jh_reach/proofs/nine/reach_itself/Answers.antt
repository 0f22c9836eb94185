-- Written by tools/reach.py.
use Rattle.jh_form.specs.Tree.{of_truth}
use Rattle.jh_form.specs.Tree as t
use Rattle.jh_arena.specs.table.Nodes.{nodes, tree_in}
use Rattle.jh_arena.specs.declared.table.shapes.Shape.TheVariants as s
use Rattle.jh_arena.proofs.table.NodeSteps.{fits-All, tree-All}
use Rattle.jh_arena.proofs.table.Listed.{extends-trans}
use Rattle.jh_import.proofs.entering.Fields.{made-as}
use Rattle.jh_path_formulas.proofs.NodeSteps.{list-there, list-of, unlisted}
use Rattle.jh_path_formulas.specs.Ways.{listed, way, list_at}
use Rattle.jh_reach.proofs.nine.reach_itself.Goals as goal

pub way-requires : goal.way-requires
way-requires c = record { list = list-there c.args.table.now c.args.list (listed (unlisted (list_at c.args.table.now c.args.list))) (list-of c.args.table.now c.args.list c.requires.list) }

pub returns-in_err-body-clause-grows : goal.returns-in_err-body-clause-grows
returns-in_err-body-clause-grows c = c.way.ensures.grows

pub make-requires : goal.make-requires
make-requires c = fits-All c.way.new.table.pools (nodes c.way.new.table) c.in_ok-body.body (way (unlisted (list_at c.args.table.now c.args.list)) (t.bound 0) (t.bound 0)) (c.in_ok-body.ensures.node (unlisted (list_at c.args.table.now c.args.list)) (list-of c.args.table.now c.args.list c.requires.list))

pub returns-clause-node : goal.returns-clause-node
returns-clause-node c = λ fs h_list. made-as (nodes c.make.new.self) c.make.result (tree_in c.way.new.table (s.All c.in_ok-body.body)) (of_truth (t.all (way fs (t.bound 0) (t.bound 0)))) (tree-All c.way.new.table.pools (nodes c.way.new.table) c.in_ok-body.body (way fs (t.bound 0) (t.bound 0)) (c.in_ok-body.ensures.node fs h_list)) c.make.ensures.node

pub returns-clause-grows : goal.returns-clause-grows
returns-clause-grows c = (extends-trans c.args.table.now c.way.new.table c.make.new.self c.way.ensures.grows c.make.ensures.grows)
