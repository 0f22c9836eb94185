-- Written by tools/reach.py.
use Rattle.std.proofs.Common.{ap, ◌∙◌, Some}
use Rattle.jh_form.specs.Tree.{of_object, of_truth}
use Rattle.jh_form.specs.Tree as t
use Rattle.jh_arena.specs.table.Nodes.{nodes, tree_in}
use Rattle.jh_arena.specs.declared.table.shapes.Shape.TheVariants as s
use Rattle.jh_arena.proofs.table.NodeSteps.{fits-Bound, tree-Bound}
use Rattle.jh_arena.proofs.table.Listed.{extends-trans}
use Rattle.jh_import.proofs.entering.Fields.{fits-listed-Reach, tree-listed-Reach, made-as}
use Rattle.jh_path_formulas.proofs.NodeSteps.{list-of, list-grows, unlisted}
use Rattle.jh_path_formulas.specs.Ways.{listed, list_at}
use Rattle.jh_reach.proofs.terms.way.Goals as goal

pub make-requires : goal.make-requires
make-requires c = fits-Bound c.args.table.now.pools (nodes c.args.table.now) c.args.from

pub returns-in_err-first-clause-grows : goal.returns-in_err-first-clause-grows
returns-in_err-first-clause-grows c = c.make.ensures.grows

pub make-requires-2 : goal.make-requires-2
make-requires-2 c = fits-Bound c.make.new.self.pools (nodes c.make.new.self) c.args.to

pub returns-in_err-second-clause-grows : goal.returns-in_err-second-clause-grows
returns-in_err-second-clause-grows c = (extends-trans c.args.table.now c.make.new.self c.make-2.new.self c.make.ensures.grows c.make-2.ensures.grows)

pub make-requires-3 : goal.make-requires-3
make-requires-3 c = fits-listed-Reach c.make-2.new.self c.args.list c.in_ok-first.first c.in_ok-second.second (listed (unlisted (list_at c.args.table.now c.args.list))) (t.bound c.args.from) (t.bound c.args.to) (list-grows c.make.new.self c.make-2.new.self c.args.list (listed (unlisted (list_at c.args.table.now c.args.list))) c.make-2.ensures.grows (list-grows c.args.table.now c.make.new.self c.args.list (listed (unlisted (list_at c.args.table.now c.args.list))) c.make.ensures.grows (list-of c.args.table.now c.args.list c.requires.list))) (c.make-2.ensures.grows.nodes.keeps c.in_ok-first.first (of_object (t.bound c.args.from)) (c.in_ok-first.ensures.node ∙ ap (λ z. Some z) (tree-Bound c.args.table.now.pools (nodes c.args.table.now) c.args.from))) (c.in_ok-second.ensures.node ∙ ap (λ z. Some z) (tree-Bound c.make.new.self.pools (nodes c.make.new.self) c.args.to))

pub returns-clause-node : goal.returns-clause-node
returns-clause-node c = λ fs h_list. made-as (nodes c.make-3.new.self) c.make-3.result (tree_in c.make-2.new.self (s.Reach c.args.list c.in_ok-first.first c.in_ok-second.second)) (of_truth (t.reach (listed fs) (t.bound c.args.from) (t.bound c.args.to))) (tree-listed-Reach c.make-2.new.self c.args.list c.in_ok-first.first c.in_ok-second.second (listed fs) (t.bound c.args.from) (t.bound c.args.to) (list-grows c.make.new.self c.make-2.new.self c.args.list (listed fs) c.make-2.ensures.grows (list-grows c.args.table.now c.make.new.self c.args.list (listed fs) c.make.ensures.grows h_list)) (c.make-2.ensures.grows.nodes.keeps c.in_ok-first.first (of_object (t.bound c.args.from)) (c.in_ok-first.ensures.node ∙ ap (λ z. Some z) (tree-Bound c.args.table.now.pools (nodes c.args.table.now) c.args.from))) (c.in_ok-second.ensures.node ∙ ap (λ z. Some z) (tree-Bound c.make.new.self.pools (nodes c.make.new.self) c.args.to))) c.make-3.ensures.node

pub returns-clause-grows : goal.returns-clause-grows
returns-clause-grows c = (extends-trans c.args.table.now c.make-2.new.self c.make-3.new.self (extends-trans c.args.table.now c.make.new.self c.make-2.new.self c.make.ensures.grows c.make-2.ensures.grows) c.make-3.ensures.grows)
