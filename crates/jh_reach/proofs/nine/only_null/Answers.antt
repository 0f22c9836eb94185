-- Written by tools/reach.py.
use Rattle.std.proofs.Common.{ap, ◌∙◌, Some}
use Rattle.jh_form.specs.Tree.{of_object, of_truth}
use Rattle.jh_form.specs.Tree as t
use Rattle.jh_arena.specs.table.Nodes.{nodes, tree_in}
use Rattle.jh_arena.specs.declared.table.shapes.Shape.TheVariants as s
use Rattle.jh_arena.proofs.table.NodeSteps.{fits-Bound, tree-Bound, fits-Null, tree-Null, fits-EqObject, tree-EqObject, fits-Implies, tree-Implies, fits-All, tree-All}
use Rattle.jh_arena.proofs.table.Listed.{extends-trans}
use Rattle.jh_import.proofs.entering.Fields.{fits-listed-Reach, tree-listed-Reach, made-as}
use Rattle.jh_path_formulas.proofs.NodeSteps.{list-of, list-grows, unlisted}
use Rattle.jh_path_formulas.specs.Ways.{listed, list_at}
use Rattle.jh_reach.proofs.nine.only_null.Goals as goal

pub make-requires : goal.make-requires
make-requires c = fits-Null c.args.table.now.pools (nodes c.args.table.now)

pub returns-in_err-null-clause-grows : goal.returns-in_err-null-clause-grows
returns-in_err-null-clause-grows c = c.make.ensures.grows

pub make-requires-2 : goal.make-requires-2
make-requires-2 c = fits-Bound c.make.new.self.pools (nodes c.make.new.self) 0

pub returns-in_err-object-clause-grows : goal.returns-in_err-object-clause-grows
returns-in_err-object-clause-grows c = (extends-trans c.args.table.now c.make.new.self c.make-2.new.self c.make.ensures.grows c.make-2.ensures.grows)

pub make-requires-3 : goal.make-requires-3
make-requires-3 c = fits-listed-Reach c.make-2.new.self c.args.list c.in_ok-null.null c.in_ok-object.object (listed (unlisted (list_at c.args.table.now c.args.list))) t.null (t.bound 0) (list-grows c.make.new.self c.make-2.new.self c.args.list (listed (unlisted (list_at c.args.table.now c.args.list))) c.make-2.ensures.grows (list-grows c.args.table.now c.make.new.self c.args.list (listed (unlisted (list_at c.args.table.now c.args.list))) c.make.ensures.grows (list-of c.args.table.now c.args.list c.requires.list))) (c.make-2.ensures.grows.nodes.keeps c.in_ok-null.null (of_object t.null) (c.in_ok-null.ensures.node ∙ ap (λ z. Some z) (tree-Null c.args.table.now.pools (nodes c.args.table.now)))) (c.in_ok-object.ensures.node ∙ ap (λ z. Some z) (tree-Bound c.make.new.self.pools (nodes c.make.new.self) 0))

pub returns-in_err-premise-clause-grows : goal.returns-in_err-premise-clause-grows
returns-in_err-premise-clause-grows c = (extends-trans c.args.table.now c.make-2.new.self c.make-3.new.self (extends-trans c.args.table.now c.make.new.self c.make-2.new.self c.make.ensures.grows c.make-2.ensures.grows) c.make-3.ensures.grows)

pub make-requires-4 : goal.make-requires-4
make-requires-4 c = fits-EqObject c.make-3.new.self.pools (nodes c.make-3.new.self) c.in_ok-object.object c.in_ok-null.null (t.bound 0) t.null (c.make-3.ensures.grows.nodes.keeps c.in_ok-object.object (of_object (t.bound 0)) (c.in_ok-object.ensures.node ∙ ap (λ z. Some z) (tree-Bound c.make.new.self.pools (nodes c.make.new.self) 0))) (c.make-3.ensures.grows.nodes.keeps c.in_ok-null.null (of_object t.null) (c.make-2.ensures.grows.nodes.keeps c.in_ok-null.null (of_object t.null) (c.in_ok-null.ensures.node ∙ ap (λ z. Some z) (tree-Null c.args.table.now.pools (nodes c.args.table.now)))))

pub returns-in_err-end-clause-grows : goal.returns-in_err-end-clause-grows
returns-in_err-end-clause-grows c = (extends-trans c.args.table.now c.make-3.new.self c.make-4.new.self (extends-trans c.args.table.now c.make-2.new.self c.make-3.new.self (extends-trans c.args.table.now c.make.new.self c.make-2.new.self c.make.ensures.grows c.make-2.ensures.grows) c.make-3.ensures.grows) c.make-4.ensures.grows)

pub make-requires-5 : goal.make-requires-5
make-requires-5 c = fits-Implies c.make-4.new.self.pools (nodes c.make-4.new.self) c.in_ok-premise.premise c.in_ok-end.end (t.reach (listed (unlisted (list_at c.args.table.now c.args.list))) t.null (t.bound 0)) (t.eq_object (t.bound 0) t.null) (c.make-4.ensures.grows.nodes.keeps c.in_ok-premise.premise (of_truth (t.reach (listed (unlisted (list_at c.args.table.now c.args.list))) t.null (t.bound 0))) (c.in_ok-premise.ensures.node ∙ ap (λ z. Some z) (tree-listed-Reach c.make-2.new.self c.args.list c.in_ok-null.null c.in_ok-object.object (listed (unlisted (list_at c.args.table.now c.args.list))) t.null (t.bound 0) (list-grows c.make.new.self c.make-2.new.self c.args.list (listed (unlisted (list_at c.args.table.now c.args.list))) c.make-2.ensures.grows (list-grows c.args.table.now c.make.new.self c.args.list (listed (unlisted (list_at c.args.table.now c.args.list))) c.make.ensures.grows (list-of c.args.table.now c.args.list c.requires.list))) (c.make-2.ensures.grows.nodes.keeps c.in_ok-null.null (of_object t.null) (c.in_ok-null.ensures.node ∙ ap (λ z. Some z) (tree-Null c.args.table.now.pools (nodes c.args.table.now)))) (c.in_ok-object.ensures.node ∙ ap (λ z. Some z) (tree-Bound c.make.new.self.pools (nodes c.make.new.self) 0))))) (c.in_ok-end.ensures.node ∙ ap (λ z. Some z) (tree-EqObject c.make-3.new.self.pools (nodes c.make-3.new.self) c.in_ok-object.object c.in_ok-null.null (t.bound 0) t.null (c.make-3.ensures.grows.nodes.keeps c.in_ok-object.object (of_object (t.bound 0)) (c.in_ok-object.ensures.node ∙ ap (λ z. Some z) (tree-Bound c.make.new.self.pools (nodes c.make.new.self) 0))) (c.make-3.ensures.grows.nodes.keeps c.in_ok-null.null (of_object t.null) (c.make-2.ensures.grows.nodes.keeps c.in_ok-null.null (of_object t.null) (c.in_ok-null.ensures.node ∙ ap (λ z. Some z) (tree-Null c.args.table.now.pools (nodes c.args.table.now)))))))

pub returns-in_err-body-clause-grows : goal.returns-in_err-body-clause-grows
returns-in_err-body-clause-grows c = (extends-trans c.args.table.now c.make-4.new.self c.make-5.new.self (extends-trans c.args.table.now c.make-3.new.self c.make-4.new.self (extends-trans c.args.table.now c.make-2.new.self c.make-3.new.self (extends-trans c.args.table.now c.make.new.self c.make-2.new.self c.make.ensures.grows c.make-2.ensures.grows) c.make-3.ensures.grows) c.make-4.ensures.grows) c.make-5.ensures.grows)

pub make-requires-6 : goal.make-requires-6
make-requires-6 c = fits-All c.make-5.new.self.pools (nodes c.make-5.new.self) c.in_ok-body.body (t.implies (t.reach (listed (unlisted (list_at c.args.table.now c.args.list))) t.null (t.bound 0)) (t.eq_object (t.bound 0) t.null)) (c.in_ok-body.ensures.node ∙ ap (λ z. Some z) (tree-Implies c.make-4.new.self.pools (nodes c.make-4.new.self) c.in_ok-premise.premise c.in_ok-end.end (t.reach (listed (unlisted (list_at c.args.table.now c.args.list))) t.null (t.bound 0)) (t.eq_object (t.bound 0) t.null) (c.make-4.ensures.grows.nodes.keeps c.in_ok-premise.premise (of_truth (t.reach (listed (unlisted (list_at c.args.table.now c.args.list))) t.null (t.bound 0))) (c.in_ok-premise.ensures.node ∙ ap (λ z. Some z) (tree-listed-Reach c.make-2.new.self c.args.list c.in_ok-null.null c.in_ok-object.object (listed (unlisted (list_at c.args.table.now c.args.list))) t.null (t.bound 0) (list-grows c.make.new.self c.make-2.new.self c.args.list (listed (unlisted (list_at c.args.table.now c.args.list))) c.make-2.ensures.grows (list-grows c.args.table.now c.make.new.self c.args.list (listed (unlisted (list_at c.args.table.now c.args.list))) c.make.ensures.grows (list-of c.args.table.now c.args.list c.requires.list))) (c.make-2.ensures.grows.nodes.keeps c.in_ok-null.null (of_object t.null) (c.in_ok-null.ensures.node ∙ ap (λ z. Some z) (tree-Null c.args.table.now.pools (nodes c.args.table.now)))) (c.in_ok-object.ensures.node ∙ ap (λ z. Some z) (tree-Bound c.make.new.self.pools (nodes c.make.new.self) 0))))) (c.in_ok-end.ensures.node ∙ ap (λ z. Some z) (tree-EqObject c.make-3.new.self.pools (nodes c.make-3.new.self) c.in_ok-object.object c.in_ok-null.null (t.bound 0) t.null (c.make-3.ensures.grows.nodes.keeps c.in_ok-object.object (of_object (t.bound 0)) (c.in_ok-object.ensures.node ∙ ap (λ z. Some z) (tree-Bound c.make.new.self.pools (nodes c.make.new.self) 0))) (c.make-3.ensures.grows.nodes.keeps c.in_ok-null.null (of_object t.null) (c.make-2.ensures.grows.nodes.keeps c.in_ok-null.null (of_object t.null) (c.in_ok-null.ensures.node ∙ ap (λ z. Some z) (tree-Null c.args.table.now.pools (nodes c.args.table.now)))))))))

pub returns-clause-node : goal.returns-clause-node
returns-clause-node c = λ fs h_list. made-as (nodes c.make-6.new.self) c.make-6.result (tree_in c.make-5.new.self (s.All c.in_ok-body.body)) (of_truth (t.all (t.implies (t.reach (listed fs) t.null (t.bound 0)) (t.eq_object (t.bound 0) t.null)))) (tree-All c.make-5.new.self.pools (nodes c.make-5.new.self) c.in_ok-body.body (t.implies (t.reach (listed fs) t.null (t.bound 0)) (t.eq_object (t.bound 0) t.null)) (c.in_ok-body.ensures.node ∙ ap (λ z. Some z) (tree-Implies c.make-4.new.self.pools (nodes c.make-4.new.self) c.in_ok-premise.premise c.in_ok-end.end (t.reach (listed fs) t.null (t.bound 0)) (t.eq_object (t.bound 0) t.null) (c.make-4.ensures.grows.nodes.keeps c.in_ok-premise.premise (of_truth (t.reach (listed fs) t.null (t.bound 0))) (c.in_ok-premise.ensures.node ∙ ap (λ z. Some z) (tree-listed-Reach c.make-2.new.self c.args.list c.in_ok-null.null c.in_ok-object.object (listed fs) t.null (t.bound 0) (list-grows c.make.new.self c.make-2.new.self c.args.list (listed fs) c.make-2.ensures.grows (list-grows c.args.table.now c.make.new.self c.args.list (listed fs) c.make.ensures.grows h_list)) (c.make-2.ensures.grows.nodes.keeps c.in_ok-null.null (of_object t.null) (c.in_ok-null.ensures.node ∙ ap (λ z. Some z) (tree-Null c.args.table.now.pools (nodes c.args.table.now)))) (c.in_ok-object.ensures.node ∙ ap (λ z. Some z) (tree-Bound c.make.new.self.pools (nodes c.make.new.self) 0))))) (c.in_ok-end.ensures.node ∙ ap (λ z. Some z) (tree-EqObject c.make-3.new.self.pools (nodes c.make-3.new.self) c.in_ok-object.object c.in_ok-null.null (t.bound 0) t.null (c.make-3.ensures.grows.nodes.keeps c.in_ok-object.object (of_object (t.bound 0)) (c.in_ok-object.ensures.node ∙ ap (λ z. Some z) (tree-Bound c.make.new.self.pools (nodes c.make.new.self) 0))) (c.make-3.ensures.grows.nodes.keeps c.in_ok-null.null (of_object t.null) (c.make-2.ensures.grows.nodes.keeps c.in_ok-null.null (of_object t.null) (c.in_ok-null.ensures.node ∙ ap (λ z. Some z) (tree-Null c.args.table.now.pools (nodes c.args.table.now)))))))))) c.make-6.ensures.node

pub returns-clause-grows : goal.returns-clause-grows
returns-clause-grows c = (extends-trans c.args.table.now c.make-5.new.self c.make-6.new.self (extends-trans c.args.table.now c.make-4.new.self c.make-5.new.self (extends-trans c.args.table.now c.make-3.new.self c.make-4.new.self (extends-trans c.args.table.now c.make-2.new.self c.make-3.new.self (extends-trans c.args.table.now c.make.new.self c.make-2.new.self c.make.ensures.grows c.make-2.ensures.grows) c.make-3.ensures.grows) c.make-4.ensures.grows) c.make-5.ensures.grows) c.make-6.ensures.grows)
