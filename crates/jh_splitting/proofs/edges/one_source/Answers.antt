use Rattle.std.proofs.Common.{ap, ◌∙◌, Some, slice_get}
use Rattle.jh_form.specs.Tree.{of_object, of_field, of_truth}
use Rattle.jh_form.specs.Tree as t
use Rattle.jh_arena.specs.table.Entries.{the_field}
use Rattle.jh_arena.specs.table.Nodes.{nodes}
use Rattle.jh_arena.proofs.table.NodeSteps.{fits-Bound, tree-Bound, fits-EqObject, tree-EqObject}
use Rattle.jh_arena.proofs.table.Listed.{extends-trans}
use Rattle.jh_splitting.proofs.Edging.{holds-field, holds-formula}
use Rattle.jh_splitting.proofs.edges.one_source.Goals as goal

pub one_child-requires : goal.one_child-requires
one_child-requires c = record { field = holds-field (slice_get (nodes c.args.table.now) c.args.field) (the_field (slice_get (nodes c.args.table.now) c.args.field)) c.requires.field }

pub returns-in_err-premise-clause-grows : goal.returns-in_err-premise-clause-grows
returns-in_err-premise-clause-grows c = c.one_child.ensures.grows

pub make-requires : goal.make-requires
make-requires c = fits-Bound c.one_child.new.table.pools (nodes c.one_child.new.table) 1

pub returns-in_err-first-clause-grows : goal.returns-in_err-first-clause-grows
returns-in_err-first-clause-grows c = (extends-trans c.args.table.now c.one_child.new.table c.make.new.self c.one_child.ensures.grows c.make.ensures.grows)

pub make-requires-2 : goal.make-requires-2
make-requires-2 c = fits-Bound c.make.new.self.pools (nodes c.make.new.self) 0

pub returns-in_err-second-clause-grows : goal.returns-in_err-second-clause-grows
returns-in_err-second-clause-grows c = (extends-trans c.args.table.now c.make.new.self c.make-2.new.self (extends-trans c.args.table.now c.one_child.new.table c.make.new.self c.one_child.ensures.grows c.make.ensures.grows) c.make-2.ensures.grows)

pub make-requires-3 : goal.make-requires-3
make-requires-3 c = fits-EqObject c.make-2.new.self.pools (nodes c.make-2.new.self) c.in_ok-first.first c.in_ok-second.second (t.bound 1) (t.bound 0) (c.make-2.ensures.grows.nodes.keeps c.in_ok-first.first (of_object (t.bound 1)) (c.in_ok-first.ensures.node ∙ ap (λ z. Some z) (tree-Bound c.one_child.new.table.pools (nodes c.one_child.new.table) 1))) (c.in_ok-second.ensures.node ∙ ap (λ z. Some z) (tree-Bound c.make.new.self.pools (nodes c.make.new.self) 0))

pub returns-in_err-end-clause-grows : goal.returns-in_err-end-clause-grows
returns-in_err-end-clause-grows c = (extends-trans c.args.table.now c.make-2.new.self c.make-3.new.self (extends-trans c.args.table.now c.make.new.self c.make-2.new.self (extends-trans c.args.table.now c.one_child.new.table c.make.new.self c.one_child.ensures.grows c.make.ensures.grows) c.make-2.ensures.grows) c.make-3.ensures.grows)

pub follows_for_two-requires : goal.follows_for_two-requires
follows_for_two-requires c = record { premise = holds-formula (slice_get (nodes c.make-3.new.self) c.in_ok-premise.premise) (t.and (t.eq_object (t.read_object (the_field (slice_get (nodes c.args.table.now) c.args.field)) (t.bound 1)) (t.read_object (the_field (slice_get (nodes c.args.table.now) c.args.field)) (t.bound 0))) (t.negation (t.eq_object (t.read_object (the_field (slice_get (nodes c.args.table.now) c.args.field)) (t.bound 1)) t.null))) (c.make-3.ensures.grows.nodes.keeps c.in_ok-premise.premise (of_truth (t.and (t.eq_object (t.read_object (the_field (slice_get (nodes c.args.table.now) c.args.field)) (t.bound 1)) (t.read_object (the_field (slice_get (nodes c.args.table.now) c.args.field)) (t.bound 0))) (t.negation (t.eq_object (t.read_object (the_field (slice_get (nodes c.args.table.now) c.args.field)) (t.bound 1)) t.null)))) (c.make-2.ensures.grows.nodes.keeps c.in_ok-premise.premise (of_truth (t.and (t.eq_object (t.read_object (the_field (slice_get (nodes c.args.table.now) c.args.field)) (t.bound 1)) (t.read_object (the_field (slice_get (nodes c.args.table.now) c.args.field)) (t.bound 0))) (t.negation (t.eq_object (t.read_object (the_field (slice_get (nodes c.args.table.now) c.args.field)) (t.bound 1)) t.null)))) (c.make.ensures.grows.nodes.keeps c.in_ok-premise.premise (of_truth (t.and (t.eq_object (t.read_object (the_field (slice_get (nodes c.args.table.now) c.args.field)) (t.bound 1)) (t.read_object (the_field (slice_get (nodes c.args.table.now) c.args.field)) (t.bound 0))) (t.negation (t.eq_object (t.read_object (the_field (slice_get (nodes c.args.table.now) c.args.field)) (t.bound 1)) t.null)))) (c.in_ok-premise.ensures.node (the_field (slice_get (nodes c.args.table.now) c.args.field)) c.requires.field)))); end = holds-formula (slice_get (nodes c.make-3.new.self) c.in_ok-end.end) (t.eq_object (t.bound 1) (t.bound 0)) (c.in_ok-end.ensures.node ∙ ap (λ z. Some z) (tree-EqObject c.make-2.new.self.pools (nodes c.make-2.new.self) c.in_ok-first.first c.in_ok-second.second (t.bound 1) (t.bound 0) (c.make-2.ensures.grows.nodes.keeps c.in_ok-first.first (of_object (t.bound 1)) (c.in_ok-first.ensures.node ∙ ap (λ z. Some z) (tree-Bound c.one_child.new.table.pools (nodes c.one_child.new.table) 1))) (c.in_ok-second.ensures.node ∙ ap (λ z. Some z) (tree-Bound c.make.new.self.pools (nodes c.make.new.self) 0)))) }

pub returns-clause-node : goal.returns-clause-node
returns-clause-node c = λ f h_field. c.follows_for_two.ensures.node (t.and (t.eq_object (t.read_object f (t.bound 1)) (t.read_object f (t.bound 0))) (t.negation (t.eq_object (t.read_object f (t.bound 1)) t.null))) (t.eq_object (t.bound 1) (t.bound 0)) (c.make-3.ensures.grows.nodes.keeps c.in_ok-premise.premise (of_truth (t.and (t.eq_object (t.read_object f (t.bound 1)) (t.read_object f (t.bound 0))) (t.negation (t.eq_object (t.read_object f (t.bound 1)) t.null)))) (c.make-2.ensures.grows.nodes.keeps c.in_ok-premise.premise (of_truth (t.and (t.eq_object (t.read_object f (t.bound 1)) (t.read_object f (t.bound 0))) (t.negation (t.eq_object (t.read_object f (t.bound 1)) t.null)))) (c.make.ensures.grows.nodes.keeps c.in_ok-premise.premise (of_truth (t.and (t.eq_object (t.read_object f (t.bound 1)) (t.read_object f (t.bound 0))) (t.negation (t.eq_object (t.read_object f (t.bound 1)) t.null)))) (c.in_ok-premise.ensures.node f h_field)))) (c.in_ok-end.ensures.node ∙ ap (λ z. Some z) (tree-EqObject c.make-2.new.self.pools (nodes c.make-2.new.self) c.in_ok-first.first c.in_ok-second.second (t.bound 1) (t.bound 0) (c.make-2.ensures.grows.nodes.keeps c.in_ok-first.first (of_object (t.bound 1)) (c.in_ok-first.ensures.node ∙ ap (λ z. Some z) (tree-Bound c.one_child.new.table.pools (nodes c.one_child.new.table) 1))) (c.in_ok-second.ensures.node ∙ ap (λ z. Some z) (tree-Bound c.make.new.self.pools (nodes c.make.new.self) 0))))

pub returns-clause-grows : goal.returns-clause-grows
returns-clause-grows c = (extends-trans c.args.table.now c.make-3.new.self c.follows_for_two.new.table (extends-trans c.args.table.now c.make-2.new.self c.make-3.new.self (extends-trans c.args.table.now c.make.new.self c.make-2.new.self (extends-trans c.args.table.now c.one_child.new.table c.make.new.self c.one_child.ensures.grows c.make.ensures.grows) c.make-2.ensures.grows) c.make-3.ensures.grows) c.follows_for_two.ensures.grows)
