use Rattle.std.proofs.Common.{ap, ◌∙◌, Some, slice_get}
use Rattle.jh_form.specs.Tree.{of_object, of_field, of_truth}
use Rattle.jh_form.specs.Tree as t
use Rattle.jh_arena.specs.table.Entries.{the_field}
use Rattle.jh_arena.specs.table.Nodes.{nodes, tree_in}
use Rattle.jh_arena.specs.declared.table.shapes.Shape.TheVariants as s
use Rattle.jh_arena.proofs.table.NodeSteps.{fits-Bound, tree-Bound, fits-Implies, tree-Implies, fits-All, tree-All}
use Rattle.jh_arena.proofs.table.Listed.{extends-trans}
use Rattle.jh_import.proofs.entering.Fields.{made-as}
use Rattle.jh_splitting.specs.Edges.{list_at}
use Rattle.jh_splitting.proofs.Edging.{list-there, list-grows, holds-field, holds-object}
use Rattle.jh_splitting.proofs.edges.no_cycle.Goals as goal

pub make-requires : goal.make-requires
make-requires c = fits-Bound c.args.table.now.pools (nodes c.args.table.now) 0

pub returns-in_err-object-clause-grows : goal.returns-in_err-object-clause-grows
returns-in_err-object-clause-grows c = c.make.ensures.grows

pub not_null-requires : goal.not_null-requires
not_null-requires c = record { object = holds-object (slice_get (nodes c.make.new.self) c.in_ok-object.object) (t.bound 0) (c.in_ok-object.ensures.node ∙ ap (λ z. Some z) (tree-Bound c.args.table.now.pools (nodes c.args.table.now) 0)) }

pub returns-in_err-premise-clause-grows : goal.returns-in_err-premise-clause-grows
returns-in_err-premise-clause-grows c = (extends-trans c.args.table.now c.make.new.self c.not_null.new.table c.make.ensures.grows c.not_null.ensures.grows)

pub leads_not_back-requires : goal.leads_not_back-requires
leads_not_back-requires c = record { list = list-there c.not_null.new.table c.args.list (list_at c.args.table.now c.args.list) (list-grows c.make.new.self c.not_null.new.table c.args.list (list_at c.args.table.now c.args.list) c.not_null.ensures.grows (list-grows c.args.table.now c.make.new.self c.args.list (list_at c.args.table.now c.args.list) c.make.ensures.grows c.requires.list)); field = holds-field (slice_get (nodes c.not_null.new.table) c.args.field) (the_field (slice_get (nodes c.args.table.now) c.args.field)) (c.not_null.ensures.grows.nodes.keeps c.args.field (of_field (the_field (slice_get (nodes c.args.table.now) c.args.field))) (c.make.ensures.grows.nodes.keeps c.args.field (of_field (the_field (slice_get (nodes c.args.table.now) c.args.field))) c.requires.field)) }

pub returns-in_err-end-clause-grows : goal.returns-in_err-end-clause-grows
returns-in_err-end-clause-grows c = (extends-trans c.args.table.now c.not_null.new.table c.leads_not_back.new.table (extends-trans c.args.table.now c.make.new.self c.not_null.new.table c.make.ensures.grows c.not_null.ensures.grows) c.leads_not_back.ensures.grows)

pub make-requires-2 : goal.make-requires-2
make-requires-2 c = fits-Implies c.leads_not_back.new.table.pools (nodes c.leads_not_back.new.table) c.in_ok-premise.premise c.in_ok-end.end (t.negation (t.eq_object (t.bound 0) t.null)) (t.negation (t.reach (list_at c.args.table.now c.args.list) (t.read_object (the_field (slice_get (nodes c.args.table.now) c.args.field)) (t.bound 0)) (t.bound 0))) (c.leads_not_back.ensures.grows.nodes.keeps c.in_ok-premise.premise (of_truth (t.negation (t.eq_object (t.bound 0) t.null))) (c.in_ok-premise.ensures.node (t.bound 0) (c.in_ok-object.ensures.node ∙ ap (λ z. Some z) (tree-Bound c.args.table.now.pools (nodes c.args.table.now) 0)))) (c.in_ok-end.ensures.node (list_at c.args.table.now c.args.list) (the_field (slice_get (nodes c.args.table.now) c.args.field)) (list-grows c.make.new.self c.not_null.new.table c.args.list (list_at c.args.table.now c.args.list) c.not_null.ensures.grows (list-grows c.args.table.now c.make.new.self c.args.list (list_at c.args.table.now c.args.list) c.make.ensures.grows c.requires.list)) (c.not_null.ensures.grows.nodes.keeps c.args.field (of_field (the_field (slice_get (nodes c.args.table.now) c.args.field))) (c.make.ensures.grows.nodes.keeps c.args.field (of_field (the_field (slice_get (nodes c.args.table.now) c.args.field))) c.requires.field)))

pub returns-in_err-body-clause-grows : goal.returns-in_err-body-clause-grows
returns-in_err-body-clause-grows c = (extends-trans c.args.table.now c.leads_not_back.new.table c.make-2.new.self (extends-trans c.args.table.now c.not_null.new.table c.leads_not_back.new.table (extends-trans c.args.table.now c.make.new.self c.not_null.new.table c.make.ensures.grows c.not_null.ensures.grows) c.leads_not_back.ensures.grows) c.make-2.ensures.grows)

pub make-requires-3 : goal.make-requires-3
make-requires-3 c = fits-All c.make-2.new.self.pools (nodes c.make-2.new.self) c.in_ok-body.body (t.implies (t.negation (t.eq_object (t.bound 0) t.null)) (t.negation (t.reach (list_at c.args.table.now c.args.list) (t.read_object (the_field (slice_get (nodes c.args.table.now) c.args.field)) (t.bound 0)) (t.bound 0)))) (c.in_ok-body.ensures.node ∙ ap (λ z. Some z) (tree-Implies c.leads_not_back.new.table.pools (nodes c.leads_not_back.new.table) c.in_ok-premise.premise c.in_ok-end.end (t.negation (t.eq_object (t.bound 0) t.null)) (t.negation (t.reach (list_at c.args.table.now c.args.list) (t.read_object (the_field (slice_get (nodes c.args.table.now) c.args.field)) (t.bound 0)) (t.bound 0))) (c.leads_not_back.ensures.grows.nodes.keeps c.in_ok-premise.premise (of_truth (t.negation (t.eq_object (t.bound 0) t.null))) (c.in_ok-premise.ensures.node (t.bound 0) (c.in_ok-object.ensures.node ∙ ap (λ z. Some z) (tree-Bound c.args.table.now.pools (nodes c.args.table.now) 0)))) (c.in_ok-end.ensures.node (list_at c.args.table.now c.args.list) (the_field (slice_get (nodes c.args.table.now) c.args.field)) (list-grows c.make.new.self c.not_null.new.table c.args.list (list_at c.args.table.now c.args.list) c.not_null.ensures.grows (list-grows c.args.table.now c.make.new.self c.args.list (list_at c.args.table.now c.args.list) c.make.ensures.grows c.requires.list)) (c.not_null.ensures.grows.nodes.keeps c.args.field (of_field (the_field (slice_get (nodes c.args.table.now) c.args.field))) (c.make.ensures.grows.nodes.keeps c.args.field (of_field (the_field (slice_get (nodes c.args.table.now) c.args.field))) c.requires.field)))))

pub returns-clause-node : goal.returns-clause-node
returns-clause-node c = λ fs f h_list h_field. made-as (nodes c.make-3.new.self) c.make-3.result (tree_in c.make-2.new.self (s.All c.in_ok-body.body)) (of_truth (t.all (t.implies (t.negation (t.eq_object (t.bound 0) t.null)) (t.negation (t.reach fs (t.read_object f (t.bound 0)) (t.bound 0)))))) (tree-All c.make-2.new.self.pools (nodes c.make-2.new.self) c.in_ok-body.body (t.implies (t.negation (t.eq_object (t.bound 0) t.null)) (t.negation (t.reach fs (t.read_object f (t.bound 0)) (t.bound 0)))) (c.in_ok-body.ensures.node ∙ ap (λ z. Some z) (tree-Implies c.leads_not_back.new.table.pools (nodes c.leads_not_back.new.table) c.in_ok-premise.premise c.in_ok-end.end (t.negation (t.eq_object (t.bound 0) t.null)) (t.negation (t.reach fs (t.read_object f (t.bound 0)) (t.bound 0))) (c.leads_not_back.ensures.grows.nodes.keeps c.in_ok-premise.premise (of_truth (t.negation (t.eq_object (t.bound 0) t.null))) (c.in_ok-premise.ensures.node (t.bound 0) (c.in_ok-object.ensures.node ∙ ap (λ z. Some z) (tree-Bound c.args.table.now.pools (nodes c.args.table.now) 0)))) (c.in_ok-end.ensures.node fs f (list-grows c.make.new.self c.not_null.new.table c.args.list fs c.not_null.ensures.grows (list-grows c.args.table.now c.make.new.self c.args.list fs c.make.ensures.grows h_list)) (c.not_null.ensures.grows.nodes.keeps c.args.field (of_field f) (c.make.ensures.grows.nodes.keeps c.args.field (of_field f) h_field)))))) c.make-3.ensures.node

pub returns-clause-grows : goal.returns-clause-grows
returns-clause-grows c = (extends-trans c.args.table.now c.make-2.new.self c.make-3.new.self (extends-trans c.args.table.now c.leads_not_back.new.table c.make-2.new.self (extends-trans c.args.table.now c.not_null.new.table c.leads_not_back.new.table (extends-trans c.args.table.now c.make.new.self c.not_null.new.table c.make.ensures.grows c.not_null.ensures.grows) c.leads_not_back.ensures.grows) c.make-2.ensures.grows) c.make-3.ensures.grows)
