-- Written by tools/reach.py.
use Rattle.std.proofs.Common.{ap, ◌∙◌, Some, slice_get}
use Rattle.jh_form.specs.Tree.{of_object, of_truth}
use Rattle.jh_form.specs.Tree as t
use Rattle.jh_arena.specs.table.Entries.{the_object}
use Rattle.jh_arena.specs.table.Nodes.{nodes}
use Rattle.jh_arena.proofs.table.NodeSteps.{fits-Bound, tree-Bound, fits-Iff, tree-Iff}
use Rattle.jh_arena.proofs.table.Listed.{extends-trans}
use Rattle.jh_import.proofs.entering.Fields.{fits-listed-Reach, tree-listed-Reach}
use Rattle.jh_path_formulas.proofs.NodeSteps.{list-there, list-of, list-grows, unlisted, holds-object, holds-formula}
use Rattle.jh_path_formulas.specs.Ways.{listed, way, stops_at, list_at}
use Rattle.jh_reach.proofs.updates.told_by_one.Goals as goal

pub make-requires : goal.make-requires
make-requires c = fits-Bound c.args.table.now.pools (nodes c.args.table.now) 1

pub returns-in_err-from-clause-grows : goal.returns-in_err-from-clause-grows
returns-in_err-from-clause-grows c = c.make.ensures.grows

pub make-requires-2 : goal.make-requires-2
make-requires-2 c = fits-Bound c.make.new.self.pools (nodes c.make.new.self) 0

pub returns-in_err-to-clause-grows : goal.returns-in_err-to-clause-grows
returns-in_err-to-clause-grows c = (extends-trans c.args.table.now c.make.new.self c.make-2.new.self c.make.ensures.grows c.make-2.ensures.grows)

pub make-requires-3 : goal.make-requires-3
make-requires-3 c = fits-listed-Reach c.make-2.new.self c.args.new c.in_ok-from.from c.in_ok-to.to (listed (unlisted (list_at c.args.table.now c.args.new))) (t.bound 1) (t.bound 0) (list-grows c.make.new.self c.make-2.new.self c.args.new (listed (unlisted (list_at c.args.table.now c.args.new))) c.make-2.ensures.grows (list-grows c.args.table.now c.make.new.self c.args.new (listed (unlisted (list_at c.args.table.now c.args.new))) c.make.ensures.grows (list-of c.args.table.now c.args.new c.requires.new))) (c.make-2.ensures.grows.nodes.keeps c.in_ok-from.from (of_object (t.bound 1)) (c.in_ok-from.ensures.node ∙ ap (λ z. Some z) (tree-Bound c.args.table.now.pools (nodes c.args.table.now) 1))) (c.in_ok-to.ensures.node ∙ ap (λ z. Some z) (tree-Bound c.make.new.self.pools (nodes c.make.new.self) 0))

pub returns-in_err-on-clause-grows : goal.returns-in_err-on-clause-grows
returns-in_err-on-clause-grows c = (extends-trans c.args.table.now c.make-2.new.self c.make-3.new.self (extends-trans c.args.table.now c.make.new.self c.make-2.new.self c.make.ensures.grows c.make-2.ensures.grows) c.make-3.ensures.grows)

pub ways_before-requires : goal.ways_before-requires
ways_before-requires c = record { list = list-there c.make-3.new.self c.args.old (listed (unlisted (list_at c.args.table.now c.args.old))) (list-grows c.make-2.new.self c.make-3.new.self c.args.old (listed (unlisted (list_at c.args.table.now c.args.old))) c.make-3.ensures.grows (list-grows c.make.new.self c.make-2.new.self c.args.old (listed (unlisted (list_at c.args.table.now c.args.old))) c.make-2.ensures.grows (list-grows c.args.table.now c.make.new.self c.args.old (listed (unlisted (list_at c.args.table.now c.args.old))) c.make.ensures.grows (list-of c.args.table.now c.args.old c.requires.old)))); at = holds-object (slice_get (nodes c.make-3.new.self) c.args.at) (the_object (slice_get (nodes c.args.table.now) c.args.at)) (c.make-3.ensures.grows.nodes.keeps c.args.at (of_object (the_object (slice_get (nodes c.args.table.now) c.args.at))) (c.make-2.ensures.grows.nodes.keeps c.args.at (of_object (the_object (slice_get (nodes c.args.table.now) c.args.at))) (c.make.ensures.grows.nodes.keeps c.args.at (of_object (the_object (slice_get (nodes c.args.table.now) c.args.at))) c.requires.at))); value = holds-object (slice_get (nodes c.make-3.new.self) c.args.value) (the_object (slice_get (nodes c.args.table.now) c.args.value)) (c.make-3.ensures.grows.nodes.keeps c.args.value (of_object (the_object (slice_get (nodes c.args.table.now) c.args.value))) (c.make-2.ensures.grows.nodes.keeps c.args.value (of_object (the_object (slice_get (nodes c.args.table.now) c.args.value))) (c.make.ensures.grows.nodes.keeps c.args.value (of_object (the_object (slice_get (nodes c.args.table.now) c.args.value))) c.requires.value))); from = holds-object (slice_get (nodes c.make-3.new.self) c.in_ok-from.from) (t.bound 1) (c.make-3.ensures.grows.nodes.keeps c.in_ok-from.from (of_object (t.bound 1)) (c.make-2.ensures.grows.nodes.keeps c.in_ok-from.from (of_object (t.bound 1)) (c.in_ok-from.ensures.node ∙ ap (λ z. Some z) (tree-Bound c.args.table.now.pools (nodes c.args.table.now) 1)))); to = holds-object (slice_get (nodes c.make-3.new.self) c.in_ok-to.to) (t.bound 0) (c.make-3.ensures.grows.nodes.keeps c.in_ok-to.to (of_object (t.bound 0)) (c.in_ok-to.ensures.node ∙ ap (λ z. Some z) (tree-Bound c.make.new.self.pools (nodes c.make.new.self) 0))) }

pub returns-in_err-ways-clause-grows : goal.returns-in_err-ways-clause-grows
returns-in_err-ways-clause-grows c = (extends-trans c.args.table.now c.make-3.new.self c.ways_before.new.table (extends-trans c.args.table.now c.make-2.new.self c.make-3.new.self (extends-trans c.args.table.now c.make.new.self c.make-2.new.self c.make.ensures.grows c.make-2.ensures.grows) c.make-3.ensures.grows) c.ways_before.ensures.grows)

pub make-requires-4 : goal.make-requires-4
make-requires-4 c = fits-Iff c.ways_before.new.table.pools (nodes c.ways_before.new.table) c.in_ok-on.on c.in_ok-ways.ways (t.reach (listed (unlisted (list_at c.args.table.now c.args.new))) (t.bound 1) (t.bound 0)) (t.or (stops_at (unlisted (list_at c.args.table.now c.args.old)) (the_object (slice_get (nodes c.args.table.now) c.args.at)) (t.bound 1) (t.bound 0)) (t.and (way (unlisted (list_at c.args.table.now c.args.old)) (t.bound 1) (the_object (slice_get (nodes c.args.table.now) c.args.at))) (stops_at (unlisted (list_at c.args.table.now c.args.old)) (the_object (slice_get (nodes c.args.table.now) c.args.at)) (the_object (slice_get (nodes c.args.table.now) c.args.value)) (t.bound 0)))) (c.ways_before.ensures.grows.nodes.keeps c.in_ok-on.on (of_truth (t.reach (listed (unlisted (list_at c.args.table.now c.args.new))) (t.bound 1) (t.bound 0))) (c.in_ok-on.ensures.node ∙ ap (λ z. Some z) (tree-listed-Reach c.make-2.new.self c.args.new c.in_ok-from.from c.in_ok-to.to (listed (unlisted (list_at c.args.table.now c.args.new))) (t.bound 1) (t.bound 0) (list-grows c.make.new.self c.make-2.new.self c.args.new (listed (unlisted (list_at c.args.table.now c.args.new))) c.make-2.ensures.grows (list-grows c.args.table.now c.make.new.self c.args.new (listed (unlisted (list_at c.args.table.now c.args.new))) c.make.ensures.grows (list-of c.args.table.now c.args.new c.requires.new))) (c.make-2.ensures.grows.nodes.keeps c.in_ok-from.from (of_object (t.bound 1)) (c.in_ok-from.ensures.node ∙ ap (λ z. Some z) (tree-Bound c.args.table.now.pools (nodes c.args.table.now) 1))) (c.in_ok-to.ensures.node ∙ ap (λ z. Some z) (tree-Bound c.make.new.self.pools (nodes c.make.new.self) 0))))) (c.in_ok-ways.ensures.node (unlisted (list_at c.args.table.now c.args.old)) (the_object (slice_get (nodes c.args.table.now) c.args.at)) (the_object (slice_get (nodes c.args.table.now) c.args.value)) (t.bound 1) (t.bound 0) (list-grows c.make-2.new.self c.make-3.new.self c.args.old (listed (unlisted (list_at c.args.table.now c.args.old))) c.make-3.ensures.grows (list-grows c.make.new.self c.make-2.new.self c.args.old (listed (unlisted (list_at c.args.table.now c.args.old))) c.make-2.ensures.grows (list-grows c.args.table.now c.make.new.self c.args.old (listed (unlisted (list_at c.args.table.now c.args.old))) c.make.ensures.grows (list-of c.args.table.now c.args.old c.requires.old)))) (c.make-3.ensures.grows.nodes.keeps c.args.at (of_object (the_object (slice_get (nodes c.args.table.now) c.args.at))) (c.make-2.ensures.grows.nodes.keeps c.args.at (of_object (the_object (slice_get (nodes c.args.table.now) c.args.at))) (c.make.ensures.grows.nodes.keeps c.args.at (of_object (the_object (slice_get (nodes c.args.table.now) c.args.at))) c.requires.at))) (c.make-3.ensures.grows.nodes.keeps c.args.value (of_object (the_object (slice_get (nodes c.args.table.now) c.args.value))) (c.make-2.ensures.grows.nodes.keeps c.args.value (of_object (the_object (slice_get (nodes c.args.table.now) c.args.value))) (c.make.ensures.grows.nodes.keeps c.args.value (of_object (the_object (slice_get (nodes c.args.table.now) c.args.value))) c.requires.value))) (c.make-3.ensures.grows.nodes.keeps c.in_ok-from.from (of_object (t.bound 1)) (c.make-2.ensures.grows.nodes.keeps c.in_ok-from.from (of_object (t.bound 1)) (c.in_ok-from.ensures.node ∙ ap (λ z. Some z) (tree-Bound c.args.table.now.pools (nodes c.args.table.now) 1)))) (c.make-3.ensures.grows.nodes.keeps c.in_ok-to.to (of_object (t.bound 0)) (c.in_ok-to.ensures.node ∙ ap (λ z. Some z) (tree-Bound c.make.new.self.pools (nodes c.make.new.self) 0))))

pub returns-in_err-body-clause-grows : goal.returns-in_err-body-clause-grows
returns-in_err-body-clause-grows c = (extends-trans c.args.table.now c.ways_before.new.table c.make-4.new.self (extends-trans c.args.table.now c.make-3.new.self c.ways_before.new.table (extends-trans c.args.table.now c.make-2.new.self c.make-3.new.self (extends-trans c.args.table.now c.make.new.self c.make-2.new.self c.make.ensures.grows c.make-2.ensures.grows) c.make-3.ensures.grows) c.ways_before.ensures.grows) c.make-4.ensures.grows)

pub for_two-requires : goal.for_two-requires
for_two-requires c = record { body = holds-formula (slice_get (nodes c.make-4.new.self) c.in_ok-body.body) (t.iff (t.reach (listed (unlisted (list_at c.args.table.now c.args.new))) (t.bound 1) (t.bound 0)) (t.or (stops_at (unlisted (list_at c.args.table.now c.args.old)) (the_object (slice_get (nodes c.args.table.now) c.args.at)) (t.bound 1) (t.bound 0)) (t.and (way (unlisted (list_at c.args.table.now c.args.old)) (t.bound 1) (the_object (slice_get (nodes c.args.table.now) c.args.at))) (stops_at (unlisted (list_at c.args.table.now c.args.old)) (the_object (slice_get (nodes c.args.table.now) c.args.at)) (the_object (slice_get (nodes c.args.table.now) c.args.value)) (t.bound 0))))) (c.in_ok-body.ensures.node ∙ ap (λ z. Some z) (tree-Iff c.ways_before.new.table.pools (nodes c.ways_before.new.table) c.in_ok-on.on c.in_ok-ways.ways (t.reach (listed (unlisted (list_at c.args.table.now c.args.new))) (t.bound 1) (t.bound 0)) (t.or (stops_at (unlisted (list_at c.args.table.now c.args.old)) (the_object (slice_get (nodes c.args.table.now) c.args.at)) (t.bound 1) (t.bound 0)) (t.and (way (unlisted (list_at c.args.table.now c.args.old)) (t.bound 1) (the_object (slice_get (nodes c.args.table.now) c.args.at))) (stops_at (unlisted (list_at c.args.table.now c.args.old)) (the_object (slice_get (nodes c.args.table.now) c.args.at)) (the_object (slice_get (nodes c.args.table.now) c.args.value)) (t.bound 0)))) (c.ways_before.ensures.grows.nodes.keeps c.in_ok-on.on (of_truth (t.reach (listed (unlisted (list_at c.args.table.now c.args.new))) (t.bound 1) (t.bound 0))) (c.in_ok-on.ensures.node ∙ ap (λ z. Some z) (tree-listed-Reach c.make-2.new.self c.args.new c.in_ok-from.from c.in_ok-to.to (listed (unlisted (list_at c.args.table.now c.args.new))) (t.bound 1) (t.bound 0) (list-grows c.make.new.self c.make-2.new.self c.args.new (listed (unlisted (list_at c.args.table.now c.args.new))) c.make-2.ensures.grows (list-grows c.args.table.now c.make.new.self c.args.new (listed (unlisted (list_at c.args.table.now c.args.new))) c.make.ensures.grows (list-of c.args.table.now c.args.new c.requires.new))) (c.make-2.ensures.grows.nodes.keeps c.in_ok-from.from (of_object (t.bound 1)) (c.in_ok-from.ensures.node ∙ ap (λ z. Some z) (tree-Bound c.args.table.now.pools (nodes c.args.table.now) 1))) (c.in_ok-to.ensures.node ∙ ap (λ z. Some z) (tree-Bound c.make.new.self.pools (nodes c.make.new.self) 0))))) (c.in_ok-ways.ensures.node (unlisted (list_at c.args.table.now c.args.old)) (the_object (slice_get (nodes c.args.table.now) c.args.at)) (the_object (slice_get (nodes c.args.table.now) c.args.value)) (t.bound 1) (t.bound 0) (list-grows c.make-2.new.self c.make-3.new.self c.args.old (listed (unlisted (list_at c.args.table.now c.args.old))) c.make-3.ensures.grows (list-grows c.make.new.self c.make-2.new.self c.args.old (listed (unlisted (list_at c.args.table.now c.args.old))) c.make-2.ensures.grows (list-grows c.args.table.now c.make.new.self c.args.old (listed (unlisted (list_at c.args.table.now c.args.old))) c.make.ensures.grows (list-of c.args.table.now c.args.old c.requires.old)))) (c.make-3.ensures.grows.nodes.keeps c.args.at (of_object (the_object (slice_get (nodes c.args.table.now) c.args.at))) (c.make-2.ensures.grows.nodes.keeps c.args.at (of_object (the_object (slice_get (nodes c.args.table.now) c.args.at))) (c.make.ensures.grows.nodes.keeps c.args.at (of_object (the_object (slice_get (nodes c.args.table.now) c.args.at))) c.requires.at))) (c.make-3.ensures.grows.nodes.keeps c.args.value (of_object (the_object (slice_get (nodes c.args.table.now) c.args.value))) (c.make-2.ensures.grows.nodes.keeps c.args.value (of_object (the_object (slice_get (nodes c.args.table.now) c.args.value))) (c.make.ensures.grows.nodes.keeps c.args.value (of_object (the_object (slice_get (nodes c.args.table.now) c.args.value))) c.requires.value))) (c.make-3.ensures.grows.nodes.keeps c.in_ok-from.from (of_object (t.bound 1)) (c.make-2.ensures.grows.nodes.keeps c.in_ok-from.from (of_object (t.bound 1)) (c.in_ok-from.ensures.node ∙ ap (λ z. Some z) (tree-Bound c.args.table.now.pools (nodes c.args.table.now) 1)))) (c.make-3.ensures.grows.nodes.keeps c.in_ok-to.to (of_object (t.bound 0)) (c.in_ok-to.ensures.node ∙ ap (λ z. Some z) (tree-Bound c.make.new.self.pools (nodes c.make.new.self) 0)))))) }

pub returns-clause-node : goal.returns-clause-node
returns-clause-node c = λ fs gs a v h_new h_old h_at h_value. c.for_two.ensures.node (t.iff (t.reach (listed fs) (t.bound 1) (t.bound 0)) (t.or (stops_at gs a (t.bound 1) (t.bound 0)) (t.and (way gs (t.bound 1) a) (stops_at gs a v (t.bound 0))))) (c.in_ok-body.ensures.node ∙ ap (λ z. Some z) (tree-Iff c.ways_before.new.table.pools (nodes c.ways_before.new.table) c.in_ok-on.on c.in_ok-ways.ways (t.reach (listed fs) (t.bound 1) (t.bound 0)) (t.or (stops_at gs a (t.bound 1) (t.bound 0)) (t.and (way gs (t.bound 1) a) (stops_at gs a v (t.bound 0)))) (c.ways_before.ensures.grows.nodes.keeps c.in_ok-on.on (of_truth (t.reach (listed fs) (t.bound 1) (t.bound 0))) (c.in_ok-on.ensures.node ∙ ap (λ z. Some z) (tree-listed-Reach c.make-2.new.self c.args.new c.in_ok-from.from c.in_ok-to.to (listed fs) (t.bound 1) (t.bound 0) (list-grows c.make.new.self c.make-2.new.self c.args.new (listed fs) c.make-2.ensures.grows (list-grows c.args.table.now c.make.new.self c.args.new (listed fs) c.make.ensures.grows h_new)) (c.make-2.ensures.grows.nodes.keeps c.in_ok-from.from (of_object (t.bound 1)) (c.in_ok-from.ensures.node ∙ ap (λ z. Some z) (tree-Bound c.args.table.now.pools (nodes c.args.table.now) 1))) (c.in_ok-to.ensures.node ∙ ap (λ z. Some z) (tree-Bound c.make.new.self.pools (nodes c.make.new.self) 0))))) (c.in_ok-ways.ensures.node gs a v (t.bound 1) (t.bound 0) (list-grows c.make-2.new.self c.make-3.new.self c.args.old (listed gs) c.make-3.ensures.grows (list-grows c.make.new.self c.make-2.new.self c.args.old (listed gs) c.make-2.ensures.grows (list-grows c.args.table.now c.make.new.self c.args.old (listed gs) c.make.ensures.grows h_old))) (c.make-3.ensures.grows.nodes.keeps c.args.at (of_object a) (c.make-2.ensures.grows.nodes.keeps c.args.at (of_object a) (c.make.ensures.grows.nodes.keeps c.args.at (of_object a) h_at))) (c.make-3.ensures.grows.nodes.keeps c.args.value (of_object v) (c.make-2.ensures.grows.nodes.keeps c.args.value (of_object v) (c.make.ensures.grows.nodes.keeps c.args.value (of_object v) h_value))) (c.make-3.ensures.grows.nodes.keeps c.in_ok-from.from (of_object (t.bound 1)) (c.make-2.ensures.grows.nodes.keeps c.in_ok-from.from (of_object (t.bound 1)) (c.in_ok-from.ensures.node ∙ ap (λ z. Some z) (tree-Bound c.args.table.now.pools (nodes c.args.table.now) 1)))) (c.make-3.ensures.grows.nodes.keeps c.in_ok-to.to (of_object (t.bound 0)) (c.in_ok-to.ensures.node ∙ ap (λ z. Some z) (tree-Bound c.make.new.self.pools (nodes c.make.new.self) 0))))))

pub returns-clause-grows : goal.returns-clause-grows
returns-clause-grows c = (extends-trans c.args.table.now c.make-4.new.self c.for_two.new.table (extends-trans c.args.table.now c.ways_before.new.table c.make-4.new.self (extends-trans c.args.table.now c.make-3.new.self c.ways_before.new.table (extends-trans c.args.table.now c.make-2.new.self c.make-3.new.self (extends-trans c.args.table.now c.make.new.self c.make-2.new.self c.make.ensures.grows c.make-2.ensures.grows) c.make-3.ensures.grows) c.ways_before.ensures.grows) c.make-4.ensures.grows) c.for_two.ensures.grows)
