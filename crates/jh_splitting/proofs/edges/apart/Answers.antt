use Rattle.std.proofs.Common.{slice_get}
use Rattle.jh_form.specs.Tree.{of_object, of_field, of_truth}
use Rattle.jh_form.specs.Tree as t
use Rattle.jh_arena.specs.table.Entries.{the_field}
use Rattle.jh_arena.specs.table.Nodes.{nodes}
use Rattle.jh_arena.proofs.table.Listed.{extends-trans}
use Rattle.jh_splitting.proofs.Edging.{holds-field, holds-formula}
use Rattle.jh_splitting.proofs.edges.apart.Goals as goal

pub same_child-requires : goal.same_child-requires
same_child-requires c = record { field = holds-field (slice_get (nodes c.args.table.now) c.args.field) (the_field (slice_get (nodes c.args.table.now) c.args.field)) c.requires.field; other = holds-field (slice_get (nodes c.args.table.now) c.args.other) (the_field (slice_get (nodes c.args.table.now) c.args.other)) c.requires.other }

pub returns-in_err-premise-clause-grows : goal.returns-in_err-premise-clause-grows
returns-in_err-premise-clause-grows c = c.same_child.ensures.grows

pub no_child-requires : goal.no_child-requires
no_child-requires c = record { field = holds-field (slice_get (nodes c.same_child.new.table) c.args.field) (the_field (slice_get (nodes c.args.table.now) c.args.field)) (c.same_child.ensures.grows.nodes.keeps c.args.field (of_field (the_field (slice_get (nodes c.args.table.now) c.args.field))) c.requires.field) }

pub returns-in_err-end-clause-grows : goal.returns-in_err-end-clause-grows
returns-in_err-end-clause-grows c = (extends-trans c.args.table.now c.same_child.new.table c.no_child.new.table c.same_child.ensures.grows c.no_child.ensures.grows)

pub follows_for_two-requires : goal.follows_for_two-requires
follows_for_two-requires c = record { premise = holds-formula (slice_get (nodes c.no_child.new.table) c.in_ok-premise.premise) (t.eq_object (t.read_object (the_field (slice_get (nodes c.args.table.now) c.args.field)) (t.bound 1)) (t.read_object (the_field (slice_get (nodes c.args.table.now) c.args.other)) (t.bound 0))) (c.no_child.ensures.grows.nodes.keeps c.in_ok-premise.premise (of_truth (t.eq_object (t.read_object (the_field (slice_get (nodes c.args.table.now) c.args.field)) (t.bound 1)) (t.read_object (the_field (slice_get (nodes c.args.table.now) c.args.other)) (t.bound 0)))) (c.in_ok-premise.ensures.node (the_field (slice_get (nodes c.args.table.now) c.args.field)) (the_field (slice_get (nodes c.args.table.now) c.args.other)) c.requires.field c.requires.other)); end = holds-formula (slice_get (nodes c.no_child.new.table) c.in_ok-end.end) (t.eq_object (t.read_object (the_field (slice_get (nodes c.args.table.now) c.args.field)) (t.bound 1)) t.null) (c.in_ok-end.ensures.node (the_field (slice_get (nodes c.args.table.now) c.args.field)) (c.same_child.ensures.grows.nodes.keeps c.args.field (of_field (the_field (slice_get (nodes c.args.table.now) c.args.field))) c.requires.field)) }

pub returns-clause-node : goal.returns-clause-node
returns-clause-node c = λ f g h_field h_other. c.follows_for_two.ensures.node (t.eq_object (t.read_object f (t.bound 1)) (t.read_object g (t.bound 0))) (t.eq_object (t.read_object f (t.bound 1)) t.null) (c.no_child.ensures.grows.nodes.keeps c.in_ok-premise.premise (of_truth (t.eq_object (t.read_object f (t.bound 1)) (t.read_object g (t.bound 0)))) (c.in_ok-premise.ensures.node f g h_field h_other)) (c.in_ok-end.ensures.node f (c.same_child.ensures.grows.nodes.keeps c.args.field (of_field f) h_field))

pub returns-clause-grows : goal.returns-clause-grows
returns-clause-grows c = (extends-trans c.args.table.now c.no_child.new.table c.follows_for_two.new.table (extends-trans c.args.table.now c.same_child.new.table c.no_child.new.table c.same_child.ensures.grows c.no_child.ensures.grows) c.follows_for_two.ensures.grows)
