use Rattle.std.proofs.Common.{◌≡◌, sym, ap, ◌∙◌, Some, slice_get}
use Rattle.std.proofs.lemmas.Result.{IfOk-weaker}
use Rattle.jh_form.specs.Tree.{of_truth}
use Rattle.jh_form.specs.Tree as t
use Rattle.jh_arena.specs.table.Entries.{the_truth}
use Rattle.jh_arena.specs.table.Nodes.{nodes}
use Rattle.jh_fca.specs.cutting.Cut.{two_ways}
use Rattle.jh_fca.proofs.cutting.Arms.{two-ways-opened, two-ways-kept}
use Rattle.jh_fca.proofs.cutting.iffs.opened.Goals as goal

pub returns-then-foreign-clause-node : goal.returns-then-foreign-clause-node
returns-then-foreign-clause-node c =
    IfOk-weaker
    c.both_ways.result
    (λ made. slice_get (nodes c.both_ways.new.table) made ≡ Some (of_truth (t.and (t.implies (the_truth (slice_get (nodes c.args.table.now) c.args.a)) (the_truth (slice_get (nodes c.args.table.now) c.args.b))) (t.implies (the_truth (slice_get (nodes c.args.table.now) c.args.b)) (the_truth (slice_get (nodes c.args.table.now) c.args.a))))))
    (λ made. slice_get (nodes c.both_ways.new.table) made ≡ Some (of_truth (two_ways (t.iff (the_truth (slice_get (nodes c.args.table.now) c.args.a)) (the_truth (slice_get (nodes c.args.table.now) c.args.b))))))
    (λ made at. at ∙ ap (λ f. Some (of_truth f)) (two-ways-opened (the_truth (slice_get (nodes c.args.table.now) c.args.a)) (the_truth (slice_get (nodes c.args.table.now) c.args.b)) (sym c.in_ok-foreign.ensures ∙ c.if-foreign.true)))
    c.both_ways.ensures.node

pub returns-else-foreign-clause-node : goal.returns-else-foreign-clause-node
returns-else-foreign-clause-node c =
    IfOk-weaker
    c.equivalence.result
    (λ made. slice_get (nodes c.equivalence.new.table) made ≡ Some (of_truth (t.iff (the_truth (slice_get (nodes c.args.table.now) c.args.a)) (the_truth (slice_get (nodes c.args.table.now) c.args.b)))))
    (λ made. slice_get (nodes c.equivalence.new.table) made ≡ Some (of_truth (two_ways (t.iff (the_truth (slice_get (nodes c.args.table.now) c.args.a)) (the_truth (slice_get (nodes c.args.table.now) c.args.b))))))
    (λ made at. at ∙ ap (λ f. Some (of_truth f)) (two-ways-kept (the_truth (slice_get (nodes c.args.table.now) c.args.a)) (the_truth (slice_get (nodes c.args.table.now) c.args.b)) (sym c.in_ok-foreign.ensures ∙ c.if-foreign.false)))
    c.equivalence.ensures.node
