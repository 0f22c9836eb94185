use Rattle.std.proofs.Common.{◌≡◌, sym, ap, ◌∙◌, Some, slice_get}
use Rattle.std.proofs.lemmas.Result.{IfOk-weaker}
use Rattle.jh_form.specs.Tree.{of_truth}
use Rattle.jh_form.specs.Tree as t
use Rattle.jh_arena.specs.table.Entries.{the_truth}
use Rattle.jh_arena.specs.table.Nodes.{nodes}
use Rattle.jh_fca.specs.cutting.Cut.{instead_of}
use Rattle.jh_fca.proofs.cutting.Standing.{truth-of}
use Rattle.jh_fca.proofs.cutting.removing.instead_of.Goals as goal

pub returns-in-Positive-clause-node : goal.returns-in-Positive-clause-node
unfolding instead_of
returns-in-Positive-clause-node c =
    IfOk-weaker
    c.falsehood.result
    (λ made. slice_get (nodes c.falsehood.new.table) made ≡ Some (of_truth t.false_formula))
    (λ made. slice_get (nodes c.falsehood.new.table) made ≡ Some (of_truth (instead_of (the_truth (slice_get (nodes c.args.table.now) c.args.node)) c.args.polarity)))
    (λ made at. at ∙ ap (λ d. Some (of_truth (instead_of (the_truth (slice_get (nodes c.args.table.now) c.args.node)) d))) (sym c.in-Positive.is))
    c.falsehood.ensures.node

pub returns-in-Negative-clause-node : goal.returns-in-Negative-clause-node
unfolding instead_of
returns-in-Negative-clause-node c =
    IfOk-weaker
    c.truth.result
    (λ made. slice_get (nodes c.truth.new.table) made ≡ Some (of_truth t.true_formula))
    (λ made. slice_get (nodes c.truth.new.table) made ≡ Some (of_truth (instead_of (the_truth (slice_get (nodes c.args.table.now) c.args.node)) c.args.polarity)))
    (λ made at. at ∙ ap (λ d. Some (of_truth (instead_of (the_truth (slice_get (nodes c.args.table.now) c.args.node)) d))) (sym c.in-Negative.is))
    c.truth.ensures.node

pub returns-in-Both-clause-node : goal.returns-in-Both-clause-node
unfolding instead_of
returns-in-Both-clause-node c = truth-of (slice_get (nodes c.args.table.now) c.args.node) c.requires.there ∙ ap (λ d. Some (of_truth (instead_of (the_truth (slice_get (nodes c.args.table.now) c.args.node)) d))) (sym c.in-Both.is)
