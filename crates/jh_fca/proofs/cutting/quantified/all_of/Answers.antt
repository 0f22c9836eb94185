use Rattle.std.proofs.Common.{◌≡◌, sym, ap, ◌∙◌, Some, slice_get}
use Rattle.std.proofs.lemmas.Result.{IfOk-weaker}
use Rattle.jh_form.specs.Tree.{of_truth}
use Rattle.jh_form.specs.Tree as t
use Rattle.jh_arena.specs.table.Entries.{the_truth}
use Rattle.jh_arena.specs.table.Nodes.{nodes}
use Rattle.jh_fca.specs.cutting.Cut.{all_of}
use Rattle.jh_fca.proofs.cutting.Foldings.{all-neither, all-constant}
use Rattle.jh_fca.proofs.cutting.Standing.{truth-of}
use Rattle.jh_fca.proofs.cutting.quantified.all_of.Goals as goal

pub returns-in-Some-clause-node : goal.returns-in-Some-clause-node
returns-in-Some-clause-node c =
    truth-of (slice_get (nodes c.args.table.now) c.args.a) c.requires.a ∙ ap (λ f. Some (of_truth f)) (all-constant (the_truth (slice_get (nodes c.args.table.now) c.args.a)) c.in-Some.field-0 (sym c.constant.ensures ∙ c.in-Some.is))

pub returns-in-None-clause-node : goal.returns-in-None-clause-node
returns-in-None-clause-node c =
    IfOk-weaker
    c.for_all.result
    (λ made. slice_get (nodes c.for_all.new.table) made ≡ Some (of_truth (t.all (the_truth (slice_get (nodes c.args.table.now) c.args.a)))))
    (λ made. slice_get (nodes c.for_all.new.table) made ≡ Some (of_truth (all_of (the_truth (slice_get (nodes c.args.table.now) c.args.a)))))
    (λ made at. at ∙ ap (λ f. Some (of_truth f)) (all-neither (the_truth (slice_get (nodes c.args.table.now) c.args.a)) (sym c.constant.ensures ∙ c.in-None.is)))
    c.for_all.ensures.node
