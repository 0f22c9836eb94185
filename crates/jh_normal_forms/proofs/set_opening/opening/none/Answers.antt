use Rattle.std.proofs.Common.{◌≡◌, ap, ◌∙◌, Some, slice_get}
use Rattle.std.proofs.lemmas.Result.{IfOk-weaker}
use Rattle.jh_form.specs.Tree.{of_object, of_set, of_truth}
use Rattle.jh_form.specs.Tree as t
use Rattle.jh_arena.specs.table.Entries.{the_truth}
use Rattle.jh_arena.specs.table.Nodes.{nodes}
use Rattle.jh_normal_forms.proofs.set_opening.Arms.{truth-there, truth-at}
use Rattle.jh_normal_forms.proofs.set_opening.opening.none.Goals as goal

pub comprehension-requires : goal.comprehension-requires
comprehension-requires c = record { a = truth-there (slice_get (nodes c.falsehood.new.table) c.in_ok-formula.formula) _ c.in_ok-formula.ensures.node }

pub returns-clause-node : goal.returns-clause-node
returns-clause-node c =
    let us = nodes c.falsehood.new.table in
    IfOk-weaker
    c.comprehension.result
    (λ made. slice_get (nodes c.comprehension.new.table) made ≡ Some (of_set (t.compr (the_truth (slice_get us c.in_ok-formula.formula)))))
    (λ made. slice_get (nodes c.comprehension.new.table) made ≡ Some (of_set (t.compr t.false_formula)))
    (λ made at. at ∙ ap (λ f. Some (of_set (t.compr f))) (truth-at (slice_get us c.in_ok-formula.formula) t.false_formula c.in_ok-formula.ensures.node))
    c.comprehension.ensures.node
