use Rattle.std.proofs.Common.{◌∙◌, sym, ap, [], Some}
use Rattle.std.specs.Option.{option_map_or}
use Rattle.jh_form.specs.declared.mark.MarkKind.TheVariants as kind
use Rattle.jh_form.specs.Tree.{of_truth}
use Rattle.jh_form.specs.Tree as tree
use Rattle.jh_command_statements.proofs.checks.StepSteps.{if-ok, truth-is}
use Rattle.jh_command_statements.proofs.checks.claims.labelled_fact.Goals as goal

pub returns-in_ok-mark-in-Some-clause-node : goal.returns-in_ok-mark-in-Some-clause-node
returns-in_ok-mark-in-Some-clause-node c =
    if-ok c.labelled.result
    (λ made node f h. node ∙ (λ i. Some (of_truth (tree.mark (c.in_ok-mark-in-Some.ensures i) (truth-is c.args.table.now c.args.fact f h i))))
    ∙ ap (λ o. Some (of_truth (option_map_or (λ x. tree.mark (record { kind = kind.Fact; place = c.args.place; name = Some x; from = [] }) f) o f))) (sym c.in-Some.is))
    c.labelled.ensures.node
