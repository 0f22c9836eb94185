use Rattle.std.proofs.Common.{◌∙◌, ap, sym, Some}
use Rattle.jh_form.specs.Tree.{of_truth}
use Rattle.jh_arena.specs.table.Entries.{the_truth}
use Rattle.jh_command_statements.specs.checks.Told.{told_at}
use Rattle.jh_command_statements.proofs.checks.StepSteps.{if-ok}
use Rattle.jh_command_statements.proofs.checks.ToldSteps.{nothing-told}
use Rattle.jh_command_statements.proofs.checks.formulas.truth_at.Goals as goal

pub returns-in-None-clause-node : goal.returns-in-None-clause-node
returns-in-None-clause-node c =
    if-ok c.truth.result (λ made node. node ∙ ap (λ a. Some (of_truth a)) (sym nothing-told) ∙ ap (λ o. Some (of_truth (the_truth (told_at c.args.table.now o)))) (sym c.in-None.is)) c.truth.ensures.node
