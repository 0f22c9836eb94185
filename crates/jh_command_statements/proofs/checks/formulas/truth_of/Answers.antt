use Rattle.std.proofs.Common.{◌∙◌, ap, sym, Some, slice_get}
use Rattle.jh_form.specs.Tree.{of_truth}
use Rattle.jh_arena.specs.table.Nodes.{nodes}
use Rattle.jh_command_statements.proofs.checks.StepSteps.{if-ok}
use Rattle.jh_command_statements.proofs.checks.ToldSteps.{is-formula, no-formula}
use Rattle.jh_command_statements.proofs.checks.formulas.truth_of.Goals as goal

pub returns-then-is_formula-clause-node : goal.returns-then-is_formula-clause-node
returns-then-is_formula-clause-node c = is-formula (slice_get (nodes c.args.table.now) c.args.node) (sym c.is_formula.ensures ∙ c.if-is_formula.true)

pub returns-clause-node : goal.returns-clause-node
returns-clause-node c =
    if-ok c.truth.result (λ made node. node ∙ ap (λ a. Some (of_truth a)) (sym (no-formula (slice_get (nodes c.args.table.now) c.args.node) (sym c.is_formula.ensures ∙ c.if-is_formula.false)))) c.truth.ensures.node
