use Rattle.std.proofs.Common.{◌∙◌, ap, Some, slice_get}
use Rattle.jh_form.specs.Tree.{of_truth}
use Rattle.jh_arena.specs.table.Entries.{the_truth}
use Rattle.jh_arena.specs.table.Nodes.{nodes}
use Rattle.jh_vars.specs.Resolved.{as_truth}
use Rattle.jh_guard.specs.Calls.{renamed_by}
use Rattle.jh_semantics.specs.typed_code.Statements.{value_of}
use Rattle.jh_havoc.specs.jh_command_statements.checks.Told.{node_of, told_at}
use Rattle.jh_havoc.proofs.of_jh_command_statements.checks.StepSteps.{if-ok, truth-there, truth-is}
use Rattle.jh_call_commands.specs.contract_instances.Calling.{name_at}
use Rattle.jh_call_commands.proofs.calls.contracts.renamed_claim.Goals as goal

pub at_call-requires : goal.at_call-requires
at_call-requires c = truth-there c.formula_node.new.table c.in_ok-formula.formula (the_truth (told_at c.args.table.now (node_of c.args.formulas.now c.args.claim.now.number))) c.in_ok-formula.ensures.node

pub returns-clause-truth : goal.returns-clause-truth
returns-clause-truth c =
    if-ok c.at_call.result
    (λ made e. truth-there c.at_call.new.table made (renamed_by (name_at c.args.calling) (the_truth (slice_get (nodes c.formula_node.new.table) c.in_ok-formula.formula))) e)
    c.at_call.ensures.tree

pub returns-clause-node : goal.returns-clause-node
returns-clause-node c =
    if-ok c.at_call.result
    (λ made e p are. e ∙ ap (λ a. Some (of_truth (renamed_by (name_at c.args.calling) a))) (truth-is c.formula_node.new.table c.in_ok-formula.formula (as_truth (value_of p c.args.claim.now.number)) (c.in_ok-formula.ensures.formula p are)))
    c.at_call.ensures.tree
