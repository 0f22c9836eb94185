use Rattle.std.proofs.Common.{ap}
use Rattle.jh_form.specs.Bare.{formula_tree}
use Rattle.jh_boxed_operations.specs.comparison.Unmarked.{unmarked_formula}
use Rattle.jh_arena.specs.table.Entries.{is_truth}
use Rattle.jh_arena.specs.table.Nodes.{nodes}
use Rattle.jh_deriv.proofs.Operands.{negated-truth, if-ok}
use Rattle.jh_deriv.proofs.entering.negated_goal.Goals as goal

pub negation-requires : goal.negation-requires
unfolding is_truth
negation-requires c = record { a = ap is_truth c.in_ok-node.ensures.node }

pub returns-clause-node : goal.returns-clause-node
returns-clause-node c =
    if-ok c.negation.result (λ made is. negated-truth (nodes c.bare_formula.new.table) (nodes c.negation.new.table) c.in_ok-node.node made (unmarked_formula (formula_tree c.args.goal.now)) c.in_ok-node.ensures.node is) c.negation.ensures.node
