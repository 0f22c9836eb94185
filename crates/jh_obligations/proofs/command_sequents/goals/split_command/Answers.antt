use Rattle.std.proofs.Common.{◌↔◌, ap, subst, ℕ}
use Rattle.std.specs.Prelude.{IfOk}
use Rattle.jh_form.specs.Tree.{FormulaTree}
use Rattle.jh_arena.specs.table.Entries.{is_truth, the_truth}
use Rattle.jh_seq.specs.splitting.Laws.{AllValid, IsTautology}
use Rattle.jh_seq.specs.splitting.Split.{split_of}
use Rattle.jh_splitting.specs.Numbering.{IsFirst}
use Rattle.jh_splitting.specs.Standing.{AreSequents}
use Rattle.jh_obligations.proofs.command_sequents.Owing.{always}
use Rattle.jh_obligations.proofs.command_sequents.goals.split_command.Goals as goal

-- src/goals.rt
pub split_in-requires : goal.split_in-requires
unfolding is_truth
split_in-requires c = record { there = ap is_truth c.in_ok-node.ensures.node }

-- src/goals.rt
pub returns-clause-sequents : goal.returns-clause-sequents
unfolding the_truth
returns-clause-sequents c =
    subst (λ (a : FormulaTree). IfOk c.split_in.result (λ made. (k : ℕ) × IsFirst a k × AreSequents c.split_in.new.table made.hyps made.method made.sequents.items (split_of c.args.method a k)))
    (ap the_truth c.in_ok-node.ensures.node) c.split_in.ensures.sequents

-- src/goals.rt
pub returns-clause-exact : goal.returns-clause-exact
unfolding the_truth
returns-clause-exact c =
    always c.split_in.result (λ made.
    subst (λ (a : FormulaTree). (k : ℕ) → IsFirst a k → AllValid (split_of c.args.method a k) ↔ IsTautology a) (ap the_truth c.in_ok-node.ensures.node) c.split_in.ensures.exact)
