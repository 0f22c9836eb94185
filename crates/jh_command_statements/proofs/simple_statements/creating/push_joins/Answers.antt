use Rattle.jh_form.specs.Tree as tree
use Rattle.jh_semantics.specs.State.{named}
use Rattle.jh_state_facts.proofs.changes.AddedSteps.{on-ok}
use Rattle.jh_command_statements.proofs.simple_statements.creating.push_joins.Goals as goal

pub returns-clause-commands : goal.returns-clause-commands
returns-clause-commands c = on-ok c.assign_name.result (λ h a e. h (tree.of_set (tree.union (tree.free_set (named c.args.text.now)) (tree.single a))) (c.in_ok-set.ensures.node a e)) c.assign_name.ensures
