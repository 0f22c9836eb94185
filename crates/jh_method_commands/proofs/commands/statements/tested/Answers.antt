use Rattle.jh_method_commands.proofs.commands.OutlinedSteps.{outlined_grows}
use Rattle.jh_method_commands.proofs.commands.SideSteps.{if-ok, truth-there, whatever}
use Rattle.jh_method_commands.proofs.commands.statements.tested.Goals as goal

pub returns-clause-outlined : goal.returns-clause-outlined
returns-clause-outlined c = whatever c.push_test.result (outlined_grows c.args.table.now c.push_test.new.table c.args.outline.now c.requires c.push_test.ensures.grows)

pub returns-clause-truth : goal.returns-clause-truth
returns-clause-truth c = if-ok c.push_test.result (λ made e. truth-there c.push_test.new.table made _ e) c.push_test.ensures.node
