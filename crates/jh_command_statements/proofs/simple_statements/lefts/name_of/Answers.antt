use Rattle.std.proofs.Common.{◌∙◌}
use Rattle.jh_command_statements.proofs.simple_statements.CheckedSteps.{if-ok}
use Rattle.jh_command_statements.proofs.simple_statements.LeftSteps.{name-there}
use Rattle.jh_command_statements.proofs.simple_statements.lefts.name_of.Goals as goal

pub returns : goal.returns
returns c = if-ok c.copy.result (λ made e. e ∙ name-there c.args.table.now.pools.names c.args.number c.name_at.result.now c.name_at.ensures) c.copy.ensures
