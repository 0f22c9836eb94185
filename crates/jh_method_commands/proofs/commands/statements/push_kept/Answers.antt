use Rattle.jh_state_facts.proofs.changes.AddedSteps.{on-ok}
use Rattle.jh_method_commands.specs.environment.Outlines.{source_of}
use Rattle.jh_method_commands.proofs.commands.OutlinedSteps.{the-outline}
use Rattle.jh_method_commands.proofs.commands.statements.push_kept.Goals as goal

pub returns-clause-commands : goal.returns-clause-commands
returns-clause-commands c =
    on-ok c.push_kept.result
    (λ h. h (source_of c.args.outline.now) (the-outline c.args.table.now c.args.outline.now c.requires).formulas)
    c.push_kept.ensures.commands
