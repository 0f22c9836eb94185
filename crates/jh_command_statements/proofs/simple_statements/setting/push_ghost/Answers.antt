use Rattle.std.proofs.Common.{◌∙◌, ap, subst}
use Rattle.jh_semantics.specs.LoweredStmts.{GhostTarget, ghost_target}
use Rattle.jh_semantics.specs.typed_code.Statements.{value_of}
use Rattle.jh_command_statements.proofs.checks.ToldSteps.{formulas-grow}
use Rattle.jh_state_facts.specs.changes.Added.{AddsCommands}
use Rattle.jh_state_facts.proofs.changes.AddedSteps.{on-ok}
use Rattle.jh_command_statements.specs.simple_statements.Ghosts.{ghost_commands}
use Rattle.jh_command_statements.proofs.simple_statements.ValueSteps.{value-is}
use Rattle.jh_command_statements.proofs.simple_statements.setting.push_ghost.Goals as goal

pub returns-clause-commands : goal.returns-clause-commands
returns-clause-commands c =
    let t = c.args.table.now in
    let u = c.value_node.new.table in
    on-ok c.push_left.result
    (λ h p told.
    subst (λ (x : GhostTarget). AddsCommands c.push_left.new.table c.args.commands.now.items c.push_left.new.commands.items (ghost_commands c.args.place x (value_of p c.args.value))) (c.in_ok-left.ensures.target ∙ ap ghost_target (value-is u c.in_ok-target.target (value_of p c.args.target) (c.in_ok-target.ensures.node p told)))
    (h p (formulas-grow t u c.value_node.ensures.grows p c.args.formulas.now told)))
    c.push_left.ensures.commands
