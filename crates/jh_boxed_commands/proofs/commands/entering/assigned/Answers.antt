use Rattle.std.proofs.Common.{subst}
use Rattle.jh_name.specs.declared.naming.Name.{Name}
use Rattle.jh_form.specs.Bare.{value_tree}
use Rattle.jh_command_terms.specs.declared.command.command.Command.TheVariants as v
use Rattle.jh_wp.specs.Command as w
use Rattle.jh_boxed_commands.specs.commands.Standing.{IsCommand}
use Rattle.jh_boxed_commands.proofs.commands.EnterSteps.{is-assign}
use Rattle.jh_boxed_commands.proofs.commands.entering.assigned.Goals as goal

pub returns-clause-command : goal.returns-clause-command
returns-clause-command c =
    let t = c.enter.new.table in
    let tree = value_tree c.args.value.now in
    subst (λ (x : Name). IsCommand t (v.Assign c.in_ok-name.name c.in_ok-value.value) (w.assign x tree)) c.in_ok-name.ensures (is-assign t c.in_ok-name.name c.in_ok-value.value tree c.in_ok-value.ensures.node)
