use Rattle.std.proofs.Common.{List, [], ◌∷◌, codes, subst}
use Rattle.jh_call_commands.specs.jh_command_terms.declared.command.command.Command.{Command}
use Rattle.jh_guard.specs.Steps.{assume_named}
use Rattle.jh_state_facts.specs.changes.Added.{AddsCommands}
use Rattle.jh_method_commands.proofs.commands.sides.entered.Goals as goal

pub returns-clause-commands : goal.returns-clause-commands
returns-clause-commands c = λ f h.
    subst (λ (xs : List Command). AddsCommands c.assume_named.new.table xs c.assume_named.new.commands.items (assume_named (codes "cond") c.args.place f ∷ [])) c.new-made.ensures.items (c.in_ok-assume_named.ensures.commands f h)
