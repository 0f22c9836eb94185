use Rattle.jh_guard.specs.Steps.{assume_named}
use Rattle.std.proofs.Common.{codes}
use Rattle.jh_form.specs.Tree as tree
use Rattle.jh_method_commands.proofs.commands.SideSteps.{is-grown}
use Rattle.jh_method_commands.proofs.commands.statements.push_end.Goals as goal

pub returns-clause-commands : goal.returns-clause-commands
returns-clause-commands c = λ f a e h.
    c.in_ok-push_choice.ensures c.left.new.table a (assume_named (codes "cond") c.args.place (tree.negation f)) (is-grown c.args.table.now c.left.new.table _ a h c.left.ensures.grows) (c.in_ok-end.ensures.command f e)
