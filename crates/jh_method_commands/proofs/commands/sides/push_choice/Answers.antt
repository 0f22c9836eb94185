use Rattle.std.proofs.Common.{sym, subst}
use Rattle.jh_call_commands.specs.jh_command_terms.declared.command.command.Command.{Command}
use Rattle.jh_method_commands.specs.commands.Sides.{IsCommand}
use Rattle.jh_method_commands.proofs.commands.SideSteps.{adds-choice}
use Rattle.jh_method_commands.proofs.commands.sides.push_choice.Goals as goal

pub returns : goal.returns
returns c = λ t a b h k.
    adds-choice t c.args.commands.now.items c.push.new.self.items c.in_ok-first.first c.in_ok-second.second a b c.in_ok-push.ensures.items (subst (λ (x : Command). IsCommand t x a) (sym c.in_ok-first.ensures.ok) h) (subst (λ (x : Command). IsCommand t x b) (sym c.in_ok-second.ensures.ok) k)
