use Rattle.std.proofs.Common.{List, sym, subst}
use Rattle.jh_call_commands.specs.jh_command_terms.declared.command.command.Command.{Command}
use Rattle.jh_call_commands.specs.jh_command_terms.declared.command.command.Command.TheVariants as v
use Rattle.jh_guard.specs.Steps.{sequence}
use Rattle.jh_method_commands.specs.commands.Sides.{IsCommand}
use Rattle.jh_method_commands.proofs.commands.SideSteps.{is-sequence}
use Rattle.jh_method_commands.proofs.commands.sides.sequence.Goals as goal

pub returns : goal.returns
returns c = λ t fs h. subst (λ (cs : List Command). IsCommand t (v.Seq cs) (sequence fs)) (sym c.of.ensures) (is-sequence t c.args.commands.items fs h)
