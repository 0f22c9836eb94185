use Rattle.std.proofs.Common.{List, [], sym, subst, map}
use Rattle.jh_arena.proofs.table.Listed.{extends-refl, extends-trans}
use Rattle.jh_command_terms.specs.declared.command.command.Command.{Command}
use Rattle.jh_command_terms.specs.declared.command.command.Command.TheVariants as v
use Rattle.jh_wp.specs.Command as w
use Rattle.jh_boxed_commands.specs.declared.commands.command.Command.{Command as Boxed}
use Rattle.jh_boxed_commands.specs.commands.Standing.{AreCommands, IsCommand}
use Rattle.jh_boxed_commands.specs.commands.Trees.{command_tree, trees_of}
use Rattle.jh_boxed_commands.proofs.commands.EnterSteps.{are-none, commands-next, commands-end, is-choice, is-grown, is-leave, is-stop}
use Rattle.jh_boxed_commands.proofs.commands.entering.+entered.Goals as goal

pub entered_all-loop-step-init : goal.entered_all-loop-step-init
entered_all-loop-step-init t c = record {
  grows = extends-refl c.args.table.now;
  commands = subst (λ (cs : List Command). AreCommands c.args.table.now cs []) (sym c.new-made.ensures.items) (are-none c.args.table.now);
}

pub entered_all-loop-step-preserved : goal.entered_all-loop-step-preserved
entered_all-loop-step-preserved t c = record {
  grows = extends-trans c.args.table.now c.loop-step.table c.entered.new.table c.loop-step.invariant.grows c.entered.ensures.grows;
  commands =
      commands-next c.loop-step.table c.entered.new.table c.loop-step.made.items c.push.new.self.items c.in_ok-one.one c.loop-step.step-index c.args.steps.now c.step-item.result c.loop-step.invariant.commands c.entered.ensures.grows
      c.in_ok-one.ensures.command c.in_ok-push.ensures.items c.loop-step-test.true c.step-item.is;
}

pub entered_all-returns-clause-command : goal.entered_all-returns-clause-command
entered_all-returns-clause-command t c =
    subst (λ (cs : List Command). IsCommand c.loop-step.table (v.Seq cs) (w.seq (trees_of (map command_tree c.args.steps.now)))) (sym c.of.ensures)
    (commands-end c.loop-step.table c.loop-step.made.items c.loop-step.step-index c.args.steps.now c.loop-step.invariant.commands c.loop-step-test.false)

pub entered-returns-in-Leave-clause-command : goal.entered-returns-in-Leave-clause-command
entered-returns-in-Leave-clause-command t c = subst (λ (x : Boxed). IsCommand c.args.table.now v.Leave (command_tree x)) (sym c.in-Leave.is) (is-leave c.args.table.now)

pub entered-returns-in-Stop-clause-command : goal.entered-returns-in-Stop-clause-command
entered-returns-in-Stop-clause-command t c = subst (λ (x : Boxed). IsCommand c.args.table.now v.Stop (command_tree x)) (sym c.in-Stop.is) (is-stop c.args.table.now)

pub entered_both-returns-clause-command : goal.entered_both-returns-clause-command
entered_both-returns-clause-command t c =
    let u = c.entered-2.new.table in
    let a = command_tree c.args.left.now in
    let b = command_tree c.args.right.now in
    is-choice u c.in_ok-left-2.left c.in_ok-right-2.right a b
    (subst (λ (x : Command). IsCommand u x a) (sym c.in_ok-left-2.ensures.ok) (is-grown c.entered.new.table u c.in_ok-left.left a c.in_ok-left.ensures.command c.entered-2.ensures.grows))
    (subst (λ (x : Command). IsCommand u x b) (sym c.in_ok-right-2.ensures.ok) c.in_ok-right.ensures.command)
