use Rattle.std.proofs.Common.{◌≡◌, List, ap, sym, subst, ◌∙◌, true, arith, map}
use Rattle.jh_command_terms.specs.command.Code.{command_fits, list_in}
use Rattle.jh_wp.specs.Command as w
use Rattle.jh_boxed_commands.specs.declared.commands.command.Command.{Command}
use Rattle.jh_boxed_commands.specs.declared.commands.command.Command.TheVariants as v
use Rattle.jh_boxed_commands.specs.commands.Trees.{command_tree}
use Rattle.jh_boxed_commands.proofs.commands.BoxSteps.{boxed-next, boxed-end, one-fits}
use Rattle.jh_boxed_commands.proofs.commands.boxing.+boxed.Goals as goal

pub boxed_all-loop-step-init : goal.boxed_all-loop-step-init
boxed_all-loop-step-init t c = ap (map command_tree) c.new-made.ensures.items

pub boxed_all-boxed-requires : goal.boxed_all-boxed-requires
boxed_all-boxed-requires t c =
    let fits : command_fits c.args.table.now c.step-item.result ≡ true = one-fits c.args.table.now c.args.steps.now c.loop-step.step-index c.step-item.result c.requires c.loop-step-test.true c.step-item.is in
    (omega (arith, c.decreases), fits)

pub boxed_all-loop-step-preserved : goal.boxed_all-loop-step-preserved
boxed_all-loop-step-preserved t c =
    boxed-next c.args.table.now c.loop-step.made.items c.push.new.self.items c.in_ok-one.one c.loop-step.step-index c.args.steps.now c.step-item.result c.loop-step.invariant c.in_ok-one.ensures c.in_ok-push.ensures.items c.loop-step-test.true c.step-item.is

pub boxed_all-returns : goal.boxed_all-returns
boxed_all-returns t c =
    ap (λ (xs : List Command). command_tree (v.Seq xs)) c.of.ensures
    ∙ boxed-end c.args.table.now c.loop-step.made.items c.loop-step.step-index c.args.steps.now c.loop-step.invariant c.loop-step-test.false
