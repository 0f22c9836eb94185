use Rattle.std.proofs.Common.{◌∙◌, List, ap, sym, subst, refl}
use Rattle.jh_wp.specs.Command.{CommandTree}
use Rattle.jh_state_facts.specs.changes.Added.{AddsCommands}
use Rattle.jh_state_facts.proofs.changes.AddedSteps.{adds-none}
use Rattle.jh_method_commands.specs.environment.Outlines.{method_of}
use Rattle.jh_method_commands.proofs.commands.CallSteps.{method-absent, no-commands, no-turn}
use Rattle.jh_method_commands.proofs.commands.calling.push_call.Goals as goal

pub returns-in-None-clause-commands : goal.returns-in-None-clause-commands
returns-in-None-clause-commands c =
    let o = c.args.outline.now in
    subst (λ (fs : List CommandTree). AddsCommands c.args.table.now c.args.commands.now.items c.args.commands.now.items fs) (no-commands o c.args.this c.args.scope.now c.args.call.now c.args.turn (method-absent o _ (ap (λ z. method_of o (record { class = c.args.call.now.class; name = z })) (sym c.text.ensures) ∙ c.in-None.ensures.none refl)))
    (adds-none c.args.table.now c.args.commands.now.items)

pub returns-in-None-clause-next : goal.returns-in-None-clause-next
returns-in-None-clause-next c =
    let o = c.args.outline.now in
    no-turn o c.args.this c.args.scope.now c.args.call.now c.args.turn (method-absent o _ (ap (λ z. method_of o (record { class = c.args.call.now.class; name = z })) (sym c.text.ensures) ∙ c.in-None.ensures.none refl))
