use Rattle.std.proofs.Common.{subst, [], ◌∷◌}
use Rattle.jh_name.specs.declared.naming.Name.{Name}
use Rattle.jh_wp.specs.Command as w
use Rattle.jh_state_facts.specs.changes.Added.{AddsCommands}
use Rattle.jh_state_facts.proofs.changes.AddedSteps.{adds-assign}
use Rattle.jh_command_statements.proofs.checks.puts.assign_name.Goals as goal

pub returns : goal.returns
returns c = λ v h.
    subst (λ (x : Name). AddsCommands c.args.table.now c.args.commands.now.items c.push.new.self.items (w.assign x v ∷ [])) c.in_ok-plain.ensures
    (adds-assign c.args.table.now c.args.commands.now.items c.push.new.self.items c.in_ok-plain.plain c.args.value v c.in_ok-push.ensures.items h)
