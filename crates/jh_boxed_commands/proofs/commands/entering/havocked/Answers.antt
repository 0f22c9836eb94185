use Rattle.std.proofs.Common.{subst}
use Rattle.jh_name.specs.declared.naming.Name.{Name}
use Rattle.jh_command_terms.specs.declared.command.command.Command.TheVariants as v
use Rattle.jh_wp.specs.Command as w
use Rattle.jh_boxed_commands.specs.commands.Standing.{IsCommand}
use Rattle.jh_boxed_commands.proofs.commands.EnterSteps.{is-havoc}
use Rattle.jh_boxed_commands.proofs.commands.entering.havocked.Goals as goal

pub returns : goal.returns
returns c =
    let t = c.args.table.now in
    let x = c.in_ok-name.name in
    let y = c.in_ok-with.with in
    subst (λ (z : Name). IsCommand t (v.Havoc x y) (w.havoc c.args.name.now z)) c.in_ok-with.ensures (subst (λ (z : Name). IsCommand t (v.Havoc x y) (w.havoc z y)) c.in_ok-name.ensures (is-havoc t x y))
