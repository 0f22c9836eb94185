use Rattle.std.proofs.Common.{[], ◌∷◌, subst}
use Rattle.jh_name.specs.declared.place.Place.{Place}
use Rattle.jh_form.specs.declared.mark.MarkKind.TheVariants as kind
use Rattle.jh_form.specs.Tree as tree
use Rattle.jh_wp.specs.Command as w
use Rattle.jh_guard.specs.Steps.{mark_without_name}
use Rattle.jh_state_facts.specs.changes.Added.{AddsCommands}
use Rattle.jh_command_statements.proofs.checks.StepSteps.{on-ok, check-place, check-fact}
use Rattle.jh_command_statements.proofs.checks.checks.assert_check.Goals as goal

pub returns-clause-commands : goal.returns-clause-commands
returns-clause-commands c =
    on-ok c.assert_bare.result
    (λ told d are.
    subst (λ (q : Place). AddsCommands c.assert_bare.new.table c.args.commands.now.items c.assert_bare.new.commands.items (w.assert (tree.mark (mark_without_name kind.Null q) d.fact) ∷ [])) (check-place c.args.table.now c.args.check d are)
    (told d.fact (check-fact c.args.table.now c.args.check d are)))
    c.assert_bare.ensures.commands
