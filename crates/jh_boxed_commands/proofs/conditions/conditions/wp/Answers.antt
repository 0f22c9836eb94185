use Rattle.std.proofs.Common.{◌≡◌, ap, ◌∙◌, true, []}
use Rattle.std.proofs.lemmas.Result.{IfOk-weaker}
use Rattle.std.specs.List.{list_all}
use Rattle.jh_form.specs.Bare.{formula_tree}
use Rattle.jh_form.specs.Meaning.{Interp, truth}
use Rattle.jh_wp.specs.Command.{is_closed_command}
use Rattle.jh_wp.specs.Runs.{ends}
use Rattle.jh_wp.specs.Wp.{wp, ends_well}
use Rattle.jh_boxed_commands.specs.commands.Trees.{command_tree}
use Rattle.jh_boxed_commands.proofs.conditions.EnteredSteps.{entered-there}
use Rattle.jh_boxed_commands.proofs.conditions.conditions.wp.Goals as goal

pub weakest-requires : goal.weakest-requires
weakest-requires c =
    entered-there c.enter_parts.new.table (command_tree c.args.command.now) (formula_tree c.args.normal.now) (formula_tree c.args.returned.now) c.in_ok-entered.entered c.in_ok-entered.ensures.entered

pub returns-clause-tree : goal.returns-clause-tree
returns-clause-tree c = c.weakest.ensures (command_tree c.args.command.now) (formula_tree c.args.normal.now) (formula_tree c.args.returned.now) c.in_ok-entered.ensures.entered

pub returns-clause-exact : goal.returns-clause-exact
returns-clause-exact c =
    let x = command_tree c.args.command.now in
    let q = formula_tree c.args.normal.now in
    let r = formula_tree c.args.returned.now in
    IfOk-weaker c.weakest.result (λ made. formula_tree made ≡ wp x q r)
    (λ made. is_closed_command x ≡ true → (m : Interp) → truth (formula_tree made) m [] ≡ list_all (ends_well q r) (ends x m))
    (λ made e closed m. ap (λ a. truth a m []) e ∙ c.wp_is_weakest.ensures x closed q r m)
    (returns-clause-tree c)
