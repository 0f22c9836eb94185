use Rattle.jh_form.specs.Bare.{formula_tree}
use Rattle.jh_boxed_commands.proofs.conditions.EnteredSteps.{truth-kept}
use Rattle.jh_boxed_commands.proofs.conditions.entered.enter_parts.Goals as goal

pub returns-clause-entered : goal.returns-clause-entered
returns-clause-entered c =
    let q = formula_tree c.args.normal.now in
    let r = formula_tree c.args.returned.now in
    let t = c.enter_formula.new.table in
    let u = c.enter_formula-2.new.table in
    let w = c.enter_command.new.table in
    record {
      command = c.in_ok-command.ensures.command;
      normal = truth-kept u w c.in_ok-normal.normal q (truth-kept t u c.in_ok-normal.normal q c.in_ok-normal.ensures.node c.enter_formula-2.ensures.grows) c.enter_command.ensures.grows;
      returned = truth-kept u w c.in_ok-returned.returned r c.in_ok-returned.ensures.node c.enter_command.ensures.grows;
    }
