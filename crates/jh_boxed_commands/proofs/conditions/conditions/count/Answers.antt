use Rattle.jh_form.specs.Bare.{formula_tree}
use Rattle.jh_boxed_commands.specs.commands.Trees.{command_tree}
use Rattle.jh_boxed_commands.proofs.conditions.EnteredSteps.{entered-there}
use Rattle.jh_boxed_commands.proofs.conditions.conditions.count.Goals as goal

pub counted-requires : goal.counted-requires
counted-requires c =
    entered-there c.enter_parts.new.table (command_tree c.args.command.now) (formula_tree c.args.normal.now) (formula_tree c.args.returned.now) c.in_ok-entered.entered c.in_ok-entered.ensures.entered

pub returns : goal.returns
returns c = c.counted.ensures (command_tree c.args.command.now) (formula_tree c.args.normal.now) (formula_tree c.args.returned.now) c.in_ok-entered.ensures.entered
