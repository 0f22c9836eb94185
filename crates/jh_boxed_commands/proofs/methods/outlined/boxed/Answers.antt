use Rattle.std.proofs.Common.{ap, ◌∙◌}
use Rattle.jh_arena.specs.table.Entries.{is_truth, the_truth}
use Rattle.jh_boxed_commands.proofs.methods.outlined.boxed.Goals as goal

pub boxed_command-requires : goal.boxed_command-requires
boxed_command-requires c = c.in_ok-made.ensures.body.fits

pub boxed_formula-requires : goal.boxed_formula-requires
unfolding is_truth
boxed_formula-requires c = ap is_truth c.in_ok-made.ensures.returned

pub returns-clause-command : goal.returns-clause-command
unfolding the_truth
returns-clause-command c = record {
  body = c.in_ok-body.ensures ∙ c.in_ok-made.ensures.body.is;
  returned = c.in_ok-returned.ensures.tree ∙ ap the_truth c.in_ok-made.ensures.returned;
}
