use Rattle.std.proofs.Common.{ap, ◌∙◌}
use Rattle.jh_form.specs.Closed.{is_closed_value}
use Rattle.jh_arena.specs.table.Entries.{the_value}
use Rattle.jh_derivation_steps.proofs.closedness.closing.field.Goals as goal

pub returns : goal.returns
unfolding is_closed_value the_value
returns c = c.is_closed.ensures ∙ ap (λ o. is_closed_value (the_value o) 0) c.requires
