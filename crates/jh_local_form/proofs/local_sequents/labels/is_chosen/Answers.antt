use Rattle.std.proofs.Common.{◌∙◌}
use Rattle.jh_local_form.specs.local_sequents.Choosing.{is_chosen_by}
use Rattle.jh_local_form.proofs.local_sequents.labels.is_chosen.Goals as goal

pub returns : goal.returns
returns c = λ m k h l. c.is_used.ensures ∙ (λ i. is_chosen_by (c.from_of.ensures m h i) (c.name_of.ensures k l i))
