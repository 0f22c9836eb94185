use Rattle.std.proofs.Common.{◌∙◌}
use Rattle.jh_approx.specs.definition.Links.{named_in}
use Rattle.jh_abstraction.proofs.choice_of_hypotheses.labels.is_chosen.Goals as goal

pub returns : goal.returns
returns c = λ m k h l. c.is_named.ensures ∙ (λ i. named_in (c.from_of.ensures m h i) (c.name_of.ensures k l i))
