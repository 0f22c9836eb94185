use Rattle.std.proofs.Common.{ap, ◌∙◌, ◌==◌, not, length}
use Rattle.jh_abstraction.proofs.choice_of_hypotheses.labels.names_facts.Goals as goal

pub returns : goal.returns
returns c = λ mark is. ap not (c.is_empty.ensures ∙ ap (λ ns. length ns == 0) (c.from_of.ensures mark is))
