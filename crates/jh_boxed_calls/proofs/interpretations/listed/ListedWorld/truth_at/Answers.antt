use Rattle.std.proofs.Common.{ap, ◌∙◌, get_or, false}
use Rattle.jh_boxed_calls.proofs.interpretations.listed.ListedWorld.truth_at.Goals as goal

pub returns : goal.returns
returns c = c.value_at.ensures ∙ ap (λ values. get_or values c.args.at false) c.slot.ensures.truths
