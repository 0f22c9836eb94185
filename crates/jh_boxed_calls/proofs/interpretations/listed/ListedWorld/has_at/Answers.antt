use Rattle.std.proofs.Common.{ap, ◌∙◌, [], get_or}
use Rattle.jh_boxed_calls.specs.interpretations.Interps.{is_listed}
use Rattle.jh_boxed_calls.proofs.interpretations.listed.ListedWorld.has_at.Goals as goal

pub returns : goal.returns
returns c = c.is_listed.ensures ∙ ap (λ members. is_listed members c.args.object) (c.members_at.ensures ∙ ap (λ sets. get_or sets c.args.at []) c.slot.ensures.sets)
