use Rattle.std.proofs.Common.{ap, ◌∙◌}
use Rattle.jh_boxed_calls.specs.interpretations.Interps.{is_listed}
use Rattle.jh_boxed_calls.proofs.interpretations.listed.ListedWorld.has.Goals as goal

pub returns : goal.returns
returns c = c.is_listed.ensures ∙ ap (λ members. is_listed members c.args.object) c.slot.ensures.set
