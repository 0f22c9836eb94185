use Rattle.std.proofs.Common.{◌≡◌, ap, Err}
use Rattle.jh_instantiation.specs.declared.instances.making.InstanceError.TheVariants.{TooMany}
use Rattle.jh_instantiation.proofs.instances.rounds.entries.Goals as goal

pub returns-in-Err-clause-too_many : goal.returns-in-Err-clause-too_many
returns-in-Err-clause-too_many c = λ fs n hf is.
    let same : c.in-Err.error ≡ TooMany n = cc in
    c.in-Err.ensures.too_many fs n hf (ap (λ e. Err e) same)
