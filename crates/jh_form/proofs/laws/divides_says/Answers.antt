use Rattle.jh_form.proofs.Numbers.{some_factor, factor_divides}
use Rattle.jh_form.proofs.laws.divides_says.Goals as goal

pub returns : goal.returns
returns c k z = (some_factor k z, λ p. factor_divides k z p.0 p.1)
