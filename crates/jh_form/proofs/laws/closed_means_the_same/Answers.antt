use Rattle.std.proofs.Common.{arith}
use Rattle.jh_form.proofs.ClosedLemmas.{datum-closed}
use Rattle.jh_form.proofs.laws.closed_means_the_same.Goals as goal

pub returns : goal.returns
returns c a m e g h = datum-closed a m 0 e g (λ k lt. absurd (omega arith)) h
