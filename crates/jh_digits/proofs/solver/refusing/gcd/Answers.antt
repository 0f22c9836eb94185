use Rattle.std.proofs.Common.{arith}
use Rattle.std.proofs.lemmas.Nat.Gcd.{IsGcd-from_mod, IsGcd-from_zero}
use Rattle.jh_digits.proofs.solver.refusing.gcd.Goals as goal

pub loop-second-preserved : goal.loop-second-preserved
loop-second-preserved c = λ g h. c.loop-second.invariant g (IsGcd-from_mod c.loop-second.first c.loop-second.second g h)

pub returns : goal.returns
returns c = c.loop-second.invariant c.loop-second.first (IsGcd-from_zero c.loop-second.first c.loop-second.second (omega (arith, c.loop-second-test.false)))
