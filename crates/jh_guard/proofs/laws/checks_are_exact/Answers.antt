use Rattle.jh_guard.proofs.Checking.{checks-are-exact}
use Rattle.jh_guard.proofs.laws.checks_are_exact.Goals as goal

pub returns : goal.returns
returns c = checks-are-exact
