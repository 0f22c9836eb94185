use Rattle.jh_prove.proofs.prover.Rights.{one-verdict}
use Rattle.jh_prove.proofs.prover.laws.one_verdict_is_right.Goals as goal

pub returns : goal.returns
returns c = one-verdict
