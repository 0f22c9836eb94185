use Rattle.jh_prove.proofs.prover.Rights.{proved-valid}
use Rattle.jh_prove.proofs.prover.laws.proved_is_valid.Goals as goal

pub returns : goal.returns
returns c =
    proved-valid c.trivial_is_valid.ensures c.true_query_is_valid.ensures c.local_proof_is_valid.ensures c.local_has_shape.ensures
    c.local_is_valid.ensures
