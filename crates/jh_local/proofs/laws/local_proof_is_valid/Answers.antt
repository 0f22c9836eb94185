use Rattle.jh_local.proofs.Proofs.{proof-valid}
use Rattle.jh_local.proofs.laws.local_proof_is_valid.Goals as goal

pub returns : goal.returns
returns c =
    proof-valid c.made_is_local.ensures c.normal_is_plain.ensures c.instances_are_literals.ensures c.no_model_gives_clash.ensures
    c.clashing_instances_give_valid.ensures
