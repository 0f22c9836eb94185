use Rattle.jh_inst.specs.instances.Terms.{terms_in, set_terms}
use Rattle.jh_instantiation.proofs.instance_count.Weights.{two-weigh}
use Rattle.jh_instantiation.proofs.instance_count.weighing.member.Goals as goal

pub returns : goal.returns
returns c = λ p q e f. two-weigh c.args.scope.terms c.args.scope.powers.now c.plus.result c.chain-first.result.all c.set-second.result (terms_in p) (set_terms q) c.plus.ensures (c.chain-first.ensures.all p e) (c.set-second.ensures q f)
