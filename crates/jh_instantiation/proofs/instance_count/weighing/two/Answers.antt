use Rattle.jh_inst.specs.instances.Terms.{terms_in}
use Rattle.jh_instantiation.proofs.instance_count.Weights.{two-weigh}
use Rattle.jh_instantiation.proofs.instance_count.weighing.two.Goals as goal

pub returns : goal.returns
returns c = λ p q e f. two-weigh c.args.scope.terms c.args.scope.powers.now c.plus.result c.chain-first.result.all c.chain-second.result.all (terms_in p) (terms_in q) c.plus.ensures (c.chain-first.ensures.all p e) (c.chain-second.ensures.all q f)
