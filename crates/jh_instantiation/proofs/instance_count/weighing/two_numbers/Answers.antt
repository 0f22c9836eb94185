use Rattle.jh_inst.specs.instances.Terms.{number_terms}
use Rattle.jh_instantiation.proofs.instance_count.Weights.{two-weigh}
use Rattle.jh_instantiation.proofs.instance_count.weighing.two_numbers.Goals as goal

pub returns : goal.returns
returns c = λ p q e f. two-weigh c.args.scope.terms c.args.scope.powers.now c.plus.result c.number-first.result c.number-second.result (number_terms p) (number_terms q) c.plus.ensures (c.number-first.ensures p e) (c.number-second.ensures q f)
