use Rattle.std.proofs.Common.{ap}
use Rattle.jh_closure.specs.structures.Literals.{literal_tree}
use Rattle.jh_models.specs.ground_models.Atoms.{literal}
use Rattle.jh_local.proofs.boxing.boxed.Goals as goal

pub returns : goal.returns
unfolding literal_tree
returns c = ap (λ a. literal a c.args.literal.holds) c.in_ok-boxed_formula.ensures.tree
