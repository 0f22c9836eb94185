use Rattle.jh_boxed_operations.proofs.comparison.Equalities.{equal_trees-true, equal_trees-same}
use Rattle.jh_boxed_operations.proofs.equality.laws.equality_is_decided.Goals as goal

pub returns : goal.returns
returns c = λ u v. (equal_trees-true u v, equal_trees-same u v)
