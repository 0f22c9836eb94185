use Rattle.jh_query.proofs.queries.Equalities.{same_atom-is}
use Rattle.jh_query.proofs.queries.laws.same_atoms_are_equal.Goals as goal

pub returns : goal.returns
returns c = same_atom-is
