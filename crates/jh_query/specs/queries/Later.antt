-- The atoms behind a place of a query.
use Rattle.std.specs.Prelude.{List, [], ◌++◌, map}
use Rattle.std.specs.List.{flat_map}
use Rattle.jh_query.specs.declared.queries.atoms.Later.{Later}
use Rattle.jh_query.specs.declared.queries.atoms.Later.TheVariants.{Nothing, One', Several'}
use Rattle.jh_query.specs.queries.Tree.{CondTree}
use Rattle.jh_query.specs.queries.Bare.{cond_tree}
use Rattle.jh_query.specs.queries.Size.{atoms}

abbrev pub later_atoms : Later → List CondTree
later_atoms Nothing = []
later_atoms (One' cond i rest) = atoms (cond_tree cond.now) ++ later_atoms rest
later_atoms (Several' conds i rest) = flat_map atoms (map cond_tree conds.now) ++ later_atoms rest
