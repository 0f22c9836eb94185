-- The tree of a number atom that is brought to one side.
use Rattle.jh_query.specs.declared.queries.rows.Side.{Side}
use Rattle.jh_query.specs.declared.queries.rows.Side.TheVariants.{Alone, Difference}
use Rattle.jh_query.specs.queries.Tree.{NumTree}
use Rattle.jh_query.specs.queries.Tree as t
use Rattle.jh_query.specs.queries.Bare.{num_tree}

abbrev pub side_tree : Side → NumTree
side_tree (Alone a) = num_tree a.now
side_tree (Difference a b) = t.sub (num_tree a.now) (num_tree b.now)
