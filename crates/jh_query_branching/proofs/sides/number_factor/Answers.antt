use Rattle.jh_query.specs.queries.Sides.{side_tree}
use Rattle.jh_query.specs.queries.Linear.{constant_part, number_factor, rest_factor}
use Rattle.jh_query_branching.proofs.Rowing.{narrow-back, narrow-small}
use Rattle.jh_query_branching.proofs.sides.number_factor.Goals as goal

pub narrowed-requires : goal.narrowed-requires
narrowed-requires c = narrow-small (number_factor c.args.number) (side_tree c.args.side.now) c.part_of_side.result c.part_of_side.ensures c.requires

pub returns : goal.returns
returns c = narrow-back (number_factor c.args.number) (side_tree c.args.side.now) c.part_of_side.result c.narrowed.result c.narrowed.ensures c.part_of_side.ensures c.requires
