use Rattle.jh_query.specs.queries.Sides.{side_tree}
use Rattle.jh_query_branching.proofs.Rowing.{moved-back, moved-back-small, moved-small}
use Rattle.jh_query_branching.proofs.sides.moved.Goals as goal

pub narrowed-requires : goal.narrowed-requires
narrowed-requires c = moved-small c.args.spots.now (side_tree c.args.side.now) c.moved_side.result c.moved_side.ensures c.requires

pub returns : goal.returns
returns c = record {
  value = moved-back c.args.spots.now (side_tree c.args.side.now) c.moved_side.result c.narrowed.result c.narrowed.ensures c.moved_side.ensures c.requires;
  bound = moved-back-small c.args.spots.now (side_tree c.args.side.now) c.moved_side.result c.narrowed.result c.narrowed.ensures c.moved_side.ensures c.requires;
}
