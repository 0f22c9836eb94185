-- Which queries are decided.
use Rattle.std.specs.Prelude.{◌≤◌}
use Rattle.jh_query.specs.queries.Tree.{QueryTree}
use Rattle.jh_query.specs.queries.Size.{query_size}

-- the queries that are decided
pub record IsWithin (q : QueryTree) : Type 0 where
  pub sets : q.sets ≤ 6
  pub elements : q.elements ≤ 8
  pub size : query_size q ≤ 67108864
