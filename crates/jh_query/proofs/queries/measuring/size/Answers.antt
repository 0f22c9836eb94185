use Rattle.std.proofs.Common.{arith, refl}
use Rattle.jh_query.specs.queries.Bare.{query_tree}
use Rattle.jh_query.proofs.queries.Measures.{size-is}
use Rattle.jh_query.proofs.queries.measuring.size.Goals as goal

pub returns-in-Some : goal.returns-in-Some
returns-in-Some c =
    size-is (query_tree c.args.query.now) _ _ _ _ _ _ _ (omega arith) c.in-Some.ensures.0 c.in-Some.ensures.2 c.column_count-columns.ensures c.plus.ensures c.places.ensures c.in-Some.ensures.1
    c.times-cases.ensures c.times.ensures
