use Rattle.std.proofs.Common.{true}
use Rattle.jh_arena.specs.table.Nodes.{nodes}
use Rattle.jh_query_names.specs.query_names.Kinds.{value_at}
use Rattle.jh_query_names.specs.mentioned_names.Linking.{linking}
use Rattle.jh_query_names.proofs.mentioned_names.Listings.{any-found, any-passed}
use Rattle.jh_query_names.proofs.mentioned_names.linking.has_links.Goals as goal

pub returns-then-is_link : goal.returns-then-is_link
returns-then-is_link c =
    any-found (λ n. linking true (value_at (nodes c.args.table.now) n)) c.args.row.now c.loop-place.place c.node_at.result c.is_link.result c.node_at.ensures c.is_link.ensures c.if-is_link.true c.loop-place.invariant

pub loop-place-preserved : goal.loop-place-preserved
loop-place-preserved c =
    any-passed (λ n. linking true (value_at (nodes c.args.table.now) n)) c.args.row.now c.loop-place.place c.node_at.result c.is_link.result c.node_at.ensures c.is_link.ensures c.if-is_link.false c.loop-place.invariant
