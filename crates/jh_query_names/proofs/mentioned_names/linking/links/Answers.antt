use Rattle.std.proofs.Common.{sym, ap, ◌∙◌, ◌+◌, ◌++◌, drop}
use Rattle.std.specs.Prelude.{filter}
use Rattle.jh_arena.specs.table.Nodes.{nodes}
use Rattle.jh_query_names.specs.query_names.Kinds.{value_at}
use Rattle.jh_query_names.specs.mentioned_names.Linking.{linking}
use Rattle.jh_query_names.proofs.mentioned_names.Listings.{kept-more, kept-none}
use Rattle.jh_query_names.proofs.mentioned_names.linking.links.Goals.{then-is_link+in_ok-push, else-is_link}
use Rattle.jh_query_names.proofs.mentioned_names.linking.links.Goals as goal

pub loop-place-preserved : goal.loop-place-preserved
loop-place-preserved c = elim c.if-is_link.branch [
  | then-is_link+in_ok-push w ↦
      ap (λ ns. ns.items ++ filter (λ n. linking c.args.few (value_at (nodes c.args.table.now) n)) (drop (c.loop-place.place + 1) c.args.row.now)) w.kept-is
      ∙ kept-more (λ n. linking c.args.few (value_at (nodes c.args.table.now) n)) c.args.row.now c.loop-place.place c.node_at-node.result c.loop-place.kept.items w.push.new.self.items c.node_at-node.ensures (sym c.is_link.ensures ∙ w.if-is_link.true)
      w.in_ok-push.ensures.items c.loop-place.invariant
  | else-is_link w ↦
      ap (λ ns. ns.items ++ filter (λ n. linking c.args.few (value_at (nodes c.args.table.now) n)) (drop (c.loop-place.place + 1) c.args.row.now)) w.kept-is
      ∙ kept-none (λ n. linking c.args.few (value_at (nodes c.args.table.now) n)) c.args.row.now c.loop-place.place c.node_at-node.result c.loop-place.kept.items c.node_at-node.ensures (sym c.is_link.ensures ∙ w.if-is_link.false) c.loop-place.invariant
]
