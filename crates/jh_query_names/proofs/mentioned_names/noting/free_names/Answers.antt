use Rattle.std.proofs.Common.{subst, List, ℕ}
use Rattle.std.specs.List.{filter}
use Rattle.jh_arena.specs.table.Nodes.{nodes}
use Rattle.jh_normal_forms.specs.parts.Asked.{is_free_name}
use Rattle.jh_normal_forms.specs.parts.Collected.{IsCollected}
use Rattle.jh_normal_forms.specs.parts.Standing.{value_parts}
use Rattle.jh_normal_forms.specs.declared.parts.order.Order.TheVariants as order
use Rattle.jh_query_names.specs.query_names.Kinds.{value_at}
use Rattle.jh_query_names.proofs.mentioned_names.noting.free_names.Goals as goal

pub returns : goal.returns
returns c =
    let ts = nodes c.args.table.now in
    subst (λ (old : List ℕ). IsCollected ts old (filter is_free_name (value_parts (value_at ts c.args.node) order.OuterFirst)) c.add_parts.new.self) c.new-list.ensures c.in_ok-add_parts.ensures.parts
