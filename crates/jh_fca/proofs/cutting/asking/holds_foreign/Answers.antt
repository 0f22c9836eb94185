use Rattle.std.proofs.Common.{nat_eq, subst, ap, ◌∙◌, not, ℕ, List, slice_get}
use Rattle.jh_arena.specs.table.Entries.{the_value}
use Rattle.jh_arena.specs.table.Nodes.{nodes}
use Rattle.jh_normal_forms.specs.parts.Collected.{IsCollected}
use Rattle.jh_normal_forms.specs.declared.parts.order.Order.TheVariants as order
use Rattle.jh_normal_forms.specs.parts.Standing.{value_parts}
use Rattle.std.specs.List.{filter}
use Rattle.jh_fca.specs.cutting.Cut.{is_foreign}
use Rattle.jh_fca.proofs.cutting.Foreigns.{any-collected}
use Rattle.jh_fca.proofs.cutting.asking.holds_foreign.Goals as goal

pub returns : goal.returns
returns c =
    let ts = nodes c.args.table.now in
    let parts = value_parts (the_value (slice_get ts c.args.node)) order.InnerFirst in
    ap (λ n. not (nat_eq n 0)) c.len.ensures
    ∙ any-collected ts is_foreign parts c.add_parts.new.self (subst (λ (old : List ℕ). IsCollected ts old (filter is_foreign parts) c.add_parts.new.self) c.new-list.ensures c.in_ok-add_parts.ensures.parts)
