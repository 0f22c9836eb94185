use Rattle.std.proofs.Common.{◌≡◌, sym, ap, ◌∙◌, Some, slice_get}
use Rattle.std.proofs.lemmas.Result.{IfOk-weaker}
use Rattle.jh_arena.specs.table.Entries.{the_name}
use Rattle.jh_vars.specs.Resolved.{own, turned}
use Rattle.jh_receiver.proofs.Entries.{turned-dotted, turned-plain}
use Rattle.jh_receiver.proofs.entry.turned_state.Goals as goal

-- src/entry.rt
pub returns-then-has_dot-clause-name : goal.returns-then-has_dot-clause-name
returns-then-has_dot-clause-name c =
    let o = slice_get c.args.table.now.pools.names c.args.number in
    IfOk-weaker
    c.at_turn_one.result
    (λ made. slice_get c.at_turn_one.new.table.pools.names made ≡ Some (own (the_name o).text 1))
    (λ made. slice_get c.at_turn_one.new.table.pools.names made ≡ Some (turned (the_name o)))
    (λ made e. e ∙ ap Some (sym (turned-dotted o c.name_at.result.now c.has_dot.result c.name_at.ensures c.has_dot.ensures c.if-has_dot.true)))
    c.at_turn_one.ensures.name

pub returns-else-has_dot-clause-name : goal.returns-else-has_dot-clause-name
returns-else-has_dot-clause-name c =
    let o = slice_get c.args.table.now.pools.names c.args.number in
    c.name_at.ensures ∙ ap Some (sym (turned-plain o c.name_at.result.now c.has_dot.result c.name_at.ensures c.has_dot.ensures c.if-has_dot.false))
