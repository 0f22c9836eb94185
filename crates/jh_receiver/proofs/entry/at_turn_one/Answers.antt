use Rattle.std.proofs.Common.{◌≡◌, sym, ap, ◌∙◌, Some, slice_get}
use Rattle.std.proofs.lemmas.Result.{IfOk-weaker}
use Rattle.jh_arena.specs.table.Entries.{the_name}
use Rattle.jh_vars.specs.Resolved as resolved
use Rattle.jh_receiver.proofs.Entries.{name-is}
use Rattle.jh_receiver.proofs.entry.at_turn_one.Goals as goal

-- src/entry.rt
pub returns-clause-name : goal.returns-clause-name
returns-clause-name c =
    IfOk-weaker
    c.name-2.result
    (λ made. slice_get c.name-2.new.self.pools.names made ≡ Some c.in_ok-turned.turned)
    (λ made. slice_get c.name-2.new.self.pools.names made ≡ Some (resolved.own (the_name (slice_get c.args.table.now.pools.names c.args.number)).text 1))
    (λ made e. e ∙ ap Some (c.in_ok-turned.ensures ∙ (λ i. resolved.own (c.text.ensures i) 1) ∙ ap (λ x. resolved.own x.text 1) (sym (name-is (slice_get c.args.table.now.pools.names c.args.number) c.name_at.result.now c.name_at.ensures))))
    c.name-2.ensures.number
